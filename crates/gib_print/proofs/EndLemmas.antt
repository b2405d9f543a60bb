-- What is left behind a value that is passed.
use Rattle.std.proofs.Common.{◌≡◌, ℕ, zero, suc, ◌+◌, ◌≤◌, List, [], ◌∷◌, ◌++◌, drop, refl, sym, ap, subst, ◌∙◌, arith, append_assoc, Bool, true, false, None, Some}
use Rattle.std.specs.Prelude.{Option, IsTrue, IsFalse}
use Rattle.std.specs.Fmt.{signed_decimal}
use Rattle.gib_types.specs.declared.table.Ty.{Ty}
use Rattle.gib_types.specs.declared.table.Ty.TheVariants as ty
use Rattle.gib_types.specs.declared.table.TyId.{TyId}
use Rattle.gib_types.specs.Table.{Table, fields_at}
use Rattle.gib_types.specs.Layout.{LaidOut, field_types}
use Rattle.gib_types.specs.Tree.{Datum, whole, truth, con, Data, none, more}
use Rattle.gib_mem.specs.Memory.{Store}
use Rattle.gib_value.specs.Text.{spell, spell_fields, text, truth_text, con_text}
use Rattle.gib_packed.specs.Decoding.{Dec}
use Rattle.gib_print.specs.Cut.{a_part, Comes}
use Rattle.gib_print.specs.Framing.{left_fields, closes, back_work, works, passed}
use Rattle.gib_print.specs.Working.{fields_from, Left}
use Rattle.gib_print.specs.Working as left
use Rattle.gib_print.specs.declared.frame.Frame.{Frame}
use Rattle.gib_print.specs.declared.item.Item.TheVariants as i
use Rattle.gib_print.specs.declared.work.Work.{Work}
use Rattle.gib_print.specs.declared.work.Work.TheVariants as w
use Rattle.gib_print.proofs.FrameLemmas.{of_field, drop_next}

-- ---- a text before something is the text, and then that

mutual
  spell_apart : (table : Table) (names : List (List ℕ)) (v : Datum) (rest : List ℕ) → spell table names v rest ≡ text table names v ++ rest
  spell_apart table names (whole z) rest = sym (append_assoc (signed_decimal z) [] rest)
  spell_apart table names (truth b) rest = sym (append_assoc (truth_text b) [] rest)
  spell_apart table names (con k none) rest = sym (append_assoc (con_text table names k) [] rest)
  spell_apart table names (con k (more v vs)) rest =
      let name = con_text table names k in
      let first : spell table names v (spell_fields table names vs rest) ≡ spell table names v (spell_fields table names vs []) ++ rest = spell_apart table names v (spell_fields table names vs rest)
      ∙ ap (λ (x : List ℕ). text table names v ++ x) (fields_apart table names vs rest)
      ∙ sym (append_assoc (text table names v) (spell_fields table names vs []) rest)
      ∙ ap (λ (x : List ℕ). x ++ rest) (sym (spell_apart table names v (spell_fields table names vs []))) in
      ap (λ (x : List ℕ). 40 ∷ (name ++ 32 ∷ x)) first ∙ ap (λ (x : List ℕ). 40 ∷ x) (sym (append_assoc name (32 ∷ spell table names v (spell_fields table names vs [])) rest))

  fields_apart : (table : Table) (names : List (List ℕ)) (vs : Data) (rest : List ℕ) → spell_fields table names vs rest ≡ spell_fields table names vs [] ++ rest
  fields_apart table names none rest = refl
  fields_apart table names (more v vs) rest = ap (λ (x : List ℕ). 32 ∷ x) (
      spell_apart table names v (spell_fields table names vs rest)
      ∙ ap (λ (x : List ℕ). text table names v ++ x) (fields_apart table names vs rest)
      ∙ sym (append_assoc (text table names v) (spell_fields table names vs []) rest)
      ∙ ap (λ (x : List ℕ). x ++ rest) (sym (spell_apart table names v (spell_fields table names vs []))))

-- ---- the value that is due

-- it stands here, and what is left behind it is left where it ends
pub record Passes (laid : LaidOut) (names : List (List ℕ)) (s : Store) (a : ℕ) (f : Frame) (fs : List Frame) (rest : List ℕ) : Type 0 where
  pub t : ℕ
  pub v : Datum
  pub z : ℕ
  pub later : List ℕ
  pub stands : Dec laid s a t v z
  pub left : Left laid names s (works laid.table (passed f 0 ∷ fs)) z later
  pub whole : 32 ∷ (text laid.table names v ++ later) ≡ rest

pub passes : {laid : LaidOut} {names : List (List ℕ)} {s : Store} (f : Frame) (fs : List Frame) {ts : List Ty} {t : TyId} {a : ℕ} {rest : List ℕ} → left_fields laid.table f ≡ ty.Tree t ∷ ts → Left laid names s (works laid.table (f ∷ fs)) a rest → Passes laid names s a f fs rest
passes {laid = laid} {names = names} {s = s} f fs {ts = ts} {t = t} {a = a} e l = go (of_field f fs e l)
  where
    below : List Work
    below = fields_from f.scalar ts ++ closes f.closes (back_work f.back (works laid.table fs))

    same : works laid.table (passed f 0 ∷ fs) ≡ below
    same = ap (λ (xs : List Ty). fields_from (f.scalar + 0) xs ++ closes f.closes (back_work f.back (works laid.table fs))) (drop_next (fields_at laid.table f.con.0) f.next (ty.Tree t) ts e)
        ∙ ap (λ (x : ℕ). fields_from x ts ++ closes f.closes (back_work f.back (works laid.table fs))) (let none : f.scalar + 0 ≡ f.scalar = omega arith in none)

    go : {rest : List ℕ} → Left laid names s (w.Tree ∷ below) a rest → Passes laid names s a f fs rest
    go (left.a_tree {t = u} {z = z} {v = v} {rest = later} d m) = record {
      t = u;
      v = v;
      z = z;
      later = later;
      stands = d;
      left = subst (λ (ws : List Work). Left laid names s ws z later) (sym same) m;
      whole = ap (λ (x : List ℕ). 32 ∷ x) (sym (spell_apart laid.table names v later));
    }

-- the same of the innermost of frames, as the code reads its fields
pub passes_next : {laid : LaidOut} {names : List (List ℕ)} {s : Store} {hs fs : List Frame} {f : Frame} {fields : List Ty} {a : ℕ} {rest : List ℕ} → hs ≡ f ∷ fs → fields ≡ field_types laid f.con.0
    → (t : TyId) × (drop f.next fields ≡ ty.Tree t ∷ drop (suc f.next) fields) → Left laid names s (works laid.table hs) a rest → Passes laid names s a f fs rest
passes_next {laid = laid} {names = names} {s = s} {fs = fs} {f = f} {fields = fields} {a = a} {rest = rest} top same due l =
    passes f fs (subst (λ (x : List Ty). drop f.next x ≡ ty.Tree due.0 ∷ drop (suc f.next) fields) same due.1) (subst (λ (x : List Frame). Left laid names s (works laid.table x) a rest) top l)

-- ---- where nothing but parentheses is left

closes_anywhere : {laid : LaidOut} {names : List (List ℕ)} {s : Store} {a b : ℕ} {rest : List ℕ} (n : ℕ) (back : Option ℕ) → Left laid names s (closes n (back_work back [])) a rest → Left laid names s (closes n (back_work back [])) b rest
closes_anywhere zero None left.nothing = left.nothing
closes_anywhere zero (Some x) (left.go_on l) = left.go_on l
closes_anywhere (suc n) back (left.close l) = left.close (closes_anywhere n back l)

-- they are left wherever the value ends
last_anywhere : {laid : LaidOut} {names : List (List ℕ)} {s : Store} {a b : ℕ} {rest : List ℕ} (f : Frame) → left_fields laid.table f ≡ [] → Left laid names s (works laid.table (f ∷ [])) a rest → Left laid names s (works laid.table (f ∷ [])) b rest
last_anywhere {laid = laid} {names = names} {s = s} {a = a} {b = b} {rest = rest} f e l =
    let as_work : (x : List Ty) → List Work = λ (x : List Ty). fields_from f.scalar x ++ closes f.closes (back_work f.back []) in
    subst (λ (x : List Ty). Left laid names s (as_work x) b rest) (sym e) (closes_anywhere f.closes f.back (subst (λ (x : List Ty). Left laid names s (as_work x) a rest) e l))

-- where the walk goes on behind the value
pub comes_part : {laid : LaidOut} {names : List (List ℕ)} {s : Store} {a b : ℕ} {f : Frame} {fs : List Frame} {rest : List ℕ} (last : Bool) → Passes laid names s a f fs rest → (IsTrue last → (fs ≡ []) × (left_fields laid.table (passed f 0) ≡ []))
    → (IsFalse last → (t : ℕ) (v : Datum) (z : ℕ) → Dec laid s a t v z → b ≡ z) → Comes laid names s (i.Part a) (passed f 0 ∷ fs) b rest
comes_part {laid = laid} {names = names} {s = s} {a = a} {b = b} {f = f} {fs = fs} last p over ends = record {
  bytes = 32 ∷ text laid.table names p.v;
  later = p.later;
  is = a_part p.stands;
  left = go last over ends;
  whole = p.whole;
}
  where
    go : (x : Bool) → (IsTrue x → (fs ≡ []) × (left_fields laid.table (passed f 0) ≡ [])) → (IsFalse x → (t : ℕ) (v : Datum) (z : ℕ) → Dec laid s a t v z → b ≡ z) → Left laid names s (works laid.table (passed f 0 ∷ fs)) b p.later
    go true o e =
        let n = o refl in
        subst (λ (x : List Frame). Left laid names s (works laid.table (passed f 0 ∷ x)) b p.later) (sym n.0) (last_anywhere (passed f 0) n.1 (subst (λ (x : List Frame). Left laid names s (works laid.table (passed f 0 ∷ x)) p.z p.later) n.0 p.left))
    go false o e = subst (λ (x : ℕ). Left laid names s (works laid.table (passed f 0 ∷ fs)) x p.later) (sym (e refl p.t p.v p.z p.stands)) p.left
