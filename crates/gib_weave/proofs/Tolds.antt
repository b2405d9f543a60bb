-- Variables are told their ends, as far as the lines of a frame rely on it.
use Rattle.std.proofs.Common.{◌≡◌, ℕ, zero, suc, ◌<◌, Bool, true, false, ◌||◌, ◌&&◌, List, [], ◌∷◌, length, Option, Some, None, cond, refl, sym, ap, subst, ◌∙◌, arith}
use Rattle.std.proofs.lemmas.List.{get_or-set_same, get_or-set_other, length-set}
use Rattle.std.proofs.lemmas.Bool.{true≢false}
use Rattle.std.proofs.lemmas.Option.{none-some, same_Some}
use Rattle.gib_types.specs.Layout.{LaidOut}
use Rattle.gib_types.specs.Tree.{Datum, whole, truth}
use Rattle.gib_types.specs.declared.table.Ty.{Ty}
use Rattle.gib_syntax.specs.Meaning.{value_in, Environment}
use Rattle.gib_mem.specs.Memory.{Store}
use Rattle.gib_packed.specs.Decoding as d
use Rattle.gib_packed.specs.Decoding.{Dec}
use Rattle.gib_core.specs.declared.atom.Variable.{Variable}
use Rattle.gib_core.specs.declared.atom.Atom.{Atom}
use Rattle.gib_core.specs.declared.atom.Atom.TheVariants as atom
use Rattle.gib_core.specs.Tree as term
use Rattle.gib_core.specs.Tree.{Term, CoreTree}
use Rattle.gib_core.specs.declared.atom.Ended.{Ended}
use Rattle.gib_core.specs.Ending.{Within, ended, has_ended, call_ends}
use Rattle.gib_core.specs.Low.{Over}
use Rattle.gib_core.specs.Fits.{put, Fits, Needs, Dest, Line, AtomFits, AtomsFit, call_tells, side_tells, Sort, Outside, Absent, Scalar, Held, Placed, Loose, AtHead, Field, Scope, has_slot, is_settled, is_there, tree_type}
use Rattle.gib_machine.specs.State.{Slots, slot, end_at, told, tell}
use Rattle.gib_weave.specs.EndWords.{both, HasEnd, EndWord, IsTold}
use Rattle.gib_weave.specs.Environment.{Ctx, Has, HasAll, IsScalar, Closes, Given, AreGiven, Gave}
use Rattle.gib_weave.specs.Continuing.{Kont, KEnd, KSide, KLast, KHere, KRegion, KScalar, KCall, KCallScalar, KPart, KSeveral, Goes, AllUnder}
use Rattle.gib_weave.proofs.Groups.{same_held}
use Rattle.gib_weave.proofs.Basics.{by_test, both_is}
use Rattle.gib_weave.proofs.Move.{Moved, moved_same, AllMoved, end_kept, tree_settled}
use Rattle.gib_weave.proofs.EndWords.{told_end, told_kept}

tell_none : (e : ℕ) → tell e 0 ≡ e
tell_none zero = refl
tell_none (suc e) = refl

pub tell_some : (e z : ℕ) → 0 < z → 0 < tell e z
tell_some zero z p = p
tell_some (suc e) z p = omega arith

pub settled_slot : (so : Sort) → is_settled so ≡ true → has_slot so ≡ true
settled_slot Outside h = absurd (true≢false (sym h))
settled_slot Absent h = absurd (true≢false (sym h))
settled_slot (Scalar ty) h = refl
settled_slot Held h = absurd (true≢false (sym h))
settled_slot (Placed u) h = refl
settled_slot (Loose u) h = refl
settled_slot (AtHead u) h = refl
settled_slot (Field u z x k p) h = absurd (true≢false (sym h))

pub settled_not_held : (so : Sort) → is_settled so ≡ true → so ≡ Held → ⊥
settled_not_held so h e = true≢false (sym h ∙ ap is_settled e)

pub tree_end : (laid : LaidOut) (s : Store) (so : Sort) (t w e : ℕ) (v : Datum) (pl : ℕ) → tree_type so ≡ Some t → HasEnd laid s so w e v pl → EndWord laid s t pl w e v
tree_end laid s Outside t w e v pl h g = absurd (none-some _ h)
tree_end laid s Absent t w e v pl h g = absurd (none-some _ h)
tree_end laid s (Scalar ty) t w e v pl h g = absurd (none-some _ h)
tree_end laid s Held t w e v pl h g = absurd (none-some _ h)
tree_end laid s (Placed u) t w e v pl h g = subst (λ (q : ℕ). EndWord laid s q pl w e v) (same_Some _ _ h) g
tree_end laid s (Loose u) t w e v pl h g = subst (λ (q : ℕ). EndWord laid s q pl w e v) (same_Some _ _ h) g
tree_end laid s (AtHead u) t w e v pl h g = subst (λ (q : ℕ). EndWord laid s q pl w e v) (same_Some _ _ h) g
tree_end laid s (Field u z x k p) t w e v pl h g = absurd (none-some _ h)

pub tree_slot : (so : Sort) (t : ℕ) → tree_type so ≡ Some t → has_slot so ≡ true
tree_slot Outside t h = absurd (none-some _ h)
tree_slot Absent t h = absurd (none-some _ h)
tree_slot (Scalar ty) t h = refl
tree_slot Held t h = refl
tree_slot (Placed u) t h = refl
tree_slot (Loose u) t h = refl
tree_slot (AtHead u) t h = refl
tree_slot (Field u z x k p) t h = refl

pub tree_not_held : (so : Sort) (t : ℕ) → tree_type so ≡ Some t → so ≡ Held → ⊥
tree_not_held so t h e = none-some _ (sym (ap tree_type e) ∙ h)

same_end : (laid : LaidOut) (s : Store) (u t w a e e' pl : ℕ) (v v' : Datum) → u ≡ t → v' ≡ v → (EndWord laid s t pl w e v → EndWord laid s t pl a e' v) → EndWord laid s u pl w e v' → EndWord laid s u pl a e' v'
same_end laid s u t w a e e' pl v v' p q f = subst (λ (z : ℕ). EndWord laid s z pl w e v' → EndWord laid s z pl a e' v') (sym p) (subst (λ (z : Datum). EndWord laid s t pl w e z → EndWord laid s t pl a e' z) (sym q) f)

pub moved_end : (laid : LaidOut) (s : Store) (o i : Sort) (t w a e e' : ℕ) (v v' : Datum) (pl : ℕ) → Goes o i → tree_type i ≡ Some t → (is_there o ≡ true → v' ≡ v) → (EndWord laid s t pl w e v → EndWord laid s t pl a e' v) → HasEnd laid s o w e v' pl → HasEnd laid s o a e' v' pl
moved_end laid s Outside i t w a e e' v v' pl g h q f = λ z. tt
moved_end laid s Absent i t w a e e' v v' pl g h q f = λ z. tt
moved_end laid s (Scalar ty) i t w a e e' v v' pl g h q f = λ z. tt
moved_end laid s Held i t w a e e' v v' pl g h q f = λ z. tt
moved_end laid s (Placed u) i t w a e e' v v' pl g h q f = same_end laid s u t w a e e' pl v v' (same_Some _ _ (sym g ∙ h)) (q refl) f
moved_end laid s (Loose u) i t w a e e' v v' pl g h q f = same_end laid s u t w a e e' pl v v' (same_Some _ _ (sym g ∙ h)) (q refl) f
moved_end laid s (AtHead u) i t w a e e' v v' pl g h q f = same_end laid s u t w a e e' pl v v' (same_Some _ _ (sym (ap tree_type g) ∙ h)) (q refl) f
moved_end laid s (Field u z x k p) i t w a e e' v v' pl g h q f = λ r. tt

-- an end word is told the end of the value at the slot, or nothing
told_any : (laid : LaidOut) (s : Store) (t pl w e z : ℕ) (v : Datum) → (0 < z → Dec laid s w t v z) → EndWord laid s t pl w e v → EndWord laid s t pl w (tell e z) v
told_any laid s t pl w e zero v f h = subst (λ (q : ℕ). EndWord laid s t pl w q v) (sym (tell_none e)) h
told_any laid s t pl w e (suc z) v f h = told_end e h (omega arith) (f (omega arith))

-- What is told to x.
abbrev pub Tells : LaidOut → Store → Sort → (w : ℕ) → Datum → (z : ℕ) → Type 0
Tells laid s so w v z = (t : ℕ) → tree_type so ≡ Some t → 0 < z → Dec laid s w t v z

-- so do outer lines know it
pub told_known : (laid : LaidOut) (s : Store) (o i : Sort) (w e z : ℕ) (v v' : Datum) (pl : ℕ) → Goes o i → (is_there o ≡ true → v ≡ v') → Tells laid s i w v z → HasEnd laid s o w e v' pl → HasEnd laid s o w (tell e z) v' pl
told_known laid s Outside i w e z v v' pl g q f h = tt
told_known laid s Absent i w e z v v' pl g q f h = tt
told_known laid s (Scalar ty) i w e z v v' pl g q f h = tt
told_known laid s Held i w e z v v' pl g q f h = tt
told_known laid s (Placed u) i w e z v v' pl g q f h = told_any laid s u pl w e z v' (λ p. subst (λ (y : Datum). Dec laid s w u y z) (q refl) (f u g p)) h
told_known laid s (Loose u) i w e z v v' pl g q f h = told_any laid s u pl w e z v' (λ p. subst (λ (y : Datum). Dec laid s w u y z) (q refl) (f u g p)) h
told_known laid s (AtHead u) i w e z v v' pl g q f h = told_any laid s u pl w e z v' (λ p. subst (λ (y : Datum). Dec laid s w u y z) (q refl) (f u (ap tree_type g) p)) h
told_known laid s (Field u z' x k p) i w e z v v' pl g q f h = tt

-- what is told stays, and more is
pub told_still : (sl : Slots) (x z y : ℕ) → x < length sl.ends → 0 < end_at sl y → 0 < end_at (told sl x z) y
told_still sl x z y lt h = by_test y x (λ b. 0 < end_at (told sl x z) y)
    (λ e. subst (λ (q : ℕ). 0 < end_at (told sl x z) q) (sym e) (subst (λ (q : ℕ). 0 < q) (sym (get_or-set_same sl.ends x (tell (end_at sl x) z) 0 lt)) (told_kept (end_at sl x) z (subst (λ (q : ℕ). 0 < end_at sl q) e h))))
    (λ e. subst (λ (q : ℕ). 0 < q) (sym (get_or-set_other sl.ends x y (tell (end_at sl x) z) 0 e)) h)

pub told_now : (sl : Slots) (x z : ℕ) → x < length sl.ends → 0 < z → 0 < end_at (told sl x z) x
told_now sl x z lt p = subst (λ (q : ℕ). 0 < q) (sym (get_or-set_same sl.ends x (tell (end_at sl x) z) 0 lt)) (tell_some (end_at sl x) z p)

-- One end is told, as far as a line relies on it.
pub moved_told : (laid : LaidOut) (s : Store) (sl : Slots) (c : Ctx) (x z : ℕ) → x < length sl.ends
    → (HasEnd laid s (c.scope x) (slot sl x) (end_at sl x) (value_in c.env x) (c.pl x) → HasEnd laid s (c.scope x) (slot sl x) (tell (end_at sl x) z) (value_in c.env x) (c.pl x)) → Moved laid s sl (told sl x z) c
moved_told laid s sl c x z lt g = record { one = λ y. moved_same laid s (c.scope y) (slot sl y) (slot sl y) (value_in c.env y) refl; long = refl; ends = λ y. ends y; same_ends = length-set sl.ends x (tell (end_at sl x) z); kept = λ y st p. told_still sl x z y lt p }
  where
    ends : (y : ℕ) → HasEnd laid s (c.scope y) (slot sl y) (end_at sl y) (value_in c.env y) (c.pl y) → HasEnd laid s (c.scope y) (slot sl y) (end_at (told sl x z) y) (value_in c.env y) (c.pl y)
    ends y = by_test y x (λ b. HasEnd laid s (c.scope y) (slot sl y) (end_at sl y) (value_in c.env y) (c.pl y) → HasEnd laid s (c.scope y) (slot sl y) (end_at (told sl x z) y) (value_in c.env y) (c.pl y))
        (λ e. subst (λ (q : ℕ). HasEnd laid s (c.scope q) (slot sl q) (end_at sl q) (value_in c.env q) (c.pl q) → HasEnd laid s (c.scope q) (slot sl q) (end_at (told sl x z) q) (value_in c.env q) (c.pl q)) (sym e)
        (λ h. subst (λ (q : ℕ). HasEnd laid s (c.scope x) (slot sl x) q (value_in c.env x) (c.pl x)) (sym (get_or-set_same sl.ends x (tell (end_at sl x) z) 0 lt)) (g h)))
        (λ e. end_kept laid s (c.scope y) (slot sl y) (slot sl y) (end_at sl y) (end_at (told sl x z) y) (value_in c.env y) (c.pl y) (λ h. refl) (λ h. get_or-set_other sl.ends x y (tell (end_at sl x) z) 0 e))

both_told : (sl : Slots) (x z y : ℕ) → (y ≡ x → ⊥) → both (told sl x z) y ≡ both sl y
both_told sl x z y ne = both_is (slot sl y) (end_at (told sl x z) y) (slot sl y) (end_at sl y) refl (get_or-set_other sl.ends x y (tell (end_at sl x) z) 0 ne)

pub all_moved_told : (laid : LaidOut) (s : Store) (sl : Slots) (sc : Scope) (env : Environment) (k : Kont) (x z : ℕ) → x < length sl.ends → (sc x ≡ Held → ⊥)
    → Tells laid s (sc x) (slot sl x) (value_in env x) z → AllUnder sc env k → AllMoved laid s sl (told sl x z) k
all_moved_told laid s sl sc env (KEnd ty) x z lt nh f u = tt
all_moved_told laid s sl sc env (KSide b) x z lt nh f u = tt
all_moved_told laid s sl sc env (KLast l y q) x z lt nh f u = refl
all_moved_told laid s sl sc env (KHere l y q t o k) x z lt nh f u = (both_told sl x z y (λ i. nh (sym (ap sc i) ∙ u.0)), moved_told laid s sl o x z lt (told_known laid s (o.scope x) (sc x) (slot sl x) (end_at sl x) z (value_in env x) (value_in o.env x) (o.pl x) (u.1.sorts x) (u.1.same x) f), all_moved_told laid s sl sc env k x z lt nh f u.2)
all_moved_told laid s sl sc env (KRegion l y q t o k) x z lt nh f u = (both_told sl x z y (λ i. nh (sym (ap sc i) ∙ u.0)), moved_told laid s sl o x z lt (told_known laid s (o.scope x) (sc x) (slot sl x) (end_at sl x) z (value_in env x) (value_in o.env x) (o.pl x) (u.1.sorts x) (u.1.same x) f), all_moved_told laid s sl sc env k x z lt nh f u.2)
all_moved_told laid s sl sc env (KScalar l y ty t o k) x z lt nh f u = (moved_told laid s sl o x z lt (told_known laid s (o.scope x) (sc x) (slot sl x) (end_at sl x) z (value_in env x) (value_in o.env x) (o.pl x) (u.0.sorts x) (u.0.same x) f), all_moved_told laid s sl sc env k x z lt nh f u.1)
all_moved_told laid s sl sc env (KCall gs o k) x z lt nh f u = tt
all_moved_told laid s sl sc env (KCallScalar y ty gs t o k) x z lt nh f u = tt
all_moved_told laid s sl sc env (KPart l i t tys ss vs ps o k) x z lt nh f u = (moved_told laid s sl o x z lt (told_known laid s (o.scope x) (sc x) (slot sl x) (end_at sl x) z (value_in env x) (value_in o.env x) (o.pl x) (u.0.sorts x) (u.0.same x) f), all_moved_told laid s sl sc env k x z lt nh f u.1)
all_moved_told laid s sl sc env (KSeveral l ys tys t o k) x z lt nh f u =
    (same_held sl (told sl x z) sc tys ys (λ y h. both_told sl x z y (λ i. nh (sym (ap sc i) ∙ h))) u.0, moved_told laid s sl o x z lt (told_known laid s (o.scope x) (sc x) (slot sl x) (end_at sl x) z (value_in env x) (value_in o.env x) (o.pl x) (u.1.sorts x) (u.1.same x) f), all_moved_told laid s sl sc env k x z lt nh f u.2)

-- what a frame that is left gives
pub gives_back : (laid : LaidOut) (s : Store) (sl : Slots) (c : Ctx) (j : ℕ) (gs : List (Option Given)) → HasAll laid s sl c → AreGiven c j gs → Gave laid s sl.ends j gs
gives_back laid s sl c j [] h g = tt
gives_back laid s sl c j (None ∷ gs) h g = gives_back laid s sl c (suc j) gs h g
gives_back laid s sl c j (Some x ∷ gs) h g =
    let e = tree_end laid s (c.scope j) x.t (slot sl j) (end_at sl j) (value_in c.env j) (c.pl j) g.0 (h.ends j) in
    (λ p. subst (λ (q : ℕ). Dec laid s q x.t x.v (end_at sl j)) g.1 (subst (λ (q : Datum). Dec laid s (c.pl j) x.t q (end_at sl j)) g.2 (e.ends p)), gives_back laid s sl c (suc j) gs h g.3)

-- no scalar is a tree
pub no_whole : {laid : LaidOut} {s : Store} {t a z : ℕ} {i : Rattle.std.specs.Prelude.ℤ} → Dec laid s a t (whole i) z → ⊥
no_whole (d.redirect p e) = no_whole e
no_whole (d.indirect p e f) = no_whole e

pub no_truth : {laid : LaidOut} {s : Store} {t a z : ℕ} {b : Bool} → Dec laid s a t (truth b) z → ⊥
no_truth (d.redirect p e) = no_truth e
no_truth (d.indirect p e f) = no_truth e

no_scalar : {laid : LaidOut} {s : Store} {t a z : ℕ} {v : Datum} (ty : Ty) (w : ℕ) → IsScalar ty w v → Dec laid s a t v z → ⊥
no_scalar {laid} {s} {t} {a} {z} Rattle.gib_types.specs.declared.table.Ty.TheVariants.Whole w h e = no_whole (subst (λ (q : Datum). Dec laid s a t q z) h.1 e)
no_scalar {laid} {s} {t} {a} {z} Rattle.gib_types.specs.declared.table.Ty.TheVariants.Truth w h e = no_truth (subst (λ (q : Datum). Dec laid s a t q z) h.1 e)
no_scalar (Rattle.gib_types.specs.declared.table.Ty.TheVariants.Tree t) w h e = h

-- the last field of a tree is settled, and its end is not 0: there the tree ends too
pub over_tells : (laid : LaidOut) (s : Store) (sl : Slots) (c : Ctx) (o : Over) → HasAll laid s sl c → Closes laid s c o → IsTold sl c.scope o.field → Tells laid s (c.scope o.tree) (slot sl o.tree) (value_in c.env o.tree) (end_at sl o.field)
over_tells laid s sl c o h cl told t sort p =
    let hd : Rattle.gib_weave.specs.Environment.IsAtHead laid s cl.tx (slot sl o.tree) (c.hd o.tree) (value_in c.env o.tree) = subst (λ (so : Sort). Has laid s c so (slot sl o.tree) (value_in c.env o.tree) (c.pl o.tree) (c.hd o.tree)) cl.head (h.has o.tree) in
    let same : cl.tx ≡ t = same_Some _ _ (sym (ap tree_type cl.head) ∙ sort) in
    let last : cl.end ≡ end_at sl o.field = go (c.scope o.field) refl told.settled in
    subst (λ (q : ℕ). Dec laid s q t (value_in c.env o.tree) (end_at sl o.field)) (sym hd.same) (subst (λ (q : ℕ). Dec laid s (c.hd o.tree) q (value_in c.env o.tree) (end_at sl o.field)) same (subst (λ (q : ℕ). Dec laid s (c.hd o.tree) cl.tx (value_in c.env o.tree) q) last cl.tree))
  where
    by_word : (u : ℕ) → tree_type (c.scope o.field) ≡ Some u → cl.end ≡ end_at sl o.field
    by_word u e = (Rattle.gib_packed.proofs.Unique.Dec-same cl.field ((tree_end laid s (c.scope o.field) u (slot sl o.field) (end_at sl o.field) (value_in c.env o.field) (c.pl o.field) e (h.ends o.field)).ends p)).end

    go : (so : Sort) → c.scope o.field ≡ so → is_settled so ≡ true → cl.end ≡ end_at sl o.field
    go Outside e g = absurd (true≢false (sym g))
    go Absent e g = absurd (true≢false (sym g))
    go (Scalar ty) e g = absurd (no_scalar ty (slot sl o.field) (subst (λ (so : Sort). Has laid s c so (slot sl o.field) (value_in c.env o.field) (c.pl o.field) (c.hd o.field)) e (h.has o.field)) cl.field)
    go Held e g = absurd (true≢false (sym g))
    go (Placed u) e g = by_word u (ap tree_type e)
    go (Loose u) e g = by_word u (ap tree_type e)
    go (AtHead u) e g = by_word u (ap tree_type e)
    go (Field u z x k q) e g = absurd (true≢false (sym g))

-- What a call tells are settled variables.
atom_settled : (sc : Scope) (x : Variable) (p : Ty) → AtomFits sc (atom.Variable x) p → is_settled (sc x.0) ≡ true
atom_settled sc x Rattle.gib_types.specs.declared.table.Ty.TheVariants.Whole h = ap is_settled h
atom_settled sc x Rattle.gib_types.specs.declared.table.Ty.TheVariants.Truth h = ap is_settled h
atom_settled sc x (Rattle.gib_types.specs.declared.table.Ty.TheVariants.Tree t) h = tree_settled (sc x.0) t.0 h

atoms_settled : (es : List Ended) (f k : ℕ) (sc : Scope) (q : ℕ) (xs : List Atom) (ps : List Ty) → AtomsFit sc xs ps → call_ends es f k xs (record { 0 = q }) ≡ true → is_settled (sc q) ≡ true
atoms_settled es f k sc q [] ps h e = absurd (true≢false (sym e))
atoms_settled es f k sc q (x ∷ xs) [] h e = absurd h
atoms_settled es f k sc q (atom.Whole i ∷ xs) (p ∷ ps) h e = atoms_settled es f (suc k) sc q xs ps h.1 e
atoms_settled es f k sc q (atom.Truth i ∷ xs) (p ∷ ps) h e = atoms_settled es f (suc k) sc q xs ps h.1 e
atoms_settled es f k sc q (atom.Variable x ∷ xs) (p ∷ ps) h e =
    by_test x.0 q (λ b. ((b && has_ended es f k) || call_ends es f (suc k) xs (record { 0 = q })) ≡ true → is_settled (sc q) ≡ true)
    (λ i g. subst (λ (y : ℕ). is_settled (sc y) ≡ true) i (atom_settled sc x p h.0)) (λ i g. atoms_settled es f (suc k) sc q xs ps h.1 g) e

pub call_settled : (w : Within) (core : CoreTree) (f : ℕ) (sc : Scope) (q : ℕ) (xs : List Atom) (ps : List Ty) → AtomsFit sc xs ps → call_tells w core f xs q ≡ true → is_settled (sc q) ≡ true
call_settled w core f sc q xs ps h e = go w.par e
  where
    go : (b : Bool) → cond b false (call_ends (ended core) f 0 xs (record { 0 = q })) ≡ true → is_settled (sc q) ≡ true
    go true g = absurd (true≢false (sym g))
    go false g = atoms_settled (ended core) f 0 sc q xs ps h g

pub side_settled : (w : Within) (core : CoreTree) (ns : Needs) (t : Term) (sc : Scope) (d : Dest) (ln : Line) → Fits core ns t sc d ln → (q : ℕ) → side_tells w core t q ≡ true → is_settled (sc q) ≡ true
side_settled w core ns (term.Then b u) sc d ln h q e = absurd (true≢false (sym e))
side_settled w core ns (term.Write v k ss ps) sc d ln h q e = absurd (true≢false (sym e))
side_settled w core ns (term.Point x) sc d ln h q e = absurd (true≢false (sym e))
side_settled w core ns (term.CallTerm f xs) sc d ln h q e = call_settled w core f.0 sc q xs h.1.function.parameters h.1.arguments e
side_settled w core ns (term.Give x) sc d ln h q e = absurd (true≢false (sym e))
side_settled w core ns (term.CaseTerm x bs) sc d ln h q e = absurd (true≢false (sym e))
side_settled w core ns (term.IfTerm x u v) sc d ln h q e = absurd (true≢false (sym e))
side_settled w core ns (term.Tuple tys ss ps) sc d ln h q e = absurd (true≢false (sym e))

-- before the side's variable was held
pub unheld : (sc : Scope) (x q : ℕ) → is_settled (put sc x Held q) ≡ true → is_settled (sc q) ≡ true
unheld sc x q = by_test q x (λ b. is_settled (cond b Held (sc q)) ≡ true → is_settled (sc q) ≡ true) (λ e h. absurd (true≢false (sym h))) (λ e h. h)
