-- Types with one description have the same values.
use Rattle.std.proofs.Common.{◌≡◌, ℕ, ◌+◌, ◌-◌, ◌<◌, ◌↔◌, true, List, [], ◌∷◌, ◌++◌, length, map, Some, refl, sym, ap, subst, ◌∙◌, arith}
use Rattle.std.specs.Prelude.{codes, slice_get}
use Rattle.std.proofs.lemmas.Option.{slice_get_within}
use Rattle.gib_types.specs.declared.table.Ty.{Ty}
use Rattle.gib_types.specs.declared.table.Ty.TheVariants.{Whole, Truth, Tree}
use Rattle.gib_types.specs.Table.{Table, IsTyBelow, con_at, fields_at, first_at, count_at, constructors_of}
use Rattle.gib_types.specs.Tree.{Datum, whole, truth, con, Data, none, more, HasType, HaveTypes}
use Rattle.gib_types.proofs.Owners.{together}
use Rattle.gib_file.specs.Packed.{Packed, packed}
use Rattle.gib_file.specs.Framed.{File2, Framed2}
use Rattle.gib_file.specs.Describing.{HasField, this, later, Reaches, itself, field, IsReached, type_text, type_word, Describes}
use Rattle.gib_file.specs.Named.{AreNamed}
use Rattle.gib_file.proofs.MarkLemmas.{is_reached_on}
use Rattle.gib_file.proofs.DescriptionLaws.{one}
use Rattle.gib_file.specs.Told.{ToldCon, ToldType, told_con, told_type, told_types, AreToldAlike}
use Rattle.gib_file.proofs.SchemaText.{one_schema}
use Rattle.gib_file.proofs.SchemaOf.{lines_are, word_is, lines_ok, fields_below, marked_line, line_marked, con_among, con_numbered}

-- ---- types that are reached

field_below : (n u : ℕ) (ts : List Ty) → Rattle.std.specs.List.AllByRecursion (IsTyBelow n) ts → HasField u ts → u < n
field_below n u [] h f = elim f [ ]
field_below n u (Tree t ∷ ts) h (this e) = subst (λ (x : ℕ). x < n) e h.0
field_below n u (t ∷ ts) h (later f) = field_below n u ts h.1 f

below : (table : Table) (names : List (List ℕ)) → AreNamed table names → (t u : ℕ) → Reaches table t u → t < length table.types → u < length table.types
below table names h t u itself lt = lt
below table names h t u (field own has further) lt = below table names h _ u further (field_below (length table.types) _ _ (fields_below table names h _) has)

reached_below : (table : Table) (names : List (List ℕ)) → AreNamed table names → (ty : Ty) (t : ℕ) → IsTyBelow (length table.types) ty → IsReached table ty t → t < length table.types
reached_below table names h Whole t lt r = absurd r
reached_below table names h Truth t lt r = absurd r
reached_below table names h (Tree s) t lt r = below table names h s.0 t r lt

-- a type that is a scalar or is reached
abbrev IsIn : Table → Ty → Ty → Type 0
IsIn table ty Whole = Unit {0}
IsIn table ty Truth = Unit {0}
IsIn table ty (Tree t) = IsReached table ty t.0

abbrev AreIn : Table → Ty → List Ty → Type 0
AreIn table ty [] = Unit {0}
AreIn table ty (t ∷ ts) = IsIn table ty t × AreIn table ty ts

fields_in : (table : Table) (ty : Ty) (ts : List Ty) → ((u : ℕ) → HasField u ts → IsReached table ty u) → AreIn table ty ts
fields_in table ty [] h = tt
fields_in table ty (Whole ∷ ts) h = (tt, fields_in table ty ts (λ u f. h u (later f)))
fields_in table ty (Truth ∷ ts) h = (tt, fields_in table ty ts (λ u f. h u (later f)))
fields_in table ty (Tree t ∷ ts) h = (h t.0 (this refl), fields_in table ty ts (λ u f. h u (later f)))

con_in : (table : Table) (ty : Ty) (t k : ℕ) → IsReached table ty t → con_at table t k ≡ Some k → AreIn table ty (fields_at table k)
con_in table ty t k r own = fields_in table ty (fields_at table k) (λ u f. is_reached_on table ty t u k r own f)

root_in : (table : Table) (ty : Ty) → IsIn table ty ty
root_in table Whole = tt
root_in table Truth = tt
root_in table (Tree t) = itself

whole_apart : codes "Int" ≡ codes "Bool" → ⊥
whole_apart e = let no : 3 ≡ 4 = ap length e in omega (arith, no)

first_same : (x y : List ℕ) (xs ys : List (List ℕ)) → x ∷ xs ≡ y ∷ ys → (x ≡ y) × (xs ≡ ys)
first_same x y xs ys e = (cc, cc)

none_same : (y : List ℕ) (ys : List (List ℕ)) → [] ≡ y ∷ ys → ⊥
none_same y ys e = cc

-- one description tells of both types alike
module _ (table other : Table) (names others : List (List ℕ)) (ty of : Ty) where
  pub same_told : (a b : List ℕ) → AreNamed table names → AreNamed other others → IsTyBelow (length table.types) ty → IsTyBelow (length other.types) of
      → (d : Describes table names ty a) (e : Describes other others of b) → a ≡ b → AreToldAlike d e
  same_told a b h k lt lu d e same =
      one_schema (type_word table names ty) (type_word other others of) (told_types table names 0 d.marks) (told_types other others 0 e.marks)
      (word_is table names h ty lt) (word_is other others k of lu)
      (lines_ok table names h 0 d.marks (omega (arith, d.reached.long))) (lines_ok other others k 0 e.marks (omega (arith, e.reached.long)))
      (ap (λ (l : List ℕ). (codes "main " ++ (type_word table names ty ++ 10 ∷ [])) ++ l) (sym (lines_are table names 0 d.marks)) ∙ sym d.is ∙ same ∙ e.is
      ∙ ap (λ (l : List ℕ). (codes "main " ++ (type_word other others of ++ 10 ∷ [])) ++ l) (lines_are other others 0 e.marks))

module _ (table other : Table) (names others : List (List ℕ)) (ty of : Ty) (text : List ℕ)
    (h : AreNamed table names) (k : AreNamed other others) (lt : IsTyBelow (length table.types) ty) (lu : IsTyBelow (length other.types) of)
    (d : Describes table names ty text) (e : Describes other others of text) where
  same : AreToldAlike d e
  same = same_told table other names others ty of text text h k lt lu d e refl

  -- the type with the line of a type that is reached
  record HasLine (t : ℕ) : Type 0 where
    type : ℕ
    reached : IsReached other of type
    is : told_type table names t ≡ told_type other others type

  same_line : (t : ℕ) → IsReached table ty t → HasLine t
  same_line t r =
      let within = reached_below table names h ty t lt r in
      let marked = (d.reached.each t within).1 r in
      let place = marked_line table names 0 d.marks t marked in
      let there : slice_get (told_types other others 0 e.marks) place.0 ≡ Some (told_type table names (0 + t)) = ap (λ (l : List ToldType). slice_get l place.0) (sym same.1) ∙ place.1 in
      let found = line_marked other others 0 e.marks (told_type table names (0 + t)) (place.0, there) in
      let inside = slice_get_within e.marks found.type true found.marked in
      record {
        type = found.type;
        reached = (e.reached.each found.type (omega (arith, inside, e.reached.long))).0 found.marked;
        is = ap (told_type table names) (let z : t ≡ 0 + t = omega arith in z) ∙ found.is ∙ ap (told_type other others) (let z : 0 + found.type ≡ found.type = omega arith in z);
      }

  -- a constructor of a type that is reached stands in the other type of the name, with the same fields by name
  record HasCon (u c : ℕ) : Type 0 where
    own : con_at other u c ≡ Some c
    fields : map (type_word table names) (fields_at table c) ≡ map (type_word other others) (fields_at other c)

  same_con : (t u c : ℕ) → told_type table names t ≡ told_type other others u → con_at table t c ≡ Some c → HasCon u c
  same_con t u c line own =
      let stands = (together table t c h.declared).0 own in
      let i = c - first_at table t in
      let here = con_among table names (first_at table t) (count_at table t) i (omega (arith, stands.0, stands.1)) in
      let there : slice_get (map (told_con other others) (constructors_of other u)) i ≡ Some (told_con table names (first_at table t + i)) =
      ap (λ (l : ToldType). slice_get l.cons i) (sym line) ∙ here in
      let found = con_numbered other others (first_at other u) (count_at other u) i (told_con table names (first_at table t + i)) there in
      let back : first_at table t + i ≡ c = omega (arith, stands.0) in
      let is : told_con table names c ≡ told_con other others found.con = ap (told_con table names) (sym back) ∙ found.is in
      let tag : c ≡ found.con = ap (λ (x : ToldCon). x.tag) is in
      record {
        own = subst (λ (x : ℕ). con_at other u x ≡ Some x) (sym tag) ((together other u found.con k.declared).1 (found.from, found.to));
        fields = ap (λ (x : ToldCon). x.fields) is ∙ ap (λ (x : ℕ). map (type_word other others) (fields_at other x)) (sym tag);
      }

  -- a type of the name that is reached has the constructor
  moved_con : (t u c : ℕ) → IsReached table ty t → IsReached other of u → type_text table names t ≡ type_text other others u → con_at table t c ≡ Some c → HasCon u c
  moved_con t u c rt ru name own =
      let line = same_line t rt in
      let word : type_text other others u ≡ type_text other others line.type = sym name ∙ ap (λ (l : ToldType). l.name) line.is in
      let one = k.differ u line.type (reached_below other others k of u lu ru) (reached_below other others k of line.type lu line.reached) word in
      subst (λ (x : ℕ). HasCon x c) (sym one) (same_con t line.type c line.is own)

  mutual
    moved : (v : Datum) (t u : Ty) → IsIn table ty t → IsIn other of u → type_word table names t ≡ type_word other others u → HasType table v t → HasType other v u
    moved (whole z) Whole Whole i j w g = g
    moved (whole z) Whole Truth i j w g = absurd (whole_apart w)
    moved (whole z) Whole (Tree u) i j w g = absurd ((k.types u.0 (reached_below other others k of u.0 lu j)).not_whole (sym w))
    moved (whole z) Truth u i j w g = absurd g
    moved (whole z) (Tree t) u i j w g = absurd g
    moved (truth b) Whole u i j w g = absurd g
    moved (truth b) Truth Whole i j w g = absurd (whole_apart (sym w))
    moved (truth b) Truth Truth i j w g = tt
    moved (truth b) Truth (Tree u) i j w g = absurd ((k.types u.0 (reached_below other others k of u.0 lu j)).not_truth (sym w))
    moved (truth b) (Tree t) u i j w g = absurd g
    moved (con c vs) Whole u i j w g = absurd g
    moved (con c vs) Truth u i j w g = absurd g
    moved (con c vs) (Tree t) Whole i j w g = absurd ((h.types t.0 (reached_below table names h ty t.0 lt i)).not_whole w)
    moved (con c vs) (Tree t) Truth i j w g = absurd ((h.types t.0 (reached_below table names h ty t.0 lt i)).not_truth w)
    moved (con c vs) (Tree t) (Tree u) i j w g =
        let there = moved_con t.0 u.0 c i j w g.0 in (
          there.own,
          all_moved vs (fields_at table c) (fields_at other c) (con_in table ty t.0 c i g.0) (con_in other of u.0 c j there.own) there.fields g.1,
        )

    all_moved : (vs : Data) (ts us : List Ty) → AreIn table ty ts → AreIn other of us → map (type_word table names) ts ≡ map (type_word other others) us → HaveTypes table vs ts → HaveTypes other vs us
    all_moved none [] [] i j w g = tt
    all_moved none [] (u ∷ us) i j w g = absurd (none_same (type_word other others u) (map (type_word other others) us) w)
    all_moved none (t ∷ ts) us i j w g = absurd g
    all_moved (more v vs) [] us i j w g = absurd g
    all_moved (more v vs) (t ∷ ts) [] i j w g = absurd (none_same (type_word table names t) (map (type_word table names) ts) (sym w))
    all_moved (more v vs) (t ∷ ts) (u ∷ us) i j w g =
        let words = first_same (type_word table names t) (type_word other others u) (map (type_word table names) ts) (map (type_word other others) us) w in
        (moved v t u i.0 j.0 words.0 g.0, all_moved vs ts us i.1 j.1 words.1 g.1)

  pub typed_alike : (v : Datum) → HasType table v ty → HasType other v of
  typed_alike v g = moved v ty of (root_in table ty) (root_in other of) same.0 g

  pub file_alike : (v : Datum) (bytes : List ℕ) → File2 table names ty v bytes → File2 other others of v bytes
  file_alike v bytes f = (
    typed_alike v f.0,
    (text, e, subst (λ (l : List ℕ). Framed2 l (packed v) bytes) (one table names ty f.1.0 text f.1.1 d) f.1.2),
  )

pub packed_law : (table other : Table) (names others : List (List ℕ)) (ty of : Ty) (text : List ℕ) → AreNamed table names → AreNamed other others
    → IsTyBelow (length table.types) ty → IsTyBelow (length other.types) of → Describes table names ty text → Describes other others of text
    → (v : Datum) (bytes : List ℕ) → Packed table ty v bytes ↔ Packed other of v bytes
packed_law table other names others ty of text h k lt lu d e v bytes = (
  λ p. (typed_alike table other names others ty of text h k lt lu d e v p.0, p.1),
  λ p. (typed_alike other table others names of ty text k h lu lt e d v p.0, p.1),
)

pub files_law : (table other : Table) (names others : List (List ℕ)) (ty of : Ty) (text : List ℕ) → AreNamed table names → AreNamed other others
    → IsTyBelow (length table.types) ty → IsTyBelow (length other.types) of → Describes table names ty text → Describes other others of text
    → (v : Datum) (bytes : List ℕ) → File2 table names ty v bytes ↔ File2 other others of v bytes
files_law table other names others ty of text h k lt lu d e v bytes = (
  file_alike table other names others ty of text h k lt lu d e v bytes,
  file_alike other table others names of ty text k h lu lt e d v bytes,
)
