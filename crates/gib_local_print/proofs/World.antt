-- Names of a printed text, found again.
use Rattle.std.proofs.Common.{◌≡◌, ℕ, ◌==◌, Bool, true, false, if◌then◌else◌, List, [], ◌∷◌, map, length, Some, Ok, Err, refl, sym, ap, ◌∙◌, arith}
use Rattle.std.specs.List.{AllByRecursion}
use Rattle.std.proofs.lemmas.Bool.{eqb-true, eq-eqb, ne_eqb, both_ways}
use Rattle.gib_types.specs.declared.table.Ty.{Ty}
use Rattle.gib_types.specs.declared.table.Ty.TheVariants.{Whole, Truth, Tree}
use Rattle.gib_types.specs.declared.table.ConId.{ConId}
use Rattle.gib_types.specs.Table.{Table, at_fields, merge, scalar_types, tree_types}
use Rattle.gib_core.specs.declared.atom.Variable.{Variable}
use Rattle.gib_core.specs.declared.atom.Atom.{Atom}
use Rattle.gib_core.specs.declared.atom.Atom.TheVariants as a
use Rattle.gib_core.specs.declared.atom.Access.{Access}
use Rattle.gib_core.specs.declared.atom.Access.TheVariants as by
use Rattle.gib_core.specs.Ordered.{IsFound}
use Rattle.gib_core.specs.Met.{Destination}
use Rattle.gib_core.proofs.Facts.{Test, holds, fails, test, itself}
use Rattle.gib_local.specs.Building.{Placed, PlaceName, VariableName, Around, Passed, and_then, meant, variable_at, variable, atom, con, con_or, same_place, is_in, without, access}
use Rattle.gib_local.specs.declared.place.Place.{Place}
use Rattle.gib_local.specs.declared.place.Place.TheVariants.{AtResult, AtStart, AtFirst, AtNext}
use Rattle.gib_local.specs.declared.place.Meant.{Meant}
use Rattle.gib_local_print.specs.Printing.{Naming, Apart, named, atom_name, operand, con_text, way}
use Rattle.gib_local_print.specs.HasText.{HasAtom, HasVariable, HasAccess}

pub bind_ok : {A : Type 0} (x : Placed A) → and_then x (λ a. Ok a) ≡ x
bind_ok (Ok x) = refl
bind_ok (Err e) = refl

pub place_itself : (q : Place) → same_place q q ≡ true
place_itself AtResult = refl
place_itself (AtStart r) = itself r
place_itself (AtFirst h) = itself h
place_itself (AtNext x) = itself x

pub meant_here : (n : ℕ) (m : Meant) (ps : List PlaceName) → meant ((n, m) ∷ ps) n ≡ Some m
meant_here n m ps = ap (λ b. if b then Some m else meant ps n) (itself n)

pub meant_past : (n k : ℕ) (m : Meant) (ps : List PlaceName) → (n ≡ k → ⊥) → meant ((n, m) ∷ ps) k ≡ meant ps k
meant_past n k m ps ne = ap (λ b. if b then Some m else meant ps k) (ne_eqb n k ne)

pub in_here : (x : ℕ) (xs : List ℕ) → is_in (x ∷ xs) x ≡ true
in_here x xs = ap (λ b. if b then true else is_in xs x) (itself x)

in_past_by : (b c : Bool) → c ≡ true → (if b then true else c) ≡ true
in_past_by true c e = refl
in_past_by false c e = e

pub in_past : (x y : ℕ) (xs : List ℕ) → is_in xs y ≡ true → is_in (x ∷ xs) y ≡ true
in_past x y xs e = in_past_by (x == y) (is_in xs y) e

in_other_by : (b c : Bool) → b ≡ false → (if b then true else c) ≡ c
in_other_by true c e = absurd cc
in_other_by false c e = refl

pub in_other : (x y : ℕ) (xs : List ℕ) → (x ≡ y → ⊥) → is_in (x ∷ xs) y ≡ is_in xs y
in_other x y xs ne = in_other_by (x == y) (is_in xs y) (ne_eqb x y ne)

without_by : (x y : ℕ) (ys : List ℕ) → without x ys ≡ ys → Test (y == x) → is_in (y ∷ ys) x ≡ false → without x (y ∷ ys) ≡ y ∷ ys
without_by x y ys h (holds e) f = absurd (both_ways (is_in (y ∷ ys) x) f (ap (λ b. if b then true else is_in ys x) e))
without_by x y ys h (fails e) f = ap (λ b. if b then without x ys else y ∷ without x ys) e ∙ ap (λ l. y ∷ l) h

not_in_rest : (b c : Bool) → (if b then true else c) ≡ false → c ≡ false
not_in_rest true c e = absurd cc
not_in_rest false c e = e

pub without_none : (x : ℕ) (ys : List ℕ) → is_in ys x ≡ false → without x ys ≡ ys
without_none x [] e = refl
without_none x (y ∷ ys) e = without_by x y ys (without_none x ys (not_in_rest (y == x) (is_in ys x) e)) (test (y == x)) e

pub without_here : (x : ℕ) (ys : List ℕ) → is_in ys x ≡ false → without x (x ∷ ys) ≡ ys
without_here x ys e = ap (λ b. if b then without x ys else x ∷ without x ys) (itself x) ∙ without_none x ys e

pub without_past : (x y : ℕ) (ys : List ℕ) → (y ≡ x → ⊥) → without x (y ∷ ys) ≡ y ∷ without x ys
without_past x y ys ne = ap (λ b. if b then without x ys else y ∷ without x ys) (ne_eqb y x ne)

-- ---- fields

none_left : {A : Type 0} (xs : List A) → length xs ≡ 0 → [] ≡ xs
none_left [] e = refl
none_left (x ∷ xs) e = absurd cc

pub fields_back : (ts : List Ty) (ss ps : List Atom) → length ss ≡ length (scalar_types ts) → length ps ≡ length (tree_types ts)
    → (at_fields true ts (merge ts ss ps) ≡ ss) × (at_fields false ts (merge ts ss ps) ≡ ps)
fields_back [] ss ps e f = (none_left ss e, none_left ps f)
fields_back (Whole ∷ ts) [] ps e f = absurd cc
fields_back (Whole ∷ ts) (x ∷ ss) ps e f = let h = fields_back ts ss ps (omega (arith, e)) f in (ap (λ l. x ∷ l) h.0, h.1)
fields_back (Truth ∷ ts) [] ps e f = absurd cc
fields_back (Truth ∷ ts) (x ∷ ss) ps e f = let h = fields_back ts ss ps (omega (arith, e)) f in (ap (λ l. x ∷ l) h.0, h.1)
fields_back (Tree t ∷ ts) ss [] e f = absurd cc
fields_back (Tree t ∷ ts) ss (y ∷ ps) e f = let h = fields_back ts ss ps e (omega (arith, f)) in (h.0, ap (λ l. y ∷ l) h.1)

pub all_merged : (P : Atom → Type 0) (ts : List Ty) (ss ps : List Atom) → AllByRecursion P ss → AllByRecursion P ps → AllByRecursion P (merge ts ss ps)
all_merged P [] ss ps h g = tt
all_merged P (Whole ∷ ts) [] ps h g = all_merged P ts [] ps h g
all_merged P (Whole ∷ ts) (x ∷ ss) ps h g = (h.0, all_merged P ts ss ps h.1 g)
all_merged P (Truth ∷ ts) [] ps h g = all_merged P ts [] ps h g
all_merged P (Truth ∷ ts) (x ∷ ss) ps h g = (h.0, all_merged P ts ss ps h.1 g)
all_merged P (Tree t ∷ ts) ss [] h g = all_merged P ts ss [] h g
all_merged P (Tree t ∷ ts) ss (y ∷ ps) h g = (g.0, all_merged P ts ss ps h g.1)

pub con_back : (tb : Table) (k : ConId) → IsFound tb k → con tb (con_text tb k) ≡ k
con_back tb k e = ap con_or e

-- ---- what a printed text's names stand for

-- The variables in scope, by the names that the text gives them.
abbrev pub scope_names : Naming → List ℕ → List VariableName
scope_names nm [] = []
scope_names nm (x ∷ xs) = (nm.variable x, x) ∷ scope_names nm xs

-- What a line is met with.
abbrev pub world : Naming → List ℕ → List PlaceName → Destination → Place → Around
world nm xs ps d q = record { variables = scope_names nm xs; places = ps; destination = d; at = q }

abbrev pub passed : ℕ → List ℕ → Passed
passed n u = record { fresh = n; unused = u }

var_by : (nm : Naming) → Apart nm → (y x : ℕ) (ys : List ℕ) → (is_in ys x ≡ true → variable_at (scope_names nm ys) (nm.variable x) ≡ x) → Test (y == x)
    → is_in (y ∷ ys) x ≡ true → variable_at (scope_names nm (y ∷ ys)) (nm.variable x) ≡ x
var_by nm ok y x ys h (holds e) i =
    let same : y ≡ x = eqb-true y x e in
    ap (λ b. if b then y else variable_at (scope_names nm ys) (nm.variable x)) (eq-eqb (nm.variable y) (nm.variable x) (ap nm.variable same)) ∙ same
var_by nm ok y x ys h (fails e) i =
    let ne : nm.variable y ≡ nm.variable x → ⊥ = λ s. both_ways (y == x) e (eq-eqb y x (ok.variables y x s)) in
    ap (λ b. if b then y else variable_at (scope_names nm ys) (nm.variable x)) (ne_eqb (nm.variable y) (nm.variable x) ne)
    ∙ h (sym (ap (λ b. if b then true else is_in ys x) e) ∙ i)

pub var_back : (nm : Naming) → Apart nm → (xs : List ℕ) (x : ℕ) → is_in xs x ≡ true → variable_at (scope_names nm xs) (nm.variable x) ≡ x
var_back nm ok [] x e = absurd cc
var_back nm ok (y ∷ ys) x e = var_by nm ok y x ys (var_back nm ok ys x) (test (y == x)) e

module _ (nm : Naming) (ok : Apart nm) (xs : List ℕ) (ps : List PlaceName) (d : Destination) (q : Place) where
  pub variable_back : (x : Variable) → is_in xs x.0 ≡ true → variable (world nm xs ps d q) (named nm x) ≡ x
  variable_back x e = ap (λ n. record { 0 = n }) (var_back nm ok xs x.0 e)

  pub atom_back : (x : Atom) → HasAtom xs x → atom (world nm xs ps d q) (operand nm x) ≡ x
  atom_back (a.Variable x) e = ap a.Variable (variable_back x e)
  atom_back (a.Whole z) e = ap a.Whole (sym e)
  atom_back (a.Truth b) e = refl

  pub atoms_back : (ys : List Atom) → AllByRecursion (HasAtom xs) ys → map (atom (world nm xs ps d q)) (map (operand nm) ys) ≡ ys
  atoms_back [] h = refl
  atoms_back (y ∷ ys) h = λ i. atom_back y h.0 i ∷ atoms_back ys h.1 i

  pub named_back : (x : Atom) → HasVariable xs x → a.Variable (variable (world nm xs ps d q) (atom_name nm x)) ≡ x
  named_back (a.Variable x) e = ap a.Variable (variable_back x e)
  named_back (a.Whole z) e = absurd e
  named_back (a.Truth b) e = absurd e

  pub access_back : (x : Access) → HasAccess xs x → access (world nm xs ps d q) (way nm x) ≡ x
  access_back by.Offset e = refl
  access_back (by.Skip z) e = ap by.Skip (variable_back z e)
  access_back (by.End z) e = ap by.End (variable_back z e)
