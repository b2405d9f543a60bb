-- Scopes whose atoms may be used below a number, and constructors that are found by their names.
use Rattle.std.proofs.Common.{◌≡◌, ℕ, suc, ◌+◌, ◌≤◌, Bool, true, false, ◌==◌, if◌then◌else◌, List, [], ◌∷◌, length, Option, Some, None, refl, sym, ap, ◌∙◌, arith}
use Rattle.std.specs.Prelude.{slice_get}
use Rattle.std.specs.Option.{option_map}
use Rattle.std.proofs.lemmas.Option.{same_Some, slice_get-map}
use Rattle.gib_types.specs.declared.table.Ty.{Ty}
use Rattle.gib_types.specs.Table.{Row, Table, name_of, name_at}
use Rattle.gib_syntax.specs.declared.tree.Ident.{Ident}
use Rattle.gib_syntax.specs.Declarations.{constructor_names, constructor_named}
use Rattle.gib_core.specs.declared.atom.Atom.{Atom}
use Rattle.gib_core.specs.Tree.{var, variables_from}
use Rattle.gib_core.specs.Ordered.{IsFit, AreFit}
use Rattle.gib_core.proofs.Erases.{fit_more}
use Rattle.gib_core.specs.Inferring.{Scope, slot, first_type, further_types, with_fields, atom_at}
use Rattle.gib_syntax.proofs.Soundness.{place_within}

abbrev pub ScopeFits : ℕ → Scope → Type 0
ScopeFits n [] = Unit {0}
ScopeFits n (s ∷ sc) = IsFit n s.atom × ScopeFits n sc

pub all_fit_more : (n m : ℕ) (xs : List Atom) → n ≤ m → AreFit n xs → AreFit m xs
all_fit_more n m [] le h = tt
all_fit_more n m (a ∷ xs) le h = (fit_more n m a le h.0, all_fit_more n m xs le h.1)

pub scope_more : (n m : ℕ) (sc : Scope) → n ≤ m → ScopeFits n sc → ScopeFits m sc
scope_more n m [] le h = tt
scope_more n m (s ∷ sc) le h = (fit_more n m s.atom le h.0, scope_more n m sc le h.1)

pub at_fit : (n : ℕ) (sc : Scope) (x : ℕ) → ScopeFits n sc → IsFit n (atom_at sc x)
at_fit n [] x h = refl
at_fit n (s ∷ sc) x h = here (s.name.0 == x) (at_fit n sc x h.1)
  where
    here : (b : Bool) → IsFit n (atom_at sc x) → IsFit n (if b then s.atom else atom_at sc x)
    here true e = h.0
    here false e = e

pub fields_within : (n m : ℕ) (xs : List Ident) (types : List Ty) (sc : Scope) → n + length xs ≤ m → ScopeFits m sc → ScopeFits m (with_fields xs types n sc)
fields_within n m [] types sc le h = h
fields_within n m (x ∷ xs) types sc le h = fields_within (n + 1) m xs (further_types types) (slot x (var n) (first_type types) ∷ sc) (omega arith) (omega arith, h)

pub fields_fit : (n m : ℕ) (xs : List Ident) (types : List Ty) (sc : Scope) → m ≡ n + length xs → ScopeFits n sc → ScopeFits m (with_fields xs types n sc)
fields_fit n m xs types sc e h = fields_within n m xs types sc (omega (arith, e)) (scope_more n m sc (omega (arith, e)) h)

-- As many variables as there are items.
pub variables_length : {A : Type 0} (n : ℕ) (xs : List A) → length (variables_from n xs) ≡ length xs
variables_length n [] = refl
variables_length n (x ∷ xs) = ap suc (variables_length (n + 1) xs)

-- As many items are for as many variables.
pub variables_same : {A B : Type 0} (n : ℕ) (xs : List A) (ys : List B) → length xs ≡ length ys → variables_from n xs ≡ variables_from n ys
variables_same n [] [] e = refl
variables_same n [] (y ∷ ys) e = absurd cc
variables_same n (x ∷ xs) [] e = absurd cc
variables_same n (x ∷ xs) (y ∷ ys) e = ap (λ l. record { 0 = n } ∷ l) (variables_same (n + 1) xs ys (omega (arith, e)))

-- The name of a constructor that was found by it.

name_in : (r : Option Row) (x : ℕ) → option_map (λ (row : Row). row.name) r ≡ Some x → name_of r ≡ x
name_in None x e = absurd cc
name_in (Some row) x e = same_Some row.name x e

pub named_at : (table : Table) (x c : ℕ) → constructor_named table x ≡ Some c → name_at table c ≡ x
named_at table x c e = name_in (slice_get table.rows c) x (sym (slice_get-map (λ (row : Row). row.name) table.rows c) ∙ place_within (constructor_names table) x c e)
