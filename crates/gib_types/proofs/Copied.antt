-- A list that is copied item by item.
use Rattle.std.proofs.Common.{◌≡◌, ◌≤◌, ◌+◌, ℕ, zero, suc, List, [], ◌∷◌, ◌++◌, Some, sym, ap, ◌∙◌, subst, arith, take, length, map}
use Rattle.std.specs.Prelude.{slice_get}
use Rattle.std.proofs.lemmas.Option.{same_Some, slice_get_within}
use Rattle.std.proofs.lemmas.List.{map-append}
use Rattle.gib_base.specs.declared.name.Name.{Name}
use Rattle.gib_types.specs.declared.table.Constructor.{Constructor}
use Rattle.gib_types.specs.Table.{Table, IsTable, row_of, table_of}

taken : {A : Type 0} (ys : List A) (i : ℕ) (y : A) → slice_get ys i ≡ Some y → take (suc i) ys ≡ take i ys ++ y ∷ []
taken [] i y e = absurd cc
taken (z ∷ ys) zero y e = ap (λ x. x ∷ []) (same_Some z y e)
taken (z ∷ ys) (suc i) y e = ap (λ l. z ∷ l) (taken ys i y e)

pub copied : {A B : Type 0} (f : A → B) (xs new : List A) (x : A) (ys : List B) (i : ℕ) → slice_get ys i ≡ Some (f x) → new ≡ xs ++ x ∷ [] → map f xs ≡ take i ys
    → (i + 1 ≤ length ys) × (map f new ≡ take (i + 1) ys)
copied f xs new x ys i found made e =
    let within = slice_get_within ys i (f x) found in
    let n : suc i ≡ i + 1 = omega arith in (
      omega arith,
      ap (map f) made ∙ map-append f xs (x ∷ []) ∙ ap (λ l. l ++ f x ∷ []) e ∙ sym (taken ys i (f x) found) ∙ ap (λ m. take m ys) n,
    )

pub same_table : (table : Table) (names : List Name) (constructors : List Constructor) → map (λ (n : Name). n.0) names ≡ table.types → map row_of constructors ≡ table.rows
    → table_of names constructors ≡ table
same_table table names constructors e f = λ i. record { types = e i; rows = f i }

pub table_stays : (table : Table) (names : List Name) (constructors : List Constructor) → IsTable table → map (λ (n : Name). n.0) names ≡ table.types → map row_of constructors ≡ table.rows
    → IsTable (table_of names constructors)
table_stays table names constructors is e f = subst IsTable (sym (same_table table names constructors e f)) is
