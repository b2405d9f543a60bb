-- What holds of each item of a list holds of the item at a place.
use Rattle.std.proofs.Common.{ℕ, zero, suc, ◌<◌, List, [], ◌∷◌, length, slice_index_or, arith}
use Rattle.std.specs.List.{AllByRecursion}

pub item_of : {X : Type 0} (P : X → Type 0) (xs : List X) (i : ℕ) (d : X) → i < length xs → AllByRecursion P xs → P (slice_index_or xs i d)
item_of P [] i d lt all = absurd (omega (arith, lt))
item_of P (x ∷ xs) zero d lt all = all.0
item_of P (x ∷ xs) (suc i) d lt all = item_of P xs i d (omega (arith, lt)) all.1
