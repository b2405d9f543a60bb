-- The order in which a constructor's arguments are evaluated, and back to the declared one.
use Rattle.std.specs.Prelude.{ℕ, zero, suc, if◌then◌else◌, List, [], ◌∷◌, ◌++◌, true, false, length, take, drop}
use Rattle.gib_types.specs.declared.table.Ty.{Ty}
use Rattle.gib_types.specs.Table.{at_fields, is_scalar}

-- Arguments for fields of these types in the order in which they are evaluated: scalars, then packed ones, then
-- those past the fields, which typing excludes.
abbrev pub in_turn : {X : Type 0} → List Ty → List X → List X
in_turn ts xs = at_fields true ts xs ++ (at_fields false ts xs ++ drop (length ts) xs)

-- What stands at scalar fields, and the rest of such an order, in declared order.
abbrev pub put_back : {X : Type 0} → List Ty → List X → List X → List X
put_back [] xs ys = ys
put_back (t ∷ ts) xs ys = if is_scalar t then take 1 xs ++ put_back ts (drop 1 xs) ys else take 1 ys ++ put_back ts xs (drop 1 ys)

-- How many of the first so many fields are scalars.
abbrev pub scalars_among : List Ty → ℕ → ℕ
scalars_among [] n = 0
scalars_among (t ∷ ts) zero = 0
scalars_among (t ∷ ts) (suc n) = if is_scalar t then suc (scalars_among ts n) else scalars_among ts n

-- Values in the order in which they were evaluated, put in declared order.
abbrev pub in_place : {X : Type 0} → List Ty → List X → List X
in_place ts xs = put_back ts (take (scalars_among ts (length xs)) xs) (drop (scalars_among ts (length xs)) xs)
