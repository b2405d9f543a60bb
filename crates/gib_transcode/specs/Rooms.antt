-- Room for the scalars of a constructor, whose bytes stand before those of its packed fields.
use Rattle.std.specs.Prelude.{ℕ, zero, suc, List, [], ◌∷◌}
use Rattle.gib_types.specs.declared.table.Ty.{Ty}
use Rattle.gib_types.specs.declared.table.Ty.TheVariants.{Whole, Truth, Tree}

-- The bytes that stand there before the scalars among fields of these types are put.
abbrev pub room : List Ty → List ℕ
room [] = []
room (Whole ∷ ts) = 0 ∷ 0 ∷ 0 ∷ 0 ∷ 0 ∷ 0 ∷ 0 ∷ 0 ∷ room ts
room (Truth ∷ ts) = 0 ∷ room ts
room (Tree t ∷ ts) = room ts

-- Bytes with others put over theirs, from a place on.
abbrev pub over : ℕ → List ℕ → List ℕ → List ℕ
over place [] out = out
over place (b ∷ bs) [] = []
over zero (b ∷ bs) (o ∷ out) = b ∷ over zero bs out
over (suc place) (b ∷ bs) (o ∷ out) = o ∷ over place (b ∷ bs) out
