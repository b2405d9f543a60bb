-- What stands at fields, selected item by item.
use Rattle.std.proofs.Common.{◌≡◌, ◌++◌, ◌<◌, List, [], ◌∷◌, Bool, length, sym, ◌∙◌, arith}
use Rattle.std.proofs.lemmas.List.{append-nil}
use Rattle.gib_types.specs.declared.table.Ty.{Ty}
use Rattle.gib_types.specs.Table.{at_fields}

-- nothing is left
pub selected : {A : Type 0} (scalars : Bool) (types : List Ty) (rest made all : List A) → length rest < 1 → made ++ at_fields scalars types rest ≡ all → made ≡ all
selected scalars [] rest made all lt e = sym (append-nil made) ∙ e
selected scalars (t ∷ ts) [] made all lt e = sym (append-nil made) ∙ e
selected scalars (t ∷ ts) (x ∷ xs) made all lt e = absurd (omega (arith, lt))
