-- Buffers that are put together.
use Rattle.std.specs.Prelude.{ℕ, List, [], ◌∷◌, ◌++◌, length}
use Rattle.std.specs.Global.{Vec}
use Rattle.gib_file.specs.Framed.{header2}

-- The bytes of buffers, of which the last one comes first.
abbrev pub gathered : List (Vec ℕ) → List ℕ
gathered [] = []
gathered (b ∷ bs) = gathered bs ++ b.items

-- A file's header for a payload of so many bytes, the description, and bytes of the payload.
abbrev pub with_head : List ℕ → ℕ → List ℕ → List ℕ
with_head description payload bytes = (header2 (length description) payload ++ description) ++ bytes
