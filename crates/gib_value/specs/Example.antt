-- The types that the tests use: data Tree = Leaf Int | Node Tree Tree, data Chain = End | Link Bool Chain,
-- data Mark = Red | Blue.
use Rattle.std.specs.Prelude.{ℕ, List, [], ◌∷◌, codes}
use Rattle.gib_types.specs.declared.table.Ty.{Ty}
use Rattle.gib_types.specs.declared.table.Ty.TheVariants.{Whole, Truth, Tree}
use Rattle.gib_types.specs.Table.{Row, Table}

-- A declared type by its number.
abbrev pub tree : ℕ → Ty
tree n = Tree (record { 0 = n })

-- A constructor by the numbers of its name and its type, and its fields.
abbrev pub entry : ℕ → ℕ → List Ty → Row
entry name owner fields = record { name = name; owner = owner; fields = fields }

-- The table of these types.
abbrev pub table : Table
table = record {
  types = 0 ∷ 1 ∷ 2 ∷ [];
  rows = entry 3 0 (Whole ∷ []) ∷ entry 4 0 (tree 0 ∷ tree 0 ∷ []) ∷ entry 5 1 [] ∷ entry 6 1 (Truth ∷ tree 1 ∷ []) ∷ entry 7 2 [] ∷ entry 8 2 [] ∷ [];
}

-- Their names.
abbrev pub names : List (List ℕ)
names = codes "Tree" ∷ codes "Chain" ∷ codes "Mark" ∷ codes "Leaf" ∷ codes "Node" ∷ codes "End" ∷ codes "Link" ∷ codes "Red" ∷ codes "Blue" ∷ []
