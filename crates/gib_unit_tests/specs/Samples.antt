-- Two tables of types on which tests stand.
use Rattle.std.specs.Prelude.{ℕ, List, [], ◌∷◌}
use Rattle.gib_types.specs.declared.table.Ty.{Ty}
use Rattle.gib_types.specs.declared.table.Ty.TheVariants.{Whole, Truth, Tree}
use Rattle.gib_types.specs.Row.{Row, Table}

-- A row.
abbrev pub entry : ℕ → ℕ → List Ty → Row
entry name owner fields = record { name = name; owner = owner; fields = fields }

-- A declared type.
abbrev pub tree : ℕ → Ty
tree ty = Tree (record { 0 = ty })

-- data Tree = Leaf Int | Node Tree Tree ; with the names 0, 1 and 2.
abbrev pub tree_table : Table
tree_table = record { types = 0 ∷ []; rows = entry 1 0 (Whole ∷ []) ∷ entry 2 0 (tree 0 ∷ tree 0 ∷ []) ∷ [] }

-- data Tree = Leaf Int | Node Tree Tree ; data P = P Tree Int ; data B = B Bool ; data List = Nil | Cons Int List ;
-- with the names 0 to 3 of types and 10 to 15 of constructors.
abbrev pub mixed_table : Table
mixed_table = record {
  types = 0 ∷ 1 ∷ 2 ∷ 3 ∷ [];
  rows = entry 10 0 (Whole ∷ []) ∷ entry 11 0 (tree 0 ∷ tree 0 ∷ []) ∷ entry 12 1 (tree 0 ∷ Whole ∷ [])
      ∷ entry 13 2 (Truth ∷ []) ∷ entry 14 3 [] ∷ entry 15 3 (Whole ∷ tree 3 ∷ []) ∷ [];
}
