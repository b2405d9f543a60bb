-- Trees of numbers: the values of the made program's one declared type.
use Rattle.std.specs.Prelude.{ℕ, suc, ℤ, pos, max, ◌+◌, ◌+ℤ◌}
use Rattle.std.specs.Int.{w64, int_wrapping_add, int_wrapping_mul}
use Rattle.gib_types.specs.declared.table.Ty.{Ty}
use Rattle.gib_types.specs.declared.table.Ty.TheVariants as ty
use Rattle.gib_types.specs.Tree.{Datum, whole, con, none, more}

-- A tree of numbers: a leaf with a number, or a node of two trees.
pub data NumberTree : Type 0 where
  Leaf : ℤ → NumberTree
  Node : NumberTree → NumberTree → NumberTree

-- The tree as a value of the made program.
abbrev pub value_of : NumberTree → Datum
value_of (Leaf z) = con 0 (more (whole z) none)
value_of (Node left right) = con 1 (more (value_of left) (more (value_of right) none))

-- The type of these values.
abbrev pub tree_type : Ty
tree_type = ty.Tree (record { 0 = 0 })

-- How many levels it has below its root.
abbrev pub height : NumberTree → ℕ
height (Leaf z) = 0
height (Node left right) = suc (max (height left) (height right))

-- How many leaves a tree has.
abbrev pub leaves : NumberTree → ℕ
leaves (Leaf z) = 1
leaves (Node left right) = leaves left + leaves right

-- The sum of the numbers in its leaves.
abbrev pub sum : NumberTree → ℤ
sum (Leaf z) = z
sum (Node left right) = sum left +ℤ sum right

-- What the program with a literal makes of a tree: each number three times, and the literal added, which wraps to 64 bits with a
-- sign.
abbrev pub worked : ℕ → NumberTree → NumberTree
worked literal (Leaf z) = Leaf (int_wrapping_add w64 (int_wrapping_mul w64 z (pos 3)) (pos literal))
worked literal (Node left right) = Node (worked literal left) (worked literal right)
