-- Values as a vector of nodes, where the fields of a constructor stand before it, one after the other.
use Rattle.std.specs.Prelude.{ℕ, ◌+◌, ◌≤◌, List, [], ◌∷◌, ◌++◌, take, drop}
use Rattle.gib_value.specs.declared.node.Node.{Node}
use Rattle.gib_value.specs.declared.node.Node.TheVariants as node
use Rattle.gib_types.specs.Tree.{Datum, whole, truth, con, data_of}

-- The value of a node, whose fields' values are among these.
abbrev pub value_of : List Datum → Node → Datum
value_of heap (node.Whole z) = whole z
value_of heap (node.Truth b) = truth b
value_of heap (node.Con k count first) = con k.0 (data_of (take count (drop first heap)))

-- These values, and then those of the nodes, each of which has its fields among the values before it.
abbrev pub grow : List Datum → List Node → List Datum
grow heap [] = heap
grow heap (n ∷ ns) = grow (heap ++ value_of heap n ∷ []) ns

-- The values of the nodes.
abbrev pub heap_of : List Node → List Datum
heap_of ns = grow [] ns

-- The node's fields stand before the place.
abbrev pub IsWithin : ℕ → Node → Type 0
IsWithin at (node.Whole z) = Unit {0}
IsWithin at (node.Truth b) = Unit {0}
IsWithin at (node.Con k count first) = first + count ≤ at

-- Each node's fields stand before it.
abbrev pub AreWithin : ℕ → List Node → Type 0
AreWithin at [] = Unit {0}
AreWithin at (n ∷ ns) = IsWithin at n × AreWithin (at + 1) ns
