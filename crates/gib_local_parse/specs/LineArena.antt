-- Nodes of terms that name each other by their numbers, seen as trees.
use Rattle.std.specs.Prelude.{◌≡◌, ℕ, ◌<◌, ◌≤◌, false, List, [], ◌∷◌, length, Option, Some, None}
use Rattle.std.specs.List.{AllByRecursion}
use Rattle.gib_nodes.specs.Nodes as arena
use Rattle.gib_local_parse.specs.declared.lines.LineArm.{LineArm}
use Rattle.gib_local_parse.specs.declared.lines.Side.{Side}
use Rattle.gib_local_parse.specs.declared.lines.BindingNode.{BindingNode}
use Rattle.gib_local_parse.specs.declared.lines.BindingNode.TheVariants as b
use Rattle.gib_local_parse.specs.declared.lines.LineNode.{LineNode}
use Rattle.gib_local_parse.specs.declared.lines.LineNode.TheVariants as n
use Rattle.gib_local_parse.specs.Tree.{Bit, Line, In, Given, Pointed, Called, Made, Cased, Chosen, Binding, NewRegion, NewPlace, LetIn, ParIn, PrimIn, ReachIn, Bound, Be, Arms, LastArm, NextArm}

-- The term of an arm has a smaller number.
abbrev pub IsArmBelow : ℕ → LineArm → Type 0
IsArmBelow id arm = arm.line.0 < id

-- A case has an arm at least.
abbrev pub ArmsBelow : List LineArm → ℕ → Type 0
ArmsBelow [] id = ⊥
ArmsBelow (arm ∷ arms) id = IsArmBelow id arm × AllByRecursion (IsArmBelow id) arms

-- The terms of a binding have smaller numbers.
abbrev pub BindingBelow : BindingNode → ℕ → Type 0
BindingBelow (b.NewRegion r) id = Unit {0}
BindingBelow (b.NewPlace l q) id = Unit {0}
BindingBelow (b.Let side) id = side.line.0 < id
BindingBelow (b.Par l m r) id = (l.line.0 < id) × (r.line.0 < id)
BindingBelow (b.Operation x w y f z) id = Unit {0}
BindingBelow (b.Reach y way) id = Unit {0}

-- The parts of a node have smaller numbers.
abbrev pub PartsBelow : LineNode → ℕ → Type 0
PartsBelow (n.In p c a) id = BindingBelow c id × (a.0 < id)
PartsBelow (n.Give p x) id = Unit {0}
PartsBelow (n.Point p x m) id = Unit {0}
PartsBelow (n.Call f xs m) id = Unit {0}
PartsBelow (n.Make k m xs) id = Unit {0}
PartsBelow (n.Case p x arms) id = ArmsBelow arms.items id
PartsBelow (n.If p x t u) id = (t.0 < id) × (u.0 < id)

-- Arms, one at least, as a tree, where the numbers of their terms have these trees.
abbrev pub arms_from : (ℕ → Line) → LineArm → List LineArm → Arms
arms_from f arm [] = LastArm arm.constructor arm.variables.items (f arm.line.0)
arms_from f arm (next ∷ arms) = NextArm arm.constructor arm.variables.items (f arm.line.0) (arms_from f next arms)

-- The tree of no node.
abbrev pub nothing : Line
nothing = Given (record { start = 0; end = 0 }) (Bit (record { start = 0; end = 0 }) false)

-- A case of these arms; of no arm, the tree of no node.
abbrev pub case_from : (ℕ → Line) → List LineArm → (Arms → Line) → Line
case_from f [] make = nothing
case_from f (arm ∷ arms) make = make (arms_from f arm arms)

-- A side as a tree.
abbrev pub side_from : (ℕ → Line) → Side → Bound
side_from f side = Be side.name side.ty side.mark (f side.line.0)

-- A binding as a tree.
abbrev pub binding_from : (ℕ → Line) → BindingNode → Binding
binding_from f (b.NewRegion r) = NewRegion r
binding_from f (b.NewPlace l q) = NewPlace l q
binding_from f (b.Let side) = LetIn (side_from f side)
binding_from f (b.Par l m r) = ParIn (side_from f l) m (side_from f r)
binding_from f (b.Operation x w y g z) = PrimIn x w y g z
binding_from f (b.Reach y way) = ReachIn y way

-- A node as a tree, where its parts are these trees.
abbrev pub layer : (ℕ → Line) → Option LineNode → Line
layer f None = nothing
layer f (Some (n.In p c a)) = In p (binding_from f c) (f a.0)
layer f (Some (n.Give p x)) = Given p x
layer f (Some (n.Point p x m)) = Pointed p x m
layer f (Some (n.Call g xs m)) = Called g xs.items m
layer f (Some (n.Make k m xs)) = Made k m xs.items
layer f (Some (n.Case p x arms)) = case_from f arms.items (Cased p x)
layer f (Some (n.If p x t u)) = Chosen p x (f t.0) (f u.0)

-- The tree of the node of a number.
unfoldable pub tree_of : List LineNode → ℕ → Line
tree_of nodes id = arena.tree_of nothing layer nodes id

-- What a node tells of the tree of its number: its layer over the trees of its parts, which have smaller numbers.
abbrev pub Opens : List LineNode → ℕ → LineNode → Type 0
Opens nodes id node = (tree_of nodes id ≡ layer (tree_of nodes) (Some node)) × PartsBelow node id

-- The trees that were there stay.
pub record Grows (old new : List LineNode) : Type 0 where
  pub longer : length old ≤ length new
  pub same : (id : ℕ) → id < length old → tree_of new id ≡ tree_of old id

-- A node was put at a number.
pub record Makes (old new : List LineNode) (id : ℕ) (node : LineNode) : Type 0 where
  pub grows : Grows old new
  pub inside : id < length new
  pub tree : tree_of new id ≡ layer (tree_of old) (Some node)
