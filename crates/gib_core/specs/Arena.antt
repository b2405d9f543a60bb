-- Nodes that name each other by their numbers, seen as terms.
use Rattle.std.specs.Prelude.{◌≡◌, ℕ, pos, ◌+◌, ◌<◌, ◌≤◌, List, [], ◌∷◌, length, map, Option, Some, None}
use Rattle.std.specs.List.{AllByRecursion}
use Rattle.gib_nodes.specs.Nodes as arena
use Rattle.gib_core.specs.declared.atom.Atom.TheVariants as a
use Rattle.gib_core.specs.declared.node.BoundSide.{BoundSide}
use Rattle.gib_core.specs.declared.node.BoundSide.TheVariants as s
use Rattle.gib_core.specs.declared.node.TermId.{TermId}
use Rattle.gib_core.specs.declared.node.Binding.{Binding}
use Rattle.gib_core.specs.declared.node.Binding.TheVariants as b
use Rattle.gib_core.specs.declared.node.Branch.{Branch}
use Rattle.gib_core.specs.declared.node.Node.{Node}
use Rattle.gib_core.specs.declared.node.Node.TheVariants as n
use Rattle.gib_core.specs.PartTypes.{types_in}
use Rattle.gib_core.specs.Tree.{Term, Then, Write, Point, CallTerm, Give, CaseTerm, IfTerm, Tuple, PartTerms, NoPart, PartThen, Bind, Past, One, Both, Prim, Reach, Side, On, Several, Branches, NoBranch, BranchThen, variables_from, prepend}

-- The term of a side.
abbrev pub term_in : BoundSide → TermId
term_in (s.One x) = x.term
term_in (s.Several x) = x.term

-- The terms of a binding have smaller numbers.
abbrev pub IsBindingBelow : ℕ → Binding → Type 0
IsBindingBelow id (b.Past h k) = Unit {0}
IsBindingBelow id (b.One s) = (term_in s).0 < id
IsBindingBelow id (b.Par fork l r) = ((term_in l).0 < id) × ((term_in r).0 < id)
IsBindingBelow id (b.Prim x f y z) = Unit {0}
IsBindingBelow id (b.Reach y by) = Unit {0}

-- The term of a branch has a smaller number.
abbrev pub IsBranchBelow : ℕ → Branch → Type 0
IsBranchBelow id branch = branch.term.0 < id

-- A part has a smaller number.
abbrev pub IsPartBelow : ℕ → TermId → Type 0
IsPartBelow id t = t.0 < id

-- The parts of a node have smaller numbers.
abbrev pub PartsBelow : Node → ℕ → Type 0
PartsBelow (n.Then binding rest) id = IsBindingBelow id binding × (rest.0 < id)
PartsBelow (n.Write h k ss ps) id = Unit {0}
PartsBelow (n.Point x) id = Unit {0}
PartsBelow (n.Call f xs) id = Unit {0}
PartsBelow (n.Give x) id = Unit {0}
PartsBelow (n.Case x branches) id = AllByRecursion (IsBranchBelow id) branches.items
PartsBelow (n.If x t u) id = (t.0 < id) × (u.0 < id)
PartsBelow (n.Tuple tys ss ps) id = AllByRecursion (IsPartBelow id) ps.items

-- Each node stands behind its parts.
abbrev pub IsArena : List Node → Type 0
IsArena nodes = arena.IsArena PartsBelow nodes

-- A side, where numbers have these terms.
abbrev pub side_from : (ℕ → Term) → BoundSide → Side
side_from f (s.One x) = On x.kind x.variable x.ty (f x.term.0)
side_from f (s.Several x) = Several (variables_from x.first.0 (types_in x.types)) (types_in x.types) (f x.term.0)

-- A binding, where numbers have these terms.
abbrev pub bind_from : (ℕ → Term) → Binding → Bind
bind_from f (b.Past h k) = Past h k
bind_from f (b.One s) = One (side_from f s)
bind_from f (b.Par fork l r) = Both fork (side_from f l) (side_from f r)
bind_from f (b.Prim x g y z) = Prim x g y z
bind_from f (b.Reach y by) = Reach y by

-- Bindings, where numbers have these terms.
abbrev pub binds_from : (ℕ → Term) → List Binding → List Bind
binds_from f bs = map (bind_from f) bs

-- Branches, where numbers have these terms.
abbrev pub branches_from : (ℕ → Term) → List Branch → Branches
branches_from f [] = NoBranch
branches_from f (branch ∷ branches) = BranchThen branch.constructor branch.variables.items (f branch.term.0) (branches_from f branches)

-- Parts, where numbers have these terms.
abbrev pub parts_from : (ℕ → Term) → List TermId → PartTerms
parts_from f [] = NoPart
parts_from f (t ∷ ts) = PartThen (f t.0) (parts_from f ts)

-- The term of no node.
abbrev pub nothing : Term
nothing = Give (a.Whole (pos 0))

-- A node as a term, where its parts are these terms.
abbrev pub layer : (ℕ → Term) → Option Node → Term
layer f None = nothing
layer f (Some (n.Then binding rest)) = Then (bind_from f binding) (f rest.0)
layer f (Some (n.Write h k ss ps)) = Write h k ss.items ps.items
layer f (Some (n.Point x)) = Point x
layer f (Some (n.Call g xs)) = CallTerm g xs.items
layer f (Some (n.Give x)) = Give x
layer f (Some (n.Case x branches)) = CaseTerm x (branches_from f branches.items)
layer f (Some (n.If x t u)) = IfTerm x (f t.0) (f u.0)
layer f (Some (n.Tuple tys ss ps)) = Tuple (types_in tys) ss.items (parts_from f ps.items)

-- The term of the node of a number.
unfoldable pub term_of : List Node → ℕ → Term
term_of nodes id = arena.tree_of nothing layer nodes id

-- What a node tells of the term of its number: its layer over the terms of its parts, which have
-- smaller numbers.
abbrev pub Opens : List Node → ℕ → Node → Type 0
Opens nodes id node = (term_of nodes id ≡ layer (term_of nodes) (Some node)) × PartsBelow node id

-- The term is no binding: a line ends with it.
abbrev pub IsEnd : Term → Type 0
IsEnd (Then bind rest) = ⊥
IsEnd (Write h k ss ps) = Unit {0}
IsEnd (Point x) = Unit {0}
IsEnd (CallTerm f xs) = Unit {0}
IsEnd (Give x) = Unit {0}
IsEnd (CaseTerm x branches) = Unit {0}
IsEnd (IfTerm x t u) = Unit {0}
IsEnd (Tuple tys ss ps) = Unit {0}

-- The line that begins at a number: its bindings, whose terms stand below that number, and the number of its end.
pub record IsLine (nodes : List Node) (id : ℕ) (bindings : List Binding) (last : ℕ) : Type 0 where
  pub term : term_of nodes id ≡ prepend (binds_from (term_of nodes) bindings) (term_of nodes last)
  pub below : AllByRecursion (IsBindingBelow id) bindings
  pub within : last ≤ id
  pub ends : IsEnd (term_of nodes last)

-- The terms that were there stay.
pub record Grows (old new : List Node) : Type 0 where
  pub longer : length old ≤ length new
  pub same : (id : ℕ) → id < length old → term_of new id ≡ term_of old id

-- A node was put behind all others, and has the next number.
pub record Makes (old new : List Node) (id : ℕ) (node : Node) : Type 0 where
  pub grows : Grows old new
  pub place : id ≡ length old
  pub long : length new ≡ length old + 1
  pub inside : id < length new
  pub term : term_of new id ≡ layer (term_of old) (Some node)
