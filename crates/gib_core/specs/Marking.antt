-- The pars whose sides may run at the same time are marked.
use Rattle.std.specs.Prelude.{Bool, true, false, ◌||◌, ◌&&◌, ℕ, List, length, ◌≡◌, Some, slice_get}
use Rattle.gib_core.specs.declared.node.Binding.{Binding}
use Rattle.gib_core.specs.declared.node.Binding.TheVariants as b
use Rattle.gib_core.specs.declared.node.Node.{Node}
use Rattle.gib_core.specs.declared.node.Node.TheVariants as n
use Rattle.gib_core.specs.Arena.{IsArena}
use Rattle.gib_core.specs.Tree.{Term, Then, Write, Point, Give, Tuple, PartTerms, Bind, Past, One, Both, Prim, Reach, Side, Branches, CoreTree}
use Rattle.gib_core.specs.Walk.{walk_bind, walk_side, walk_parts, walk_branches, some, Entry, AtLine, map_term, as_it_is, with_bodies}
use Rattle.gib_core.specs.Met.{CallLine}

-- The entry is a call.
abbrev pub is_call : Entry → Bool
is_call (AtLine (CallLine f xs)) = true
is_call l = false

-- A term contains a call, itself or in a term that is nested in it; so may a binding, a side, parts, branches.
abbrev pub has_call : Term → Bool
has_call t = some is_call t

-- A binding contains a call.
abbrev pub bind_has_call : Bind → Bool
bind_has_call b = walk_bind (◌||◌) false is_call b

-- A side contains a call.
abbrev pub side_has_call : Side → Bool
side_has_call s = walk_side (◌||◌) false is_call s

-- Parts contain a call.
abbrev pub parts_have_call : PartTerms → Bool
parts_have_call ps = walk_parts (◌||◌) false is_call ps

-- Branches contain a call.
abbrev pub branches_have_call : Branches → Bool
branches_have_call bs = walk_branches (◌||◌) false is_call bs

-- A par is marked exactly where both its sides contain a call.
abbrev pub mark_one : Bind → Bind
mark_one (Both fork l r) = Both (side_has_call l && side_has_call r) l r
mark_one b = b

-- A term in which each par is marked so.
abbrev pub mark : Term → Term
mark t = map_term mark_one as_it_is t

-- A core whose pars are marked so.
abbrev pub mark_core : CoreTree → CoreTree
mark_core core = with_bodies (λ b. mark b.term) core

-- Whether a term begins with a par that is to be marked.
abbrev pub bind_may_fork : Bind → Bool
bind_may_fork (Past h k) = false
bind_may_fork (One s) = false
bind_may_fork (Both fork l r) = side_has_call l && side_has_call r
bind_may_fork (Prim x f y z) = false
bind_may_fork (Reach y by) = false

-- A term begins with a par whose sides both contain a call.
abbrev pub may_fork : Term → Bool
may_fork (Then b rest) = bind_may_fork b
may_fork t = false

-- A par with this mark; another binding, and another node, is as it was.
abbrev pub with_fork : Bool → Binding → Binding
with_fork m (b.Past h k) = b.Past h k
with_fork m (b.One s) = b.One s
with_fork m (b.Par fork l r) = b.Par m l r
with_fork m (b.Prim x f y z) = b.Prim x f y z
with_fork m (b.Reach y by) = b.Reach y by

-- A node whose binding has this mark, where it is a par.
abbrev pub node_with_fork : Bool → Node → Node
node_with_fork m (n.Then binding rest) = n.Then (with_fork m binding) rest
node_with_fork m (n.Write h k ss ps) = n.Write h k ss ps
node_with_fork m (n.Point x) = n.Point x
node_with_fork m (n.Call f xs) = n.Call f xs
node_with_fork m (n.Give x) = n.Give x
node_with_fork m (n.Case x branches) = n.Case x branches
node_with_fork m (n.If x t u) = n.If x t u
node_with_fork m (n.Tuple tys ss ps) = n.Tuple tys ss ps

-- The mark of the node at a place is set, and all others stay.
pub record IsSet (old new : List Node) (place : ℕ) (fork : Bool) : Type 0 where
  pub node : (x : Node) → slice_get old place ≡ Some x → slice_get new place ≡ Some (node_with_fork fork x)
  pub others : (id : ℕ) → (id ≡ place → ⊥) → slice_get new id ≡ slice_get old id
  pub long : length new ≡ length old
  pub arena : IsArena new
