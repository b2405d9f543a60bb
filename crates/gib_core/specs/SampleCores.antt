-- Small cores, for examples of build rules.
use Rattle.std.specs.Prelude.{ℕ, ◌+◌, pos, true, false, List, [], ◌∷◌}
use Rattle.gib_base.specs.declared.name.Name.{Name}
use Rattle.gib_types.specs.declared.table.Ty.{Ty}
use Rattle.gib_types.specs.declared.table.Ty.TheVariants.{Whole, Tree}
use Rattle.gib_types.specs.declared.table.ConId.{ConId}
use Rattle.gib_types.specs.Row.{Table}
use Rattle.gib_core.specs.declared.atom.Variable.{Variable}
use Rattle.gib_core.specs.declared.atom.Atom.{Atom}
use Rattle.gib_core.specs.declared.atom.Atom.TheVariants as a
use Rattle.gib_core.specs.declared.atom.Kind.{Kind}
use Rattle.gib_core.specs.declared.atom.Kind.TheVariants.{Here, Region, Scalar}
use Rattle.gib_core.specs.declared.atom.Access.TheVariants.{Offset}
use Rattle.gib_types.specs.declared.operator.Operator.TheVariants.{Add}
use Rattle.gib_syntax.specs.Results as results
use Rattle.gib_core.specs.Tree.{Term, Then, CallTerm, CaseTerm, Write, Tuple, NoPart, PartThen, Bind, Past, Point, Give, One, Both, Prim, Reach, On, Several, Branches, NoBranch, BranchThen, var, CoreTree}

-- data Tree = Leaf Int | Node Tree Tree, data Empty = Nil, data Triple = Three Tree Tree Tree

-- The type `Tree`.
abbrev pub tree : Ty
tree = Tree (record { 0 = 0 })

-- The type `Empty`.
abbrev pub empty : Ty
empty = Tree (record { 0 = 1 })

-- The type `Triple`.
abbrev pub triple : Ty
triple = Tree (record { 0 = 2 })

-- The constructor `Leaf`.
abbrev pub leaf : ConId
leaf = record { 0 = 0 }

-- `Node`.
abbrev pub node : ConId
node = record { 0 = 1 }

-- `Nil`.
abbrev pub nil : ConId
nil = record { 0 = 2 }

-- `Three`.
abbrev pub three : ConId
three = record { 0 = 3 }

-- The table of these.
abbrev pub sample_table : Table
sample_table = record {
  types = 0 ∷ 1 ∷ 2 ∷ [];
  rows = record { name = 3; owner = 0; fields = Whole ∷ [] }
      ∷ record { name = 4; owner = 0; fields = tree ∷ tree ∷ [] }
      ∷ record { name = 5; owner = 1; fields = [] }
      ∷ record { name = 6; owner = 2; fields = tree ∷ tree ∷ tree ∷ [] } ∷ [];
}

-- The variable of a number.
abbrev pub v : ℕ → Variable
v n = record { 0 = n }

-- The function `same (t : Tree) : Tree = t`.
abbrev pub same : Name
same = record { 0 = 7 }

-- A core of this main, behind that function, whose one term is the first; so main's terms count from 1.
abbrev pub sample : Ty → Ty → Term → CoreTree
sample parameter result body = record {
  table = sample_table;
  functions = record { name = same; parameters = tree ∷ []; result = results.One tree; body = Point (var 0) } ∷ [];
  main = record { parameter = parameter; result = result; body = body };
  offsets = node ∷ [];
  marked = false;
}

-- The function `size (t : Tree) : Int = 0`.
abbrev pub size : Name
size = record { 0 = 8 }

-- A core of this main, behind that function in place of `same`.
abbrev pub sized : Ty → Ty → Term → CoreTree
sized parameter result body = record (sample parameter result body) { functions = record { name = size; parameters = tree ∷ []; result = results.One Whole; body = Give (a.Whole (pos 0)) } ∷ [] }

-- The number 0 is given.
abbrev pub zero_term : Term
zero_term = Give (a.Whole (pos 0))

-- A variable that is bound to a tree by an indirection to another one.
abbrev pub points : Kind → ℕ → ℕ → Bind
points kind x y = One (On kind (v x) tree (Point (var y)))

-- The arms of a case on a tree.
abbrev pub arms : List Variable → Term → List Variable → Term → Branches
arms xs t ys u = BranchThen leaf xs t (BranchThen node ys u NoBranch)

-- A variable that is bound to the size of another one, by a call.
abbrev pub sizes : ℕ → ℕ → Bind
sizes x y = One (On Scalar (v x) Whole (CallTerm size (var y ∷ [])))

-- A core of a function `size` with this term in its second arm, whose fields are %2 and %3, and a main that calls it. Ends are marked.
abbrev pub told : Term → CoreTree
told t = record {
  table = sample_table;
  functions = record { name = size; parameters = tree ∷ []; result = results.One Whole; body = CaseTerm (var 0) (arms (v 1 ∷ []) (Give (var 1)) (v 2 ∷ v 3 ∷ []) t) } ∷ [];
  main = record { parameter = tree; result = Whole; body = Then (sizes 1 0) (Give (var 1)) };
  offsets = [];
  marked = true;
}

-- The types of a tree and of a number.
abbrev pub pair_types : List Ty
pair_types = tree ∷ Whole ∷ []

-- The parameter, and a number, as two parts.
abbrev pub pair : Atom → Term
pair x = Tuple pair_types (x ∷ []) (PartThen (Point (var 0)) NoPart)

-- The parts of a term, bound to %1 and %2.
abbrev pub pair_bound : Term → Bind
pair_bound t = One (Several (v 1 ∷ v 2 ∷ []) pair_types t)

-- A function that gives a tree and a number.
abbrev pub split : Name
split = record { 0 = 9 }

-- A core of `split (t : Tree) : (Tree, Int)` with the first term, and of this main from a tree to a tree; its terms count from 0.
abbrev pub parted : Term → Term → CoreTree
parted t body = record (sample tree tree body) { functions = record { name = split; parameters = tree ∷ []; result = results.Several pair_types; body = t } ∷ [] }

-- A leaf of a variable, and a node of two, of which the head and the fields are variables from a number on.
abbrev pub leaf_of : ℕ → ℕ → Term
leaf_of h x = Then (Past (v h) leaf) (Write (v h) leaf (var x ∷ []) [])

-- A node of two trees, the same way.
abbrev pub node_of : ℕ → ℕ → ℕ → Term
node_of h x y = Then (Past (v h) node) (Then (points Here (h + 1) x) (Then (points Here (h + 2) y) (Write (v h) node [] (var (h + 1) ∷ var (h + 2) ∷ []))))

-- Main: a node of what `split` gives for its parameter, the number in a leaf.
abbrev pub node_of_parts : Term
node_of_parts = Then (pair_bound (CallTerm split (var 0 ∷ []))) (Then (One (On Region (v 3) tree (leaf_of 4 2))) (node_of 5 1 3))

-- The core of `fun split (n : Int) : (Tree, Int) = (Leaf n, (n + 1))` with that main.
abbrev pub next_to : CoreTree
next_to = record {
  table = sample_table;
  functions = record { name = split; parameters = Whole ∷ []; result = results.Several pair_types; body = Then (Prim (v 1) Add (var 0) (a.Whole (pos 1))) (Tuple pair_types (var 1 ∷ []) (PartThen (leaf_of 2 0) NoPart)) } ∷ [];
  main = record { parameter = Whole; result = tree; body = node_of_parts };
  offsets = [];
  marked = false;
}

-- The core of `fun split (t : Tree) : (Tree, Int)`, which adds 1 to each leaf of a tree and sums the tree too, with that main.
abbrev pub summed : CoreTree
summed =
    let summed_leaf = Tuple pair_types (var 1 ∷ []) (PartThen (Then (Prim (v 2) Add (var 1) (a.Whole (pos 1))) (leaf_of 3 2)) NoPart) in
    let sides = Both true (Several (v 6 ∷ v 7 ∷ []) pair_types (CallTerm split (var 4 ∷ []))) (Several (v 8 ∷ v 9 ∷ []) pair_types (CallTerm split (var 5 ∷ []))) in
    let summed_node = Then (Reach (v 5) Offset) (Then sides (Then (Prim (v 10) Add (var 7) (var 9)) (Tuple pair_types (var 10 ∷ []) (PartThen (node_of 11 6 8) NoPart)))) in
    record {
      table = sample_table;
      functions = record { name = split; parameters = tree ∷ []; result = results.Several pair_types; body = CaseTerm (var 0) (arms (v 1 ∷ []) summed_leaf (v 4 ∷ v 5 ∷ []) summed_node) } ∷ [];
      main = record { parameter = tree; result = tree; body = node_of_parts };
      offsets = node ∷ [];
      marked = false;
    }
