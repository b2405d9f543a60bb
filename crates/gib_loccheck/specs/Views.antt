-- The state of the walk, as the rules see it.
use Rattle.std.specs.Prelude.{List, [], ◌∷◌, map, reverse}
use Rattle.gib_base.specs.declared.name.Name.{Name}
use Rattle.std.specs.Prelude.{ℕ, Bool, false, not, ◌==◌, ◌&&◌, ◌||◌, length, Option, Some, None}
use Rattle.gib_core.specs.Tree.{FunctionTerm}
use Rattle.gib_core.specs.declared.atom.Atom.{Atom}
use Rattle.gib_core.specs.declared.rule.Rule.{Rule}
use Rattle.gib_core.specs.declared.rule.Rule.TheVariants as r
use Rattle.gib_types.specs.declared.table.Ty.TheVariants.{Whole}
use Rattle.gib_types.specs.declared.table.ConId.{ConId}
use Rattle.gib_core.specs.declared.atom.Variable.{Variable}
use Rattle.gib_core.specs.declared.node.Branch.{Branch}
use Rattle.gib_types.specs.Table.{Table, scalar_types, tree_types}
use Rattle.gib_types.specs.declared.table.Ty.{Ty}
use Rattle.gib_core.specs.Met.{Destination, Nowhere, Empty, Open, InParts, Setting, in_arm}
use Rattle.gib_core.specs.PartTypes.{types_in}
use Rattle.gib_core.specs.Rules.{Before, Judgement, rule_number, judged, any_other, any_bound, is_bound, have_types, gives_packed, is_empty, all_usable, call_fits, are_several, are_declared}
use Rattle.gib_loccheck.specs.declared.state.Walk.{Walk}
use Rattle.gib_loccheck.specs.declared.state.Told.{Told}
use Rattle.gib_loccheck.specs.declared.target.Target.{Target}
use Rattle.gib_loccheck.specs.declared.destination.Destination.{Destination as Stored}
use Rattle.gib_loccheck.specs.declared.destination.Destination.TheVariants as d

-- Where a value is put.
abbrev pub destination_of : Stored → Destination
destination_of d.Nowhere = Nowhere
destination_of d.Empty = Empty
destination_of (d.Open h k standing) = Open h k standing.items
destination_of (d.InParts types) = InParts (types_in types)

-- A call with its arguments.
abbrev pub call_of : Told → Name × List Atom
call_of c = (c.name, c.arguments.items)

-- The calls to which variables were bound before in the line, the newest first.
abbrev pub calls_of : Walk → List (Name × List Atom)
calls_of w = reverse (map call_of w.calls.items)

-- What a term is met with.
abbrev pub setting_of : Walk → Target → Setting
setting_of w t = record {
  destination = destination_of t.destination;
  due = t.due;
  scope = reverse w.scope.items;
  others = reverse w.others.items;
  whole = t.whole;
  calls = calls_of w;
}

-- The same, before a line.
abbrev pub at_line : Setting → Setting
at_line s = record s { calls = [] }

-- What a term is met with, whatever is due there: what can be used tells no difference.
abbrev pub in_scope : Walk → Setting
in_scope w = record { destination = Nowhere; due = Whole; scope = reverse w.scope.items; others = reverse w.others.items; whole = false; calls = calls_of w }

-- What stands before a term.
abbrev pub before_of : Walk → Before
before_of w = record { bound = reverse w.bound.items; cased = reverse w.cased.items }

-- A branch without its term.
abbrev pub arm_of : Branch → ConId × List Variable
arm_of branch = (branch.constructor, branch.variables.items)

-- Branches without their terms.
abbrev pub arms_in : List Branch → List (ConId × List Variable)
arms_in branches = map arm_of branches

-- What stands before the line of an arm.
abbrev pub before_arm : Table → Setting → ConId → List Variable → Setting
before_arm table s k xs = record (in_arm table s k xs) { calls = s.calls }

-- What the rules on a call are judged by: its function, where there is one.
abbrev pub call_rules : Before → Setting → List Atom → Option FunctionTerm → List Judgement
call_rules b s xs f =
    judged r.Sides (any_other s xs)
    ∷ judged r.Place (gives_packed f && not (is_empty s.destination))
    ∷ judged r.Scope (not (all_usable s xs))
    ∷ judged r.Types (not (call_fits b s xs f)) ∷ []

-- What the rules on an operation are judged by: neither its operator nor the core matters.
abbrev pub prim_rules : Before → Setting → Variable → Atom → Atom → List Judgement
prim_rules b s x y z =
    judged r.Sides (any_other s (y ∷ z ∷ []))
    ∷ judged r.Scope (is_bound b.bound x || not (all_usable s (y ∷ z ∷ [])))
    ∷ judged r.Types (not (have_types b (y ∷ z ∷ []) (Whole ∷ Whole ∷ []))) ∷ []

-- What the rules on several variables are judged by: neither the core nor what is due matters.
abbrev pub several_rules : Before → List Variable → List Ty → List Judgement
several_rules b xs tys = judged r.Scope (any_bound xs [] b.bound) ∷ judged r.Several (not (are_several xs tys)) ∷ []

-- The types of a tuple are declared, its scalars are the scalar ones, and there are so many packed ones.
abbrev pub is_whole : Table → Before → List Ty → List Atom → ℕ → Bool
is_whole table b tys ss packed = are_declared table tys && (have_types b ss (scalar_types tys) && packed == length (tree_types tys))

-- The number of a rule that is broken.
abbrev pub numbered : Option Rule → Option ℕ
numbered None = None
numbered (Some rule) = Some (rule_number rule)
