use Rattle.std.proofs.Common.{◌≡◌, ◌≤◌, List, length, take, drop}
use Rattle.gib_types.specs.Tree.{Datum}
use Rattle.gib_syntax.specs.Meaning.{value_in}
use Rattle.gib_plain.specs.Stacks.{env_of}
use Rattle.gib_plain.proofs.stack.newest.Given as goal

abbrev pub invariant-vars : goal.invariant-vars
invariant-vars l = (l.base ≤ l.i) × (l.i ≤ length l.vars) × ((heap : List Datum) → value_in (env_of heap (drop l.base (take l.i l.vars))) l.name.0 ≡ value_in (env_of heap (drop l.base l.vars)) l.name.0)

abbrev pub decreases-vars : goal.decreases-vars
decreases-vars l = l.i
