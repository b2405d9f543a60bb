use Rattle.std.proofs.Common.{◌≡◌, ◌≤◌, drop, length}
use Rattle.gib_syntax.specs.Typing.{names_of, types_of}
use Rattle.gib_check.specs.Origins.{outside_arm}
use Rattle.gib_check.specs.Views.{table_in}
use Rattle.gib_check.proofs.node_facts.outside_parts.Given as goal

abbrev pub invariant-variables : goal.invariant-variables
invariant-variables l = (l.place ≤ length l.names) × (l.origin ≡ outside_arm (drop l.place (names_of l.names)) (drop l.place (types_of (table_in l.declared).types l.names)) l.fn.body)

abbrev pub decreases-variables : goal.decreases-variables
decreases-variables l = l.place
