use Rattle.std.proofs.Common.{◌≡◌, ◌-◌, ◌≤◌, length}
use Rattle.gib_check.specs.NodeFacts.{AreFacts}
use Rattle.gib_check.specs.Views.{globals_in, tree_in}
use Rattle.gib_check.proofs.node_facts.list_facts.Given as goal

abbrev pub invariant-nodes : goal.invariant-nodes
invariant-nodes l = (length l.facts.items ≡ l.id) × (l.id ≤ length l.declared.exprs) × AreFacts (globals_in l.declared) (tree_in l.declared) l.facts.items

abbrev pub decreases-nodes : goal.decreases-nodes
decreases-nodes l = length l.declared.exprs - l.id
