use Rattle.std.proofs.Common.{◌≡◌, length}
use Rattle.gib_local.specs.Naming as rule
use Rattle.gib_local.proofs.scopes.Scopes.operands.Given as goal

abbrev pub invariant-operands : goal.invariant-operands
invariant-operands l = rule.operands l.self.names.variables l.operands ≡ rule.operands l.self.names.variables l.rest

abbrev pub decreases-operands : goal.decreases-operands
decreases-operands l = length l.rest
