use Rattle.std.proofs.Common.{◌≡◌, length}
use Rattle.gib_syntax.specs.TypeTokens.{closed}
use Rattle.gib_syntax.proofs.type_tokens.TypeTokens.close.Given as goal

abbrev pub invariant-open : goal.invariant-open
invariant-open l = closed l.self.tokens l.self.due ≡ closed l.fn.self.tokens l.fn.self.due

abbrev pub decreases-open : goal.decreases-open
decreases-open l = length l.self.due
