use Rattle.std.proofs.Common.{◌≡◌, drop}
use Rattle.gib_check.proofs.stack.Stack.skip.Given as goal

abbrev pub invariant-items : goal.invariant-items
invariant-items g l = drop l.missing l.self ≡ drop l.count l.fn.self

abbrev pub decreases-items : goal.decreases-items
decreases-items g l = l.missing
