use Rattle.gib_check.proofs.Stacks.{TakenSoFar}
use Rattle.gib_check.proofs.stack.Stack.take.Given as goal

abbrev pub invariant-items : goal.invariant-items
invariant-items g l = TakenSoFar l.fn.self l.self l.count l.missing l.taken.items

abbrev pub decreases-items : goal.decreases-items
decreases-items g l = l.missing
