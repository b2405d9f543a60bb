use Rattle.std.proofs.Common.{◌≡◌, ◌≤◌, ◌++◌, length, drop}
use Rattle.gib_syntax.proofs.print.put_all.Given as goal

abbrev pub invariant-tokens : goal.invariant-tokens
invariant-tokens l = (l.i ≤ length l.tokens) × (l.out ≡ drop l.i l.tokens ++ l.fn.out)

abbrev pub decreases-tokens : goal.decreases-tokens
decreases-tokens l = l.i
