use Rattle.std.proofs.Common.{◌≡◌, ◌≤◌, ◌++◌, length, take, reverse}
use Rattle.gib_loccheck.proofs.lines.par.push_reversed.Given as goal

abbrev pub invariant-variables : goal.invariant-variables
invariant-variables l = (l.i ≤ length l.variables) × (l.others.items ++ reverse (take l.i l.variables) ≡ l.fn.others.items ++ reverse l.variables)

abbrev pub decreases-variables : goal.decreases-variables
decreases-variables l = l.i
