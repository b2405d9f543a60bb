use Rattle.std.proofs.Common.{◌≡◌, ◌++◌, ◌-◌, length, drop}
use Rattle.gib_core.specs.Mentioned.{binders_in}
use Rattle.gib_core.proofs.mentions.push_all_bound.Given as goal

abbrev pub invariant-mentions : goal.invariant-mentions
invariant-mentions l = l.order.items ++ binders_in (drop l.i l.mentions) ≡ l.fn.order.items ++ binders_in l.mentions

abbrev pub decreases-mentions : goal.decreases-mentions
decreases-mentions l = length l.mentions - l.i
