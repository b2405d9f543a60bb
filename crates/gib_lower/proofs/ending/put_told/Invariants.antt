use Rattle.std.proofs.Common.{◌≡◌, ◌++◌, length, reverse}
use Rattle.gib_core.specs.Low.{over_all}
use Rattle.gib_lower.proofs.ending.put_told.Given as goal

abbrev pub invariant-overs : goal.invariant-overs
invariant-overs l = over_all (reverse l.left) ++ l.code ≡ over_all l.overs ++ l.fn.code

abbrev pub decreases-overs : goal.decreases-overs
decreases-overs l = length l.left
