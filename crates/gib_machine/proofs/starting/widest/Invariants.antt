use Rattle.std.proofs.Common.{◌≡◌, length, max}
use Rattle.gib_machine.specs.State as m
use Rattle.gib_machine.proofs.starting.widest.Given as goal

abbrev pub invariant-functions : goal.invariant-functions
invariant-functions l = max l.most (m.widest l.rest) ≡ m.widest l.fn.functions

abbrev pub decreases-functions : goal.decreases-functions
decreases-functions l = length l.rest
