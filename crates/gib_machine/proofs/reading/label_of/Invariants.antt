use Rattle.std.proofs.Common.{◌≡◌, length}
use Rattle.gib_machine.specs.Machine as m
use Rattle.gib_machine.proofs.reading.label_of.Given as goal

abbrev pub invariant-arms : goal.invariant-arms
invariant-arms l = m.label_of l.rest l.constructor ≡ m.label_of l.fn.arms l.constructor

abbrev pub decreases-arms : goal.decreases-arms
decreases-arms l = length l.rest
