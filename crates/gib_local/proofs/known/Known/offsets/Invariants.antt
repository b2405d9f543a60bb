use Rattle.std.proofs.Common.{◌≡◌, length}
use Rattle.gib_local.specs.Knowing.{declared_of}
use Rattle.gib_local.specs.Naming as rule
use Rattle.gib_local.proofs.known.Known.offsets.Given as goal

abbrev pub invariant-offsets : goal.invariant-offsets
invariant-offsets l = rule.check_offsets (declared_of l.self).table l.self.offsets ≡ rule.check_offsets (declared_of l.self).table l.rest

abbrev pub decreases-offsets : goal.decreases-offsets
decreases-offsets l = length l.rest
