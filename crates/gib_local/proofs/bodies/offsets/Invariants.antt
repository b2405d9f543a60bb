use Rattle.std.proofs.Common.{◌≡◌, ◌++◌, length, map}
use Rattle.gib_local.specs.Building.{con}
use Rattle.gib_local.specs.Builds.{program_in}
use Rattle.gib_local.proofs.bodies.offsets.Given as goal

abbrev pub invariant-offsets : goal.invariant-offsets
invariant-offsets l = l.offsets.items ++ map (con (program_in l.source).table) l.rest ≡ map (con (program_in l.source).table) l.source.offsets

abbrev pub decreases-offsets : goal.decreases-offsets
decreases-offsets l = length l.rest
