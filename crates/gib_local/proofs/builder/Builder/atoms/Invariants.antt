use Rattle.std.proofs.Common.{◌≡◌, ◌++◌, length, map}
use Rattle.gib_local.specs.declared.destination.Goal.{Goal}
use Rattle.gib_local.specs.Building.{atom}
use Rattle.gib_local.specs.Builds.{around_of}
use Rattle.gib_local.proofs.builder.Builder.atoms.Given as goal

abbrev pub invariant-values : goal.invariant-values
invariant-values l = (g : Goal) → l.atoms.items ++ map (atom (around_of l.self g)) l.rest ≡ map (atom (around_of l.self g)) l.values

abbrev pub decreases-values : goal.decreases-values
decreases-values l = length l.rest
