use Rattle.std.proofs.Common.{ap, subst}
use Rattle.gib_local.specs.declared.build_fault.BuildFault.{BuildFault}
use Rattle.gib_local.specs.Builds.{Fails}
use Rattle.gib_local.specs.Local.{placed}
use Rattle.gib_local.proofs.making.of_places.Goals as goal

pub returns-in-Place : goal.returns-in-Place
returns-in-Place c = λ t core h. ap (placed t) (subst (λ (e : BuildFault). Fails e core) c.in-Place.is h)
