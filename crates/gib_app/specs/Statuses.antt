-- A status by the name of its reason.
use Rattle.gib_types.specs.declared.reason.Reason.TheVariants.{Deep}
use Rattle.gib_app.specs.declared.status.Status.{Status}
use Rattle.gib_app.specs.declared.status.Status.TheVariants.{NoValue}

-- The program's meaning runs out of depth.
abbrev pub Depth : Status
Depth = NoValue Deep
