use Rattle.std.proofs.Common.{◌-◌}
use Rattle.gib_app.proofs.machine_run.run_on.Given as goal

abbrev pub decreases-limits : goal.decreases-limits
decreases-limits g l = l.options.chunks - l.limit
