use Rattle.gib_local.specs.Builds.{program_in}
use Rattle.gib_local.proofs.Joining.{region_step}
use Rattle.gib_local.proofs.steps.new_region.Goals as goal

pub returns : goal.returns
returns c = region_step (program_in c.args.source.now) c.args.builder.now c.name.new.self c.args.goal.now c.args.r c.put.new.self c.in_ok-name.ensures c.in_ok-put.ensures
