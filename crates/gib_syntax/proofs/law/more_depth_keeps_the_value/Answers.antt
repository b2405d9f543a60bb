use Rattle.gib_syntax.proofs.Depth.{run_keeps}
use Rattle.gib_syntax.proofs.law.more_depth_keeps_the_value.Goals as goal

pub returns : goal.returns
returns c = run_keeps
