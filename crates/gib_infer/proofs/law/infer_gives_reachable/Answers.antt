use Rattle.gib_infer.proofs.Reachability.{infer_reachable}
use Rattle.gib_infer.proofs.law.infer_gives_reachable.Goals as goal

-- src/law.rt
pub returns : goal.returns
returns c = infer_reachable
