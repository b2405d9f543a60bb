use Rattle.gib_pool.proofs.StackKeeps.{admits}
use Rattle.gib_pool.proofs.stealer.Stealer.make.Goals as goal

pub pass-pass-requires : goal.pass-pass-requires
pass-pass-requires c = admits
