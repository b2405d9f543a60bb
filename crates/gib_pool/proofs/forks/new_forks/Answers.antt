use Rattle.gib_pool.proofs.StackKeeps.{begins}
use Rattle.gib_pool.proofs.forks.new_forks.Goals as goal

pub lifo_as-requires : goal.lifo_as-requires
lifo_as-requires c = begins
