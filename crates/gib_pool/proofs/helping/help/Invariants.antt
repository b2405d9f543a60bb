use Rattle.gib_pool.specs.Mine.{IsMine}
use Rattle.gib_pool.proofs.helping.help.Given as goal

abbrev pub invariant-turns : goal.invariant-turns
invariant-turns g l = IsMine l.forks
