use Rattle.gib_weave.proofs.Puts.{never_over, never_twice, got_was_put}
use Rattle.gib_weave.proofs.Starts.{lowered_bodies}
use Rattle.gib_weave.proofs.weave_law.each_byte_is_put_once.Goals as goal

pub returns-clause-over : goal.returns-clause-over
returns-clause-over c = λ core code ty o whole w v v' e es q low fit sd k l h p. never_over core code (lowered_bodies core code low fit) ty o whole w v v' e es q sd k l h p

pub returns-clause-twice : goal.returns-clause-twice
returns-clause-twice c = λ core code ty o whole w w' v v' d e es q low fit sd n p l h r. never_twice core code (lowered_bodies core code low fit) ty o whole w w' v v' d e es q sd n p l h r

pub returns-clause-got : goal.returns-clause-got
returns-clause-got c = λ core code ty o whole w v v' e es q low fit sd l h p. got_was_put core code (lowered_bodies core code low fit) ty o whole w v v' e es q sd l h p
