use Rattle.gib_packed.proofs.Typed.{Leads-same}
use Rattle.gib_packed.proofs.WalkLaws.{value-reaches}
use Rattle.gib_packed.proofs.law.one_head.Goals as goal

pub returns-clause-one : goal.returns-clause-one
returns-clause-one c = λ s a g h l m. Leads-same l m

pub returns-clause-reached : goal.returns-clause-reached
returns-clause-reached c = λ laid s bound a t z v w d. value-reaches w d
