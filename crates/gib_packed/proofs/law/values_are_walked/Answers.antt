use Rattle.gib_packed.proofs.WalkLaws.{value-walked, Walk-ended}
use Rattle.gib_packed.proofs.law.values_are_walked.Goals as goal

pub returns-clause-goes : goal.returns-clause-goes
returns-clause-goes c = λ laid s bound a t z v few w d. value-walked few w d

pub returns-clause-ends : goal.returns-clause-ends
returns-clause-ends c = λ laid s roof k a z w. Walk-ended w
