use Rattle.gib_packed.proofs.WalkLaws.{Walk-stands, Walk-turned, Walk-passed, Walk-entered}
use Rattle.gib_packed.proofs.law.walks_go_on.Goals as goal

pub returns-clause-stands : goal.returns-clause-stands
returns-clause-stands c = λ laid s roof k a n z w. Walk-stands w

pub returns-clause-turns : goal.returns-clause-turns
returns-clause-turns c = λ laid s roof k a n z w e. Walk-turned w e

pub returns-clause-passes : goal.returns-clause-passes
returns-clause-passes c = λ laid s roof k a n z w e. Walk-passed w e

pub returns-clause-enters : goal.returns-clause-enters
returns-clause-enters c = λ laid s roof i a n z k w e lt. Walk-entered k w e lt
