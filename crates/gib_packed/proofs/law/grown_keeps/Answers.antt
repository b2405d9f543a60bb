use Rattle.gib_packed.proofs.Grow.{Dec-grows, Stands-grows}
use Rattle.gib_packed.proofs.WalkLaws.{Turns-grows, Leads-grows, Reaches-grows, Walk-grows}
use Rattle.gib_packed.proofs.FieldLemmas.{Field-grows}
use Rattle.gib_packed.proofs.law.grown_keeps.Goals as goal

pub returns-clause-decodes : goal.returns-clause-decodes
returns-clause-decodes c = λ laid s r a t z v g d. Dec-grows g d

pub returns-clause-stands : goal.returns-clause-stands
returns-clause-stands c = λ laid s r root ty v g d. Stands-grows g d

pub returns-clause-turns : goal.returns-clause-turns
returns-clause-turns c = λ s r a b g t. Turns-grows g t

pub returns-clause-leads : goal.returns-clause-leads
returns-clause-leads c = λ s r a h g l. Leads-grows g l

pub returns-clause-reaches : goal.returns-clause-reaches
returns-clause-reaches c = λ s r n a g d. Reaches-grows g d

pub returns-clause-walks : goal.returns-clause-walks
returns-clause-walks c = λ laid s r roof k a n z g w. Walk-grows g w

pub returns-clause-fields : goal.returns-clause-fields
returns-clause-fields c = λ laid s r a n p z ts vs v g f. Field-grows g f
