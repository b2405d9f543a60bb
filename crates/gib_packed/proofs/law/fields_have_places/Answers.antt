use Rattle.gib_packed.proofs.FieldLemmas.{Field-there, Field-placed, Field-same, Field-stands, places-below}
use Rattle.gib_packed.proofs.law.fields_have_places.Goals as goal

pub returns-clause-there : goal.returns-clause-there
returns-clause-there c = λ laid s a z n ts vs places ds lt. Field-there n ds lt

pub returns-clause-placed : goal.returns-clause-placed
returns-clause-placed c = λ laid s a n p y z ts vs v places ds f. Field-placed ds f

pub returns-clause-one : goal.returns-clause-one
returns-clause-one c = λ laid s a n p q y z ts vs v w f g. let r = Field-same f g in (r.value, r.place, r.end)

pub returns-clause-stands : goal.returns-clause-stands
returns-clause-stands c = λ laid s a n p z ts vs v f. Field-stands f

pub returns-clause-below : goal.returns-clause-below
returns-clause-below c = λ laid s bound a z n p ts vs places w ds e. places-below w ds n p e
