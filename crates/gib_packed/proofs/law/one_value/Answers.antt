use Rattle.gib_packed.proofs.Unique.{Dec-same, Stands-same}
use Rattle.gib_packed.proofs.law.one_value.Goals as goal

pub returns-clause-decodes : goal.returns-clause-decodes
returns-clause-decodes c = λ laid s a t y z v w d e. let r = Dec-same d e in (r.value, r.end)

pub returns-clause-stands : goal.returns-clause-stands
returns-clause-stands c = λ laid s root ty v w d e. Stands-same d e
