use Rattle.gib_packed.proofs.Typed.{Dec-typed, Stands-typed}
use Rattle.gib_packed.proofs.law.typed.Goals as goal

pub returns-clause-decodes : goal.returns-clause-decodes
returns-clause-decodes c = λ laid s a t z v d. Dec-typed d

pub returns-clause-stands : goal.returns-clause-stands
returns-clause-stands c = λ laid s root ty v d. Stands-typed d
