use Rattle.gib_pool.proofs.Lending.{lends_more, lends_less, lends_it, lends_none}
use Rattle.gib_pool.proofs.law.passes_come_back.Goals as goal

pub returns-clause-more : goal.returns-clause-more
returns-clause-more c = λ p p' e lent s l r h x. lends_more p p' e lent s l r h x

pub returns-clause-it : goal.returns-clause-it
returns-clause-it c = λ p e lent x. lends_it p e lent x

pub returns-clause-less : goal.returns-clause-less
returns-clause-less c = λ p q p' n e lent s j h o x. lends_less p q p' n e lent s j h o x

pub returns-clause-none : goal.returns-clause-none
returns-clause-none c = λ p x. lends_none p x
