use Rattle.gib_syntax.proofs.SingleMeaning.{single_means}
use Rattle.gib_syntax.proofs.law.types_order_tuples_alone.Goals as goal

pub returns : goal.returns
returns c = single_means
