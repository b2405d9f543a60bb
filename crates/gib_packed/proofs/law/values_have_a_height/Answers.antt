use Rattle.gib_packed.proofs.SpanLemmas.{Dec-span, Span-height}
use Rattle.gib_packed.proofs.law.values_have_a_height.Goals as goal

pub returns-clause-spans : goal.returns-clause-spans
returns-clause-spans c = λ laid s a t z v d. Dec-span d

pub returns-clause-height : goal.returns-clause-height
returns-clause-height c = λ laid s bound h a z w d. Span-height w d
