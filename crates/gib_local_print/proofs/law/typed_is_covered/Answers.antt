use Rattle.gib_local_print.proofs.TypedCovered.{typed_covered}
use Rattle.gib_local_print.proofs.law.typed_is_covered.Goals as goal

pub returns : goal.returns
returns c p fine typed = typed_covered p fine typed
