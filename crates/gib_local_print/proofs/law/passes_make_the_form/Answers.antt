use Rattle.gib_local_print.proofs.Passes.{passes_form}
use Rattle.gib_local_print.proofs.law.passes_make_the_form.Goals as goal

pub returns : goal.returns
returns c mode p is h = passes_form mode p is h
