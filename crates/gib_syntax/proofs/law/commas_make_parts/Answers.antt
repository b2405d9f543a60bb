use Rattle.gib_syntax.proofs.Commas.{no_commas}
use Rattle.gib_syntax.proofs.law.commas_make_parts.Goals as goal

pub returns : goal.returns
returns c = no_commas
