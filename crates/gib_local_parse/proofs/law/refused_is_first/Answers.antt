use Rattle.gib_local_parse.proofs.WholeLaws.{first_blamed}
use Rattle.gib_local_parse.proofs.law.refused_is_first.Goals as goal

pub returns : goal.returns
returns c = first_blamed
