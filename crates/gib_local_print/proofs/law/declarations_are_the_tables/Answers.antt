use Rattle.gib_local_print.proofs.DatasBack.{datas_back}
use Rattle.gib_local_print.proofs.law.declarations_are_the_tables.Goals as goal

pub returns : goal.returns
returns c = datas_back
