use Rattle.gib_parse.proofs.DeclarationsStay.{data_stays}
use Rattle.gib_parse.proofs.declarations.GenericDataRepeated.laws.Goals as goal

pub returns-clause-stays : goal.returns-clause-stays
returns-clause-stays c = data_stays
