use Rattle.gib_parse.proofs.DeclarationsStay.{function_stays}
use Rattle.gib_parse.proofs.declarations.GenericFunctionRepeated.laws.Goals as goal

pub returns-clause-stays : goal.returns-clause-stays
returns-clause-stays c = function_stays
