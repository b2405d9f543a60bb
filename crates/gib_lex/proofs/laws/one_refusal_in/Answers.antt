use Rattle.gib_lex.proofs.Fronts as fronts
use Rattle.gib_lex.proofs.laws.one_refusal_in.Goals as goal

pub returns-clause-nothing : goal.returns-clause-nothing
returns-clause-nothing c = fronts.refused_is_not_lexed

pub returns-clause-one : goal.returns-clause-one
returns-clause-one c = fronts.one_refusal
