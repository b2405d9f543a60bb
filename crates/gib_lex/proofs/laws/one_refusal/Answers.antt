use Rattle.gib_base.specs.declared.token.Dialect.TheVariants.{Source}
use Rattle.gib_lex.proofs.Fronts as fronts
use Rattle.gib_lex.proofs.laws.one_refusal.Goals as goal

pub returns-clause-nothing : goal.returns-clause-nothing
returns-clause-nothing c = fronts.refused_is_not_lexed Source

pub returns-clause-one : goal.returns-clause-one
returns-clause-one c = fronts.one_refusal Source
