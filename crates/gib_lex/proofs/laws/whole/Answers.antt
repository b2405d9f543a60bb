use Rattle.gib_base.specs.declared.token.Dialect.TheVariants.{Source}
use Rattle.gib_lex.proofs.Whole.{AreTokens_lexed}
use Rattle.gib_lex.proofs.laws.whole.Goals as goal

pub returns : goal.returns
returns c = AreTokens_lexed Source
