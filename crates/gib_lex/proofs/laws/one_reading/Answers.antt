use Rattle.gib_base.specs.declared.token.Dialect.TheVariants.{Source}
use Rattle.gib_lex.proofs.Cuts as cuts
use Rattle.gib_lex.proofs.laws.one_reading.Goals as goal

pub returns : goal.returns
returns c = cuts.one_reading Source
