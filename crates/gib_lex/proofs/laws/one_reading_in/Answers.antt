use Rattle.gib_lex.proofs.Cuts as cuts
use Rattle.gib_lex.proofs.laws.one_reading_in.Goals as goal

pub returns : goal.returns
returns c = cuts.one_reading
