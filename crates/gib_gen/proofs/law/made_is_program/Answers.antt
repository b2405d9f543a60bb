use Rattle.gib_gen.proofs.Laws.{made_is_program}
use Rattle.gib_gen.proofs.law.made_is_program.Goals as goal

-- src/law.rt
pub returns : goal.returns
returns c = made_is_program
