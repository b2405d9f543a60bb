use Rattle.gib_app.proofs.Repeats.{replays_again, same_end}
use Rattle.gib_app.proofs.law.a_replay_repeats_its_trace.Goals as goal

-- src/law.rt
pub returns-clause-same : goal.returns-clause-same
returns-clause-same c = λ options others p names given journal file ended again short. same_end c.one_file.ensures.value p.tree names options others given journal file ended again short

pub returns-clause-accepted : goal.returns-clause-accepted
returns-clause-accepted c = λ options others p names given journal ended short. replays_again c.one_file.ensures.value p.tree names options others given journal ended short
