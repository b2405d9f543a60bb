use Rattle.std.proofs.Common.{refl}
use Rattle.clap.proofs.OnLiterals.{clap_on_literals}
use Rattle.gib_words.proofs.word_laws.examples.Goals as goal

pub returns-clause-run : goal.returns-clause-run
unfolding clap_on_literals
returns-clause-run c = refl

pub returns-clause-depth : goal.returns-clause-depth
unfolding clap_on_literals
returns-clause-depth c = refl

pub returns-clause-names : goal.returns-clause-names
unfolding clap_on_literals
returns-clause-names c = refl

pub returns-clause-deep : goal.returns-clause-deep
unfolding clap_on_literals
returns-clause-deep c = refl

pub returns-clause-core : goal.returns-clause-core
unfolding clap_on_literals
returns-clause-core c = refl

pub returns-clause-pass : goal.returns-clause-pass
unfolding clap_on_literals
returns-clause-pass c = refl

pub returns-clause-few : goal.returns-clause-few
unfolding clap_on_literals
returns-clause-few c = refl

pub returns-clause-chunks : goal.returns-clause-chunks
unfolding clap_on_literals
returns-clause-chunks c = refl

pub returns-clause-few_chunks : goal.returns-clause-few_chunks
unfolding clap_on_literals
returns-clause-few_chunks c = refl

pub returns-clause-image : goal.returns-clause-image
unfolding clap_on_literals
returns-clause-image c = refl

pub returns-clause-code : goal.returns-clause-code
unfolding clap_on_literals
returns-clause-code c = refl

pub returns-clause-skips : goal.returns-clause-skips
unfolding clap_on_literals
returns-clause-skips c = refl

pub returns-clause-code_skips : goal.returns-clause-code_skips
unfolding clap_on_literals
returns-clause-code_skips c = refl

pub returns-clause-plain_skips : goal.returns-clause-plain_skips
unfolding clap_on_literals
returns-clause-plain_skips c = refl

pub returns-clause-workers : goal.returns-clause-workers
unfolding clap_on_literals
returns-clause-workers c = refl

pub returns-clause-no_workers : goal.returns-clause-no_workers
unfolding clap_on_literals
returns-clause-no_workers c = refl

pub returns-clause-forks : goal.returns-clause-forks
unfolding clap_on_literals
returns-clause-forks c = refl

pub returns-clause-trace : goal.returns-clause-trace
unfolding clap_on_literals
returns-clause-trace c = refl

pub returns-clause-replay : goal.returns-clause-replay
unfolding clap_on_literals
returns-clause-replay c = refl

pub returns-clause-replay_depth : goal.returns-clause-replay_depth
unfolding clap_on_literals
returns-clause-replay_depth c = refl

pub returns-clause-repack : goal.returns-clause-repack
unfolding clap_on_literals
returns-clause-repack c = refl

pub returns-clause-packed : goal.returns-clause-packed
unfolding clap_on_literals
returns-clause-packed c = refl

pub returns-clause-image_packed : goal.returns-clause-image_packed
unfolding clap_on_literals
returns-clause-image_packed c = refl

pub returns-clause-packed_twice : goal.returns-clause-packed_twice
unfolding clap_on_literals
returns-clause-packed_twice c = refl

pub returns-clause-trace_packed : goal.returns-clause-trace_packed
unfolding clap_on_literals
returns-clause-trace_packed c = refl

pub returns-clause-located : goal.returns-clause-located
unfolding clap_on_literals
returns-clause-located c = refl

pub returns-clause-located_skips : goal.returns-clause-located_skips
unfolding clap_on_literals
returns-clause-located_skips c = refl

pub returns-clause-located_image : goal.returns-clause-located_image
unfolding clap_on_literals
returns-clause-located_image c = refl
