use Rattle.std.proofs.Common.{◌∙◌}
use Rattle.gib_arena.proofs.Samples.{run_first, run_last, run_known}
use Rattle.gib_unit_tests.proofs.arena.put_run_and_get.Goals as goal

pub get-first-requires : goal.get-first-requires
get-first-requires g c = run_first _ _ _ _ c.put_run.ensures c.requires.some

pub get-last-requires : goal.get-last-requires
get-last-requires g c = run_last _ _ _ _ (c.get-first.ensures.same ∙ c.put_run.ensures) c.requires.some

pub get_run-run-requires-clause-known : goal.get_run-run-requires-clause-known
get_run-run-requires-clause-known g c = run_known _ _ _ _ (c.get-last.ensures.same ∙ (c.get-first.ensures.same ∙ c.put_run.ensures))
