use Rattle.std.proofs.Common.{◌≡◌, [], ◌∷◌, ◌++◌, ap, ◌∙◌}
use Rattle.crossbeam_deque.specs.Handles.{worker_deque}
use Rattle.gib_pool.specs.declared.worker.Worker.{Worker}
use Rattle.gib_pool.proofs.Thieves.{same_deques, other_victims, more_victims}
use Rattle.gib_pool.proofs.threads.add_stealer.Goals as goal

pub returns-clause-same : goal.returns-clause-same
returns-clause-same c = same_deques c.args.workers.now.items c.args.place c.index_mut.result.now _ (ap (λ (w : Worker). worker_deque w.forks) c.index_mut.ensures.value)

pub returns-clause-more : goal.returns-clause-more
returns-clause-more c =
    more_victims c.args.workers.now.items c.args.place c.args.other c.index_mut.result.now c.index.result.now _ c.in_ok-stealer.stealer c.requires.there c.requires.other
    (c.in_ok-stealer.ensures ∙ ap (λ (w : Worker). worker_deque w.forks) c.index.ensures)
    (c.in_ok-push.ensures.items ∙ ap (λ (w : Worker). w.stealers.items ++ c.in_ok-stealer.stealer ∷ []) c.index_mut.ensures.value)

pub returns-clause-others : goal.returns-clause-others
returns-clause-others c = λ q ne. other_victims c.args.workers.now.items c.args.place q _ ne
