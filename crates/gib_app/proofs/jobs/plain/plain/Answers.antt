use Rattle.gib_file.proofs.FileLaws.{inside}
use Rattle.gib_app.proofs.jobs.plain.plain.Goals as goal

pub evaluate-requires-clause-typed : goal.evaluate-requires-clause-typed
evaluate-requires-clause-typed c = (inside _ _ _ c.in-Ok.value c.args.request.input.now c.in-Ok.ensures.read).typed
