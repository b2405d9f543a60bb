use Rattle.gib_core.specs.Parts.{core_of}
use Rattle.gib_weave.proofs.RootEnds.{main_label}
use Rattle.gib_weave.proofs.root_run.main_start.Goals as goal

pub returns : goal.returns
returns c = main_label (core_of c.args.lowered.now.core) c.args.lowered.now.code c.code-code.result.now c.functions-functions.result.now _ c.code-code.ensures.lowered c.functions-functions.ensures c.code-code.ensures.value
