use Rattle.std.proofs.lemmas.Result.{IfOk-weaker}
use Rattle.gib_core.specs.Parts.{core_of}
use Rattle.gib_weave.specs.Running.{word_of}
use Rattle.gib_weave.proofs.RootEnds.{is_wide, made_is_root}
use Rattle.gib_weave.proofs.root_run.root_machine.Goals as goal

pub make-requires : goal.make-requires
make-requires c = is_wide (core_of c.args.lowered.now.core) c.args.lowered.now.code c.code.result.now c.code.ensures.lowered c.code.ensures.value

pub returns : goal.returns
returns c =
    IfOk-weaker c.make.result _ _
    (λ m e. made_is_root (core_of c.args.lowered.now.core) c.args.lowered.now.code c.code.result.now c.main_start.result c.word_of.result (word_of c.args.root) c.args.depth c.args.level m c.code.ensures.lowered c.code.ensures.value c.main_start.ensures c.word_of.ensures e)
    c.make.ensures
