use Rattle.gib_core.specs.Parts.{core_of}
use Rattle.gib_weave.specs.Running.{word_of}
use Rattle.gib_weave.proofs.Opening.{start_is_shut}
use Rattle.gib_weave.proofs.open_tasks.OpenTasks.start.Goals as goal

pub invariant_of-result : goal.invariant_of-result
invariant_of-result c =
    start_is_shut (core_of c.args.lowered.now.core) c.args.lowered.now.code c.in_ok-tasks.tasks (word_of c.args.root) c.args.depth c.args.level c.args.tails c.new.result
    c.in_ok-tasks.ensures c.new.ensures.empty
