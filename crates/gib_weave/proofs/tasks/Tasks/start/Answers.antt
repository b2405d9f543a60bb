use Rattle.std.proofs.Common.{List, [], ◌∷◌, ap, ◌∙◌}
use Rattle.gib_core.specs.Parts.{core_of}
use Rattle.gib_weave.specs.Applied.{over}
use Rattle.gib_weave.specs.Running.{word_of}
use Rattle.gib_weave.specs.Weave.{Task}
use Rattle.gib_weave.proofs.Applying.{root_alone}
use Rattle.gib_weave.proofs.tasks.Tasks.start.Goals as goal

pub returns : goal.returns
returns c = λ v.
    ap (λ (ts : List Task). over v ts) (c.in_ok-items.ensures.items ∙ ap (λ (t : Task). t ∷ []) c.new-task.ensures)
    ∙ root_alone (core_of c.args.lowered.now.core) c.args.lowered.now.code v c.in_ok-machine.machine (word_of c.args.root) c.args.depth c.args.level c.args.tails c.in_ok-machine.ensures
