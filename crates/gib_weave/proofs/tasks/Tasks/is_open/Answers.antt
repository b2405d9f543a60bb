use Rattle.std.proofs.Common.{refl, ap, ◌∙◌}
use Rattle.gib_weave.specs.Applied.{can_steal_from}
use Rattle.gib_weave.proofs.Picking.{running_waits}
use Rattle.gib_weave.proofs.tasks.Tasks.is_open.Goals as goal

pub returns : goal.returns
returns c = running_waits c.at-task.result.now c.has_waiting.result (c.if-not-is_running.ensures.0 refl) c.has_waiting.ensures ∙ ap can_steal_from c.at-task.ensures
