use Rattle.std.proofs.Common.{◌≡◌, ◌++◌, ◌∷◌, [], ℕ, List, sym, ap, subst, ◌∙◌}
use Rattle.gib_machine.specs.State.{State}
use Rattle.gib_machine.specs.Stepping.{with_tails}
use Rattle.gib_weave.specs.Applied.{IsOldest, side_task}
use Rattle.gib_weave.specs.Weave.{HasWaiting, Running, Task}
use Rattle.gib_weave.proofs.tasks.Tasks.add_oldest.Goals as goal

pub oldest-requires-clause-waits : goal.oldest-requires-clause-waits
oldest-requires-clause-waits c = subst (λ (t : Task). HasWaiting t.sides) (sym c.at.ensures) c.requires.waits

pub oldest-requires-clause-width : goal.oldest-requires-clause-width
oldest-requires-clause-width c = ap (λ (t : Task). t.state.width) c.at.ensures ∙ c.requires.width

pub returns-clause-added : goal.returns-clause-added
returns-clause-added c =
    let o = c.in_ok-machine.ensures in
    let new : c.new-task.result ≡ side_task c.args.code.now o.0 =
    c.new-task.ensures ∙ ap (λ (ts : List ℕ). record { state = with_tails c.in_ok-machine.machine ts; sides = []; stage = Running }) c.new.ensures
    ∙ ap (λ (m : State). record { state = with_tails m []; sides = []; stage = Running }) o.2 in
    (o.0, subst (λ (t : Task). IsOldest t.sides o.0) c.at.ensures o.1, c.in_ok-add.ensures.added ∙ ap (λ (t : Task). c.args.self.now ++ t ∷ []) new)
