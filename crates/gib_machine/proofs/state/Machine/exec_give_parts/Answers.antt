use Rattle.std.proofs.Common.{List, ℕ, ap, ◌∙◌}
use Rattle.gib_machine.specs.contracts.state.Machine.{the_view}
use Rattle.gib_machine.specs.State.{State, words}
use Rattle.gib_machine.specs.Machine.{returned}
use Rattle.gib_machine.specs.State.{eight}
use Rattle.gib_machine.specs.Stepping.{doing_of, with_tails}
use Rattle.gib_machine.proofs.Eights.{returned_same}
use Rattle.gib_machine.proofs.state.Machine.exec_give_parts.Goals as goal

pub returns : goal.returns
returns c = λ ts.
    let w : State = the_view c.self.inside in
    ap (λ (q : State). with_tails q ts) c.exec_return.ensures.state
    ∙ returned_same w c.parts-parts.result (doing_of c.self.inside.doing c.self.inside.item.left c.parts-parts.result) ts w.frames
    ∙ ap (λ (ws : List ℕ). returned (record (with_tails w ts) { parts = ws }) w.frames) c.parts-parts.ensures
    ∙ ap (λ (q : State). returned (record (with_tails q ts) { parts = eight (words q.words c.args.scalars.now) }) q.frames) c.self.view_is
