use Rattle.std.proofs.Common.{ap, ◌∙◌, drop}
use Rattle.gib_machine.specs.contracts.state.Machine.{the_view}
use Rattle.gib_machine.specs.State.{State}
use Rattle.gib_machine.specs.Machine.{unwound}
use Rattle.gib_machine.specs.Openings.{Opened}
use Rattle.gib_machine.specs.Stepping.{with_tails}
use Rattle.gib_machine.proofs.Unwinds.{unwound_same}
use Rattle.gib_machine.proofs.state.Machine.drops_par.Goals as goal

pub returns : goal.returns
returns c = λ ts.
    let w : State = the_view c.self.inside in
    c.unwinds.ensures ts
    ∙ ap (λ (o : Opened). unwound c.args.why (record (with_tails w ts) { pars = o.pars; regions = o.regions; room = o.room }) o.pars) c.drop_par.ensures
    ∙ unwound_same c.args.why (with_tails w ts) (drop 1 w.pars) (drop 1 w.pars)
    ∙ ap (λ (q : State). unwound c.args.why (with_tails q ts) (drop 1 q.pars)) c.self.view_is
