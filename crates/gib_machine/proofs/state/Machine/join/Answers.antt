use Rattle.std.proofs.Common.{◌≡◌, ℕ, suc, ap, sym, ◌∙◌, drop, add-one}
use Rattle.std.specs.Prelude.{None}
use Rattle.gib_machine.specs.contracts.state.Machine.{the_view}
use Rattle.gib_machine.specs.State.{State, Ready}
use Rattle.gib_machine.specs.Sides.{answered, unwinding, joins}
use Rattle.gib_code.specs.Instruction.{target_slots}
use Rattle.gib_machine.specs.Openings.{Opened, par_from}
use Rattle.gib_machine.specs.Stepping.{with_tails}
use Rattle.gib_machine.proofs.Unwinds.{join_goes}
use Rattle.gib_machine.proofs.state.Machine.join.Goals as goal

pub returns-in-None-unwinding : goal.returns-in-None-unwinding
returns-in-None-unwinding c = λ ts.
    let w : State = the_view c.self.inside in
    let f = c.in-Some.forked in
    let at = c.back_of-self-inside.result in
    let e : unwinding w.doing ≡ None = ap (λ (q : State). unwinding q.doing) c.self.view_is ∙ sym c.unwinding.ensures ∙ c.in-None-unwinding.is in
    c.answered.ensures ts
    ∙ ap (λ (o : Opened). answered (record (with_tails w ts) { level = f.level; pars = o.pars; regions = o.regions; room = o.room; ip = at; doing = Ready }) f.kind (target_slots f.targets) c.args.answer) c.pop_par.ensures
    ∙ ap (λ (n : ℕ). answered (record (with_tails w ts) { level = f.level; pars = drop 1 w.pars; room = n; ip = at; doing = Ready }) f.kind (target_slots f.targets) c.args.answer) (add-one w.room)
    ∙ ap (λ (n : ℕ). answered (record (with_tails w ts) { level = f.level; pars = drop 1 w.pars; room = suc w.room; ip = n; doing = Ready }) f.kind (target_slots f.targets) c.args.answer) c.back_of-self-inside.ensures.before
    ∙ sym (join_goes (with_tails w ts) (par_from f) (drop 1 w.pars) c.args.answer e c.in-Some.ensures.some)
    ∙ ap (λ (q : State). joins (with_tails q ts) c.args.answer) c.self.view_is
