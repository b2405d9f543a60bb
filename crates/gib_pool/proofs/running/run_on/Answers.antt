use Rattle.std.specs.Vec.{vec_capacity}
use Rattle.std.proofs.Common.{◌≡◌, sym, ap, subst, ◌∙◌}
use Rattle.gib_mem.specs.Memory.{Holder}
use Rattle.gib_machine.specs.Stepping.{with_tails}
use Rattle.gib_arena.specs.declared.memory.Pass.{Pass}
use Rattle.gib_arena.specs.Passes.{view, cells}
use Rattle.gib_arena.specs.Shown.{shown}
use Rattle.gib_frame.specs.Answers.{drawn_by}
use Rattle.gib_pool.specs.Turn.{Works}
use Rattle.gib_pool.specs.Going.{Comes}
use Rattle.gib_pool.specs.Active.{OwesStill, active_state, active_lent}
use Rattle.gib_pool.proofs.Fitting.{is_placed, placed, placed_holds}
use Rattle.gib_pool.proofs.Passing.{lends_on}
use Rattle.gib_pool.proofs.running.run_on.Goals as goal

pub returns-clause-holds : goal.returns-clause-holds
returns-clause-holds g c =
    let holder : Pass → Holder = λ p. (shown p.seat.table_id (view p)).holder in
    let e : holder c.into_pass-pass.result.1 ≡ holder c.args.active.pass = ap holder c.into_pass-pass.ensures.pass ∙ (c.go_on-turn.ensures.same.holder ∙ ap holder c.make-mem.ensures.pass) in
    let at = c.deref_mut-at.result.now in
    let old = placed c.args.active at in
    let h = placed_holds c.args.arena.now c.args.lowered.now c.args.active at c.deref_mut-at.ensures.value c.requires.holds in
    let own = c.names_tell.ensures c.args.arena.now c.args.active.pass c.into_pass-pass.result.1 h.own (ap (λ (x : Holder). x.arena) e) in
    record { own = own; lends = lends_on c.args.active.pass c.into_pass-pass.result.1 (active_lent old) (own ∙ sym h.own) e h.lends; made = c.go_on-turn.ensures.made ∙ h.made; within = c.go_on-turn.ensures.within (vec_capacity at.frames) h.within }

pub returns-clause-stands : goal.returns-clause-stands
returns-clause-stands g c = λ d w.
    let at = c.deref_mut-at.result.now in
    let old = placed c.args.active at in
    let v = subst (OwesStill c.args.lowered.now d) (sym (is_placed c.args.active at c.deref_mut-at.ensures.value)) w in
    subst (λ (p : Pass). Comes c.args.lowered.now d (active_lent old) (shown p.seat.table_id (view p)) (with_tails c.go_on-turn.new.machine c.go_on-turn.new.tails) c.go_on-turn.result) (sym c.into_pass-pass.ensures.pass)
    (c.go_on-turn.ensures.comes d (active_lent old) (subst (λ (p : Pass). Works c.args.lowered.now d (cells p) (drawn_by p) (active_state old) (active_lent old)) (sym c.make-mem.ensures.pass) v))
