use Rattle.std.proofs.Common.{◌≡◌, ap, subst, sym, ◌∙◌}
use Rattle.std.specs.Prelude.{Ok}
use Rattle.crossbeam_deque.specs.Handles.{worker_view}
use Rattle.gib_code.specs.Program.{CodeTree}
use Rattle.gib_machine.specs.State.{Ended}
use Rattle.gib_machine.specs.Stepping.{with_tails}
use Rattle.gib_machine.specs.Machine.{next}
use Rattle.gib_machine.specs.declared.turn.Turn.TheVariants.{AtFork, AtJoin}
use Rattle.gib_weave.specs.Owing.{Debt}
use Rattle.gib_pool.specs.declared.workspace.Workspace.{Workspace}
use Rattle.gib_pool.specs.Active.{OwesStill, PaysStill, StandsAt, active_state}
use Rattle.gib_pool.specs.Lent.{lent_paths}
use Rattle.gib_pool.proofs.Passing.{back_on, ended_with, goes_for, settles_for}
use Rattle.gib_pool.proofs.working.stand_once.Goals as goal

pub unreachable-requires : goal.unreachable-requires
unreachable-requires g c = let w = c.requires.owes in subst (StandsAt c.args.lowered.now w.0 c.run_on-active.result.0) c.in-Went.is (c.run_on-active.ensures.stands w.0 w.1)

pub fork_here-active-requires-clause-stands : goal.fork_here-active-requires-clause-stands
fork_here-active-requires-clause-stands g c = let w = c.requires.owes in (w.0, subst (StandsAt c.args.lowered.now w.0 c.run_on-active.result.0) c.in-AtFork.is (c.run_on-active.ensures.stands w.0 w.1))

pub join_here-requires-clause-stands : goal.join_here-requires-clause-stands
join_here-requires-clause-stands g c = let w = c.requires.owes in (w.0, subst (StandsAt c.args.lowered.now w.0 c.run_on-active.result.0) c.in-AtJoin.is (c.run_on-active.ensures.stands w.0 w.1))

pub ended_with-answer-requires : goal.ended_with-answer-requires
ended_with-answer-requires g c =
    let w = c.requires.owes in
    let e = subst (StandsAt c.args.lowered.now w.0 c.run_on-active.result.0) c.in-Ended.is (c.run_on-active.ensures.stands w.0 w.1) in (
      c.run_on-active.result.0.workspace.value.tails,
      e.1,
      subst (λ (w : Workspace). next c.code.result.now (with_tails w.machine c.run_on-active.result.0.workspace.value.tails) ≡ Ended e.1) (sym c.deref.ensures)
          (subst (λ (x : CodeTree). next x (active_state c.run_on-active.result.0) ≡ Ended e.1) (sym c.code.ensures.value) e.2),
    )

pub returns-in-Ended-clause-goes : goal.returns-in-Ended-clause-goes
returns-in-Ended-clause-goes g c =
    let at = λ (d : Debt) (h : OwesStill c.args.lowered.now d c.args.active). subst (StandsAt c.args.lowered.now d c.run_on-active.result.0) c.in-Ended.is (c.run_on-active.ensures.stands d h) in
    let w = c.requires.owes in
    let h = c.run_on-active.ensures.holds in
    record {
      back = record { own = h.own; same = c.run_on-active.ensures.same; none_out = h.lends.out ∙ ap lent_paths (at w.0 w.1).0 };
      settles = λ d h. ended_with c.args.lowered.now d c.run_on-active.result.0 c.ended_with-answer.result (at d h) (subst (λ (x : CodeTree). next x (active_state c.run_on-active.result.0) ≡ Ended c.ended_with-answer.result) c.code.ensures.value
          (subst (λ (w : Workspace). next c.code.result.now (with_tails w.machine c.run_on-active.result.0.workspace.value.tails) ≡ Ended c.ended_with-answer.result) c.deref.ensures (c.ended_with-answer.ensures c.run_on-active.result.0.workspace.value.tails)));
    }

pub returns-in-Full-clause-goes : goal.returns-in-Full-clause-goes
returns-in-Full-clause-goes g c =
    let l = c.args.lowered.now in
    let full = λ (d : Debt) (h : OwesStill l d c.args.active). subst (StandsAt l d c.run_on-active.result.0) c.in-Full.is (c.run_on-active.ensures.stands d h) in
    let w = c.requires.owes in
    record {
      back = back_on c.args.arena.now c.args.active.pass c.run_on-active.result.0.pass c.leave.result.1 c.run_on-active.ensures.same c.leave.ensures.back;
      settles = settles_for l (λ (d : Debt). PaysStill l d c.run_on-active.result.0) (λ (d : Debt). OwesStill l d c.args.active) c.leave.result.0 c.leave.result.1 (λ d h. (full d h).3) (c.leave.ensures.settles l (full w.0 w.1).2);
    }

pub returns-after-is_offered-clause-goes : goal.returns-after-is_offered-clause-goes
returns-after-is_offered-clause-goes g c =
    let l = c.args.lowered.now in
    goes_for {Kept = Workspace} c.args.arena.now l (λ (d : Debt). StandsAt l d c.run_on-active.result.0 AtFork) (λ (d : Debt). OwesStill l d c.args.active) c.args.active c.run_on-active.result.0 (worker_view c.fork_here-active.new.forks).mine (Ok c.fork_here-active.result) c.run_on-active.ensures.same
    (λ d w. subst (StandsAt l d c.run_on-active.result.0) c.in-AtFork.is (c.run_on-active.ensures.stands d w)) c.fork_here-active.ensures.on

pub returns-in-AtJoin-clause-goes : goal.returns-in-AtJoin-clause-goes
returns-in-AtJoin-clause-goes g c =
    let l = c.args.lowered.now in
    goes_for c.args.arena.now l (λ (d : Debt). StandsAt l d c.run_on-active.result.0 AtJoin) (λ (d : Debt). OwesStill l d c.args.active) c.args.active c.run_on-active.result.0 (worker_view c.join_here.new.forks).mine c.join_here.result c.run_on-active.ensures.same
    (λ d w. subst (StandsAt l d c.run_on-active.result.0) c.in-AtJoin.is (c.run_on-active.ensures.stands d w)) c.join_here.ensures.goes
