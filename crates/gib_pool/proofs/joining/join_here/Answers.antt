use Rattle.std.proofs.Common.{◌≡◌, ◌-◌, List, [], ◌∷◌, ◌++◌, take, refl, sym, ap, subst, ◌∙◌}
use Rattle.std.specs.Prelude.{Option, Some, None}
use Rattle.std.specs.Box.{with_value}
use Rattle.std.specs.Vec.{vec_capacity}
use Rattle.crossbeam_deque.specs.Handles.{worker_view}
use Rattle.gib_machine.specs.State.{State}
use Rattle.gib_machine.specs.Sides.{takes, joins}
use Rattle.gib_machine.specs.Stepping.{with_tails}
use Rattle.gib_machine.specs.declared.turn.Turn.TheVariants.{AtJoin}
use Rattle.gib_weave.specs.Owing.{Debt}
use Rattle.gib_machine.proofs.Levels.{take_stays_within, join_stays_within}
use Rattle.gib_machine.proofs.Widths.{take_keeps_width, join_keeps_width}
use Rattle.gib_arena.specs.Passes.{view, cells}
use Rattle.gib_frame.specs.declared.due.Due.{Due}
use Rattle.gib_frame.specs.declared.ends.Frame.{Frame}
use Rattle.gib_frame.specs.Answers.{drawn_by}
use Rattle.gib_frame.specs.Dues.{frame_due}
use Rattle.gib_pool.specs.Backs.{IsBack}
use Rattle.gib_pool.specs.declared.back.Back.{Back}
use Rattle.gib_pool.specs.declared.active.ActiveTask.{ActiveTask}
use Rattle.gib_pool.specs.Frames.{lent_of, AreHere}
use Rattle.gib_pool.specs.Active.{active_state, active_lent, IsHere, IsOn, IsOver, PaysStill, StandsAt}
use Rattle.gib_pool.specs.Lent.{Lends}
use Rattle.gib_pool.proofs.Lending.{lends_it}
use Rattle.gib_pool.proofs.Draining.{now_lent, here_latest}
use Rattle.gib_pool.proofs.Fitting.{is_placed, placed, placed_holds, within_then}
use Rattle.gib_pool.proofs.Joinings.{Settled, goes_on, holds_then, here_then}
use Rattle.gib_pool.proofs.Passing.{wider, no_wider, lends_none_less, back_on, same_still, settles_for}
use Rattle.gib_pool.proofs.Standings.{some_left, takes_back, answers_back, unwinds_back, pays_back}
use Rattle.gib_pool.proofs.joining.join_here.Goals as goal

pub unreachable-requires : goal.unreachable-requires
unreachable-requires g c =
    let at = c.deref_mut-at.result.now in
    let old = placed c.args.active at in
    let is = is_placed c.args.active at c.deref_mut-at.ensures.value in
    let holds = placed_holds c.args.arena.now c.args.lowered.now c.args.active at c.deref_mut-at.ensures.value c.requires.holds in
    let none : at.frames.items ≡ [] = c.in_default.ensures.items ∙ ap (λ (xs : List (Option Frame)). xs ++ []) (c.in_default.ensures.rest ∙ ap (λ n. take (n - 1) at.frames.items) c.in_default.ensures.cases.0) in
    let stands = subst (λ (x : ActiveTask). StandsAt c.args.lowered.now c.requires.stands.0 x AtJoin) (sym is) c.requires.stands.1 in
    some_left c.args.lowered.now c.requires.stands.0 (cells old.pass) (drawn_by old.pass) (active_lent old) (active_state old) (stands.1 (cells old.pass) (no_wider c.args.arena.now old.pass holds.own)) (ap lent_of none)

pub returns-in_default-newest-clause-goes : goal.returns-in_default-newest-clause-goes
returns-in_default-newest-clause-goes g c =
    let at = c.deref_mut-at.result.now in
    let old = placed c.args.active at in
    let is = is_placed c.args.active at c.deref_mut-at.ensures.value in
    let holds = placed_holds c.args.arena.now c.args.lowered.now c.args.active at c.deref_mut-at.ensures.value c.requires.holds in
    let e = now_lent at.frames.items c.pop.new.self.items c.in-Some.newest None c.in-Some.ensures.items c.in_default-newest.is in
    let l = c.args.lowered.now in
    let p = c.args.active.pass in
    let mine = (worker_view c.args.forks.now).mine in
    let rest = lent_of c.pop.new.self.items in
    let new : ActiveTask = record { workspace = with_value c.args.active.workspace record { machine = c.take.new.self; tails = at.tails; frames = c.pop.new.self }; pass = p; here = c.args.active.here } in
    subst (λ (x : ActiveTask). IsOn c.args.arena.now l (λ (d : Debt). StandsAt l d x AtJoin) x mine new) is record {
      holds = record {
        own = holds.own;
        lends = lends_none_less p rest (subst (Lends p) e holds.lends);
        made = ap (λ (s : State). s.width) (c.take.ensures at.tails) ∙ (take_keeps_width (active_state old) ∙ holds.made);
        within = within_then old new (takes (active_state old)) c.in-Some.ensures.capacity (c.take.ensures at.tails) (take_stays_within (vec_capacity at.frames) (active_state old) holds.within);
      };
      owes = λ d w. takes_back l d (cells p) (drawn_by p) (drawn_by p) (active_lent old) rest None (active_state old) (with_tails c.take.new.self at.tails) (w.1 (cells p) (no_wider c.args.arena.now p holds.own)) e refl (c.take.ensures at.tails);
      here = subst (λ (es : List (Option Due)). AreHere es c.args.active.here mine) e (subst (λ (x : ActiveTask). IsHere x mine) (sym is) c.requires.here);
      same = same_still p;
    }

pub settle-requires-clause-own : goal.settle-requires-clause-own
settle-requires-clause-own g c =
    let at = c.deref_mut-at.result.now in
    let old = placed c.args.active at in
    let is = is_placed c.args.active at c.deref_mut-at.ensures.value in
    let holds = placed_holds c.args.arena.now c.args.lowered.now c.args.active at c.deref_mut-at.ensures.value c.requires.holds in
    let e = now_lent at.frames.items c.pop.new.self.items c.in-Some.newest (Some c.in-Some-newest.frame) c.in-Some.ensures.items c.in-Some-newest.is in
    let due = frame_due c.in-Some-newest.frame in
    let l : Lends c.args.active.pass (Some due ∷ lent_of c.pop.new.self.items) = subst (Lends c.args.active.pass) e holds.lends in
    (holds.own, l.splits.3 ∙ holds.own)

pub settle-requires-clause-out : goal.settle-requires-clause-out
settle-requires-clause-out g c =
    let at = c.deref_mut-at.result.now in
    let old = placed c.args.active at in
    let is = is_placed c.args.active at c.deref_mut-at.ensures.value in
    let holds = placed_holds c.args.arena.now c.args.lowered.now c.args.active at c.deref_mut-at.ensures.value c.requires.holds in
    let e = now_lent at.frames.items c.pop.new.self.items c.in-Some.newest (Some c.in-Some-newest.frame) c.in-Some.ensures.items c.in-Some-newest.is in
    lends_it c.args.active.pass (frame_due c.in-Some-newest.frame) (lent_of c.pop.new.self.items) (subst (Lends c.args.active.pass) e holds.lends)

pub settle-requires-clause-latest : goal.settle-requires-clause-latest
settle-requires-clause-latest g c =
    let at = c.deref_mut-at.result.now in
    let old = placed c.args.active at in
    let is = is_placed c.args.active at c.deref_mut-at.ensures.value in
    let holds = placed_holds c.args.arena.now c.args.lowered.now c.args.active at c.deref_mut-at.ensures.value c.requires.holds in
    λ p.
    let e = now_lent at.frames.items c.pop.new.self.items c.in-Some.newest (Some c.in-Some-newest.frame) c.in-Some.ensures.items c.in-Some-newest.is in
    here_latest (frame_due c.in-Some-newest.frame) (lent_of c.pop.new.self.items) c.args.active.here (worker_view c.args.forks.now).mine (subst (λ (es : List (Option Due)). AreHere es c.args.active.here (worker_view c.args.forks.now).mine) e (subst (λ (x : ActiveTask). IsHere x (worker_view c.args.forks.now).mine) (sym is) c.requires.here)) p

pub returns-in-Take-clause-goes : goal.returns-in-Take-clause-goes
returns-in-Take-clause-goes g c =
    let s = c.settle.ensures in
    let due = frame_due c.in-Some-newest.frame in
    let at = c.deref_mut-at.result.now in
    let old = placed c.args.active at in
    let is = is_placed c.args.active at c.deref_mut-at.ensures.value in
    let holds = placed_holds c.args.arena.now c.args.lowered.now c.args.active at c.deref_mut-at.ensures.value c.requires.holds in
    let new : ActiveTask = record { workspace = with_value c.args.active.workspace record { machine = c.take-in-Take.new.self; tails = at.tails; frames = c.pop.new.self }; pass = c.settle.new.pass; here = c.settle.new.here } in
    let mine = (worker_view c.args.forks.now).mine in
    let more = (worker_view c.settle.new.forks).mine in
    let settled : Settled c.args.arena.now old new due mine more c.settle.result = record {
      newest = now_lent old.workspace.value.frames.items c.pop.new.self.items c.in-Some.newest (Some c.in-Some-newest.frame) c.in-Some.ensures.items c.in-Some-newest.is;
      own = s.own;
      lends = s.lends;
      same = record { path = s.path; limit = s.seen.1; known = s.knows };
      back = s.back;
    }
    in
    let b = subst (λ (r : Back). IsBack due (view old.pass) (view new.pass) mine more old.here new.here r) c.in-Take.is s.back in
    goes_on c.args.arena.now c.args.lowered.now old new due mine more c.settle.result c.args.active is settled c.requires.holds c.requires.here (ap (λ (m : State). m.width) (c.take-in-Take.ensures old.workspace.value.tails) ∙ take_keeps_width (active_state old))
    (within_then old new (takes (active_state old)) c.in-Some.ensures.capacity (c.take-in-Take.ensures old.workspace.value.tails) (take_stays_within (vec_capacity old.workspace.value.frames) (active_state old) holds.within))
    (λ d w. takes_back c.args.lowered.now d (cells new.pass) (drawn_by old.pass) (drawn_by new.pass) (active_lent old) (active_lent new) (Some due) (active_state old) (active_state new) (w.1 (cells new.pass) (wider c.args.arena.now old.pass new.pass s.own s.knows s.free)) settled.newest b.0 (c.take-in-Take.ensures old.workspace.value.tails))

pub returns-in-Answer-clause-goes : goal.returns-in-Answer-clause-goes
returns-in-Answer-clause-goes g c =
    let s = c.settle.ensures in
    let due = frame_due c.in-Some-newest.frame in
    let at = c.deref_mut-at.result.now in
    let old = placed c.args.active at in
    let is = is_placed c.args.active at c.deref_mut-at.ensures.value in
    let holds = placed_holds c.args.arena.now c.args.lowered.now c.args.active at c.deref_mut-at.ensures.value c.requires.holds in
    let new : ActiveTask = record { workspace = with_value c.args.active.workspace record { machine = c.join.new.self; tails = at.tails; frames = c.pop.new.self }; pass = c.settle.new.pass; here = c.settle.new.here } in
    let mine = (worker_view c.args.forks.now).mine in
    let more = (worker_view c.settle.new.forks).mine in
    let settled : Settled c.args.arena.now old new due mine more c.settle.result = record {
      newest = now_lent old.workspace.value.frames.items c.pop.new.self.items c.in-Some.newest (Some c.in-Some-newest.frame) c.in-Some.ensures.items c.in-Some-newest.is;
      own = s.own;
      lends = s.lends;
      same = record { path = s.path; limit = s.seen.1; known = s.knows };
      back = s.back;
    }
    in
    let b = subst (λ (r : Back). IsBack due (view old.pass) (view new.pass) mine more old.here new.here r) c.in-Answer.is s.back in
    goes_on c.args.arena.now c.args.lowered.now old new due mine more c.settle.result c.args.active is settled c.requires.holds c.requires.here (ap (λ (m : State). m.width) (c.join.ensures old.workspace.value.tails) ∙ join_keeps_width (active_state old) c.in-Answer.answer)
    (within_then old new (joins (active_state old) c.in-Answer.answer) c.in-Some.ensures.capacity (c.join.ensures old.workspace.value.tails) (join_stays_within (vec_capacity old.workspace.value.frames) (active_state old) c.in-Answer.answer holds.within))
    (λ d w. answers_back c.args.lowered.now d (cells new.pass) (drawn_by old.pass) (drawn_by new.pass) b.0 (active_lent old) (active_lent new) due c.in-Answer.answer (active_state old) (active_state new) (w.1 (cells new.pass) (wider c.args.arena.now old.pass new.pass s.own s.knows s.free)) settled.newest b.3 b.4 (c.join.ensures old.workspace.value.tails))

pub returns-clause-goes : goal.returns-clause-goes
returns-clause-goes g c =
    let s = c.settle.ensures in
    let due = frame_due c.in-Some-newest.frame in
    let at = c.deref_mut-at.result.now in
    let old = placed c.args.active at in
    let is = is_placed c.args.active at c.deref_mut-at.ensures.value in
    let holds = placed_holds c.args.arena.now c.args.lowered.now c.args.active at c.deref_mut-at.ensures.value c.requires.holds in
    let new : ActiveTask = record { workspace = with_value c.args.active.workspace record { machine = c.take-in-Some-unwinding.new.self; tails = at.tails; frames = c.pop.new.self }; pass = c.settle.new.pass; here = c.settle.new.here } in
    let mine = (worker_view c.args.forks.now).mine in
    let more = (worker_view c.settle.new.forks).mine in
    let settled : Settled c.args.arena.now old new due mine more c.settle.result = record {
      newest = now_lent old.workspace.value.frames.items c.pop.new.self.items c.in-Some.newest (Some c.in-Some-newest.frame) c.in-Some.ensures.items c.in-Some-newest.is;
      own = s.own;
      lends = s.lends;
      same = record { path = s.path; limit = s.seen.1; known = s.knows };
      back = s.back;
    }
    in
    let b = subst (λ (r : Back). IsBack due (view old.pass) (view new.pass) mine more old.here new.here r) c.in-Full.is s.back in
    goes_on c.args.arena.now c.args.lowered.now old new due mine more c.settle.result c.args.active is settled c.requires.holds c.requires.here (ap (λ (m : State). m.width) (c.take-in-Some-unwinding.ensures old.workspace.value.tails) ∙ take_keeps_width (active_state old))
    (within_then old new (takes (active_state old)) c.in-Some.ensures.capacity (c.take-in-Some-unwinding.ensures old.workspace.value.tails) (take_stays_within (vec_capacity old.workspace.value.frames) (active_state old) holds.within))
    (λ d w. unwinds_back c.args.lowered.now d (cells new.pass) (drawn_by old.pass) (drawn_by new.pass) b.0 (active_lent old) (active_lent new) due c.in-Some-unwinding.field-0 (active_state old) (active_state new) (w.1 (cells new.pass) (wider c.args.arena.now old.pass new.pass s.own s.knows s.free)) settled.newest b.3 b.5 (sym c.unwinding.ensures ∙ c.in-Some-unwinding.is) (c.take-in-Some-unwinding.ensures old.workspace.value.tails))

pub leave-requires-clause-holds : goal.leave-requires-clause-holds
leave-requires-clause-holds g c =
    let s = c.settle.ensures in
    let due = frame_due c.in-Some-newest.frame in
    let at = c.deref_mut-at.result.now in
    let old = placed c.args.active at in
    let is = is_placed c.args.active at c.deref_mut-at.ensures.value in
    let holds = placed_holds c.args.arena.now c.args.lowered.now c.args.active at c.deref_mut-at.ensures.value c.requires.holds in
    let new : ActiveTask = record { workspace = with_value c.args.active.workspace record { machine = at.machine; tails = at.tails; frames = c.pop.new.self }; pass = c.settle.new.pass; here = c.settle.new.here } in
    let mine = (worker_view c.args.forks.now).mine in
    let more = (worker_view c.settle.new.forks).mine in
    let settled : Settled c.args.arena.now old new due mine more c.settle.result = record {
      newest = now_lent old.workspace.value.frames.items c.pop.new.self.items c.in-Some.newest (Some c.in-Some-newest.frame) c.in-Some.ensures.items c.in-Some-newest.is;
      own = s.own;
      lends = s.lends;
      same = record { path = s.path; limit = s.seen.1; known = s.knows };
      back = s.back;
    }
    in
    (c.args.lowered.now, holds_then c.args.arena.now c.args.lowered.now old new due mine more c.settle.result settled holds refl (within_then old new (active_state old) c.in-Some.ensures.capacity refl holds.within))

pub leave-requires-clause-here : goal.leave-requires-clause-here
leave-requires-clause-here g c =
    let s = c.settle.ensures in
    let due = frame_due c.in-Some-newest.frame in
    let at = c.deref_mut-at.result.now in
    let old = placed c.args.active at in
    let is = is_placed c.args.active at c.deref_mut-at.ensures.value in
    let holds = placed_holds c.args.arena.now c.args.lowered.now c.args.active at c.deref_mut-at.ensures.value c.requires.holds in
    let new : ActiveTask = record { workspace = with_value c.args.active.workspace record { machine = at.machine; tails = at.tails; frames = c.pop.new.self }; pass = c.settle.new.pass; here = c.settle.new.here } in
    let mine = (worker_view c.args.forks.now).mine in
    let more = (worker_view c.settle.new.forks).mine in
    let settled : Settled c.args.arena.now old new due mine more c.settle.result = record {
      newest = now_lent old.workspace.value.frames.items c.pop.new.self.items c.in-Some.newest (Some c.in-Some-newest.frame) c.in-Some.ensures.items c.in-Some-newest.is;
      own = s.own;
      lends = s.lends;
      same = record { path = s.path; limit = s.seen.1; known = s.knows };
      back = s.back;
    }
    in
    here_then c.args.arena.now c.args.lowered.now old new due mine more c.settle.result settled (subst (λ (x : ActiveTask). IsHere x mine) (sym is) c.requires.here)

pub returns-in-None-clause-goes : goal.returns-in-None-clause-goes
returns-in-None-clause-goes g c =
    let s = c.settle.ensures in
    let due = frame_due c.in-Some-newest.frame in
    let at = c.deref_mut-at.result.now in
    let old = placed c.args.active at in
    let is = is_placed c.args.active at c.deref_mut-at.ensures.value in
    let holds = placed_holds c.args.arena.now c.args.lowered.now c.args.active at c.deref_mut-at.ensures.value c.requires.holds in
    let new : ActiveTask = record { workspace = with_value c.args.active.workspace record { machine = at.machine; tails = at.tails; frames = c.pop.new.self }; pass = c.settle.new.pass; here = c.settle.new.here } in
    let mine = (worker_view c.args.forks.now).mine in
    let more = (worker_view c.settle.new.forks).mine in
    let settled : Settled c.args.arena.now old new due mine more c.settle.result = record {
      newest = now_lent old.workspace.value.frames.items c.pop.new.self.items c.in-Some.newest (Some c.in-Some-newest.frame) c.in-Some.ensures.items c.in-Some-newest.is;
      own = s.own;
      lends = s.lends;
      same = record { path = s.path; limit = s.seen.1; known = s.knows };
      back = s.back;
    }
    in
    let b = subst (λ (r : Back). IsBack due (view old.pass) (view new.pass) mine more old.here new.here r) c.in-Full.is s.back in
    let l = c.args.lowered.now in
    subst (λ (x : ActiveTask). IsOver c.args.arena.now l (λ (d : Debt). StandsAt l d x AtJoin) x c.leave.result.0 c.leave.result.1) is record {
      back = back_on c.args.arena.now old.pass new.pass c.leave.result.1 settled.same c.leave.ensures.back;
      settles = settles_for l (λ (d : Debt). PaysStill l d new) (λ (d : Debt). StandsAt l d old AtJoin) c.leave.result.0 c.leave.result.1
          (λ d w. pays_back l d (cells new.pass) (drawn_by old.pass) (drawn_by new.pass) b.0 (active_lent old) (active_lent new) due (active_state old) (w.1 (cells new.pass) (wider c.args.arena.now old.pass new.pass s.own s.knows s.free)) settled.newest b.3 b.5)
          (c.leave.ensures.settles l b.4);
    }
