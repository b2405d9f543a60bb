use Rattle.std.proofs.Common.{◌<◌, List, refl, sym, ap, subst, ◌∙◌, arith}
use Rattle.std.specs.Prelude.{Option, slice_get}
use Rattle.std.specs.Box.{with_value}
use Rattle.std.specs.Vec.{vec_capacity, vec_len}
use Rattle.crossbeam_deque.specs.Handles.{worker_view}
use Rattle.gib_code.specs.Program.{CodeTree}
use Rattle.gib_machine.specs.State.{State}
use Rattle.gib_machine.specs.Sides.{left_starts, right_of}
use Rattle.gib_machine.specs.Stepping.{with_tails}
use Rattle.gib_machine.specs.declared.turn.Turn.TheVariants.{AtFork}
use Rattle.gib_weave.specs.Owing.{Debt}
use Rattle.gib_machine.proofs.Levels.{left_stays_within}
use Rattle.gib_machine.proofs.Stands.{fork_has_level}
use Rattle.gib_machine.proofs.Widths.{left_keeps_width}
use Rattle.gib_arena.specs.Passes.{cells}
use Rattle.gib_frame.specs.declared.due.Due.{Due}
use Rattle.gib_frame.specs.Answers.{drawn_by}
use Rattle.gib_pool.specs.Frames.{AreHere}
use Rattle.gib_pool.specs.declared.active.ActiveTask.{ActiveTask}
use Rattle.gib_pool.specs.declared.workspace.Workspace.{Workspace}
use Rattle.gib_pool.specs.Active.{IsHere, IsOn, StandsAt, active_state, active_lent}
use Rattle.gib_pool.specs.Lent.{Lends}
use Rattle.gib_pool.specs.Turn.{Works}
use Rattle.gib_pool.proofs.Draining.{now_lent}
use Rattle.gib_pool.proofs.Fitting.{frames_fit, is_placed, placed, placed_holds, within_then}
use Rattle.gib_pool.proofs.Passing.{wider, here_few, lent_long}
use Rattle.gib_pool.proofs.Standings.{goes_left}
use Rattle.gib_pool.proofs.forking.fork_here.Goals as goal

pub offer_here-frame-requires-clause-few : goal.offer_here-frame-requires-clause-few
offer_here-frame-requires-clause-few c =
    let few = here_few (active_lent c.args.active) c.args.active.here (worker_view c.args.forks.now).mine c.requires.here in
    let long = lent_long c.args.active.workspace.value.frames.items in
    omega (arith, few, long, c.args.active.workspace.value.frames.ok)

pub push_reserved-requires : goal.push_reserved-requires
push_reserved-requires c =
    let l = c.args.lowered.now in
    let j = c.args.active in
    let w = c.requires.stands in
    let level = fork_has_level l.code j.workspace.value.machine j.workspace.value.tails w.1.0 in
    let fit = frames_fit l w.0 (cells j.pass) (drawn_by j.pass) (active_lent j) (active_state j) _ _ (vec_capacity j.workspace.value.frames) w.1.1 level c.requires.holds.within in
    let long = lent_long j.workspace.value.frames.items in
    subst (λ (x : Workspace). vec_len x.frames < vec_capacity x.frames) (sym c.deref_mut-at.ensures.value) (omega (arith, fit, long))

pub returns-clause-on : goal.returns-clause-on
returns-clause-on c =
    let l = c.args.lowered.now in
    let at = c.deref_mut-at.result.now in
    let old = placed c.args.active at in
    let is = is_placed c.args.active at c.deref_mut-at.ensures.value in
    let holds = placed_holds c.args.arena.now l c.args.active at c.deref_mut-at.ensures.value c.requires.holds in
    let d = c.requires.stands.0 in
    let stands = subst (λ (x : ActiveTask). StandsAt l d x AtFork) (sym is) c.requires.stands.1 in
    let here = subst (λ (x : ActiveTask). IsHere x (worker_view c.args.forks.now).mine) (sym is) c.requires.here in
    let o = c.offer_here-frame.ensures.offers at.tails in
    let was = c.args.active.pass in
    let new = c.offer_here-frame.new.pass in
    let m = active_state old in
    let are = now_lent c.push_reserved.new.self.items at.frames.items c.offer_here-frame.result c.offer_here-frame.result c.push_reserved.ensures.items refl in
    let width = ap (λ (s : State). s.width) (c.left.ensures at.tails) ∙ left_keeps_width m (slice_get c.code.result.now.instructions m.ip) in
    let left = c.left.ensures at.tails ∙ ap (λ (x : CodeTree). left_starts m (slice_get x.instructions m.ip)) c.code.ensures.value in
    let right = right_of m (slice_get l.code.instructions m.ip) in
    let level = fork_has_level l.code at.machine at.tails stands.0 in
    let next : ActiveTask = record { workspace = with_value c.args.active.workspace record { machine = c.left.new.self; tails = at.tails; frames = c.push_reserved.new.self }; pass = new; here = c.offer_here-frame.new.here } in
    let within = within_then old next (left_starts m (slice_get l.code.instructions m.ip)) c.push_reserved.ensures.capacity left (left_stays_within (vec_capacity at.frames) m (slice_get l.code.instructions m.ip) level holds.within) in
    subst (λ (x : ActiveTask). IsOn c.args.arena.now l (λ (d : Debt). StandsAt l d x AtFork) x (worker_view c.offer_here-frame.new.forks).mine next) is record {
      holds = record { own = o.own; lends = subst (Lends new) (sym are) (o.lends (active_lent old) holds.lends); made = width ∙ holds.made; within = within };
      owes = λ d w.
          subst (Works l d (cells new) (drawn_by new) (with_tails c.left.new.self at.tails)) (sym are)
          (goes_left l d (cells was) (cells new) (drawn_by was) (drawn_by new) (active_lent old) m (left_starts m (slice_get l.code.instructions m.ip)) (with_tails c.left.new.self at.tails) right c.offer_here-frame.result w.1 o.side left o.drawn
          (wider c.args.arena.now was new o.own o.same.known o.free));
      here = subst (λ (es : List (Option Due)). AreHere es c.offer_here-frame.new.here (worker_view c.offer_here-frame.new.forks).mine) (sym are) (c.offer_here-frame.ensures.here (active_lent old) here);
      same = o.same;
    }
