use Rattle.std.proofs.Common.{◌≡◌, ◌≤◌, length}
use Rattle.crossbeam_deque.specs.Handles.{worker_deque, worker_view}
use Rattle.gib_core.specs.Cost.{Cost}
use Rattle.gib_core.specs.LoweredParts.{LoweredParts}
use Rattle.gib_arena.specs.Passes.{view, IsOf}
use Rattle.gib_frame.specs.Answers.{drawn_by}
use Rattle.gib_pool.specs.Active.{IsSamePass}
use Rattle.gib_pool.specs.Lent.{Lends}
use Rattle.gib_pool.specs.Mine.{IsMine}
use Rattle.gib_pool.specs.Frames.{lent_of, AreHere}
use Rattle.gib_pool.specs.Turn.{Pays}
use Rattle.gib_pool.proofs.drain.drain_frames.Given as goal

abbrev pub invariant-frames : goal.invariant-frames
invariant-frames g l = record {
  own : IsOf l.arena l.pass;
  lends : Lends l.pass (lent_of l.frames.items);
  mine : IsMine l.forks × (worker_deque l.forks ≡ worker_deque l.initial.forks);
  here : AreHere (lent_of l.frames.items) l.here (worker_view l.forks).mine;
  same : IsSamePass l.initial.pass l.pass;
  seen : (view l.initial.pass).holding.seen ≤ (view l.pass).holding.seen;
  paid : (w : LoweredParts) (most : Cost) → Pays w most (drawn_by l.initial.pass) (lent_of l.initial.frames.items) → Pays w most (drawn_by l.pass) (lent_of l.frames.items);
}

abbrev pub decreases-frames : goal.decreases-frames
decreases-frames g l = length l.frames.items
