use Rattle.std.proofs.Common.{◌≡◌}
use Rattle.crossbeam_deque.specs.Handles.{worker_deque, worker_view}
use Rattle.gib_weave.specs.Owing.{Debt}
use Rattle.gib_pool.specs.Active.{Holds, IsHere, IsSamePass, OwesStill}
use Rattle.gib_pool.specs.Mine.{IsMine}
use Rattle.gib_pool.proofs.working.work.Given as goal

abbrev pub invariant-turns : goal.invariant-turns
invariant-turns g l = record {
  holds : Holds l.fn.arena l.fn.lowered l.current;
  owes : (d : Debt) → OwesStill l.fn.lowered d l.fn.active → OwesStill l.fn.lowered d l.current;
  mine : IsMine l.forks × (worker_deque l.forks ≡ worker_deque l.fn.forks);
  here : IsHere l.current (worker_view l.forks).mine;
  same : IsSamePass l.fn.active.pass l.current.pass;
}
