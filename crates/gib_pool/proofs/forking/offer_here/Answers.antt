use Rattle.std.proofs.Common.{◌∷◌, [], ◌++◌, ap, ◌∙◌}
use Rattle.std.specs.Prelude.{Some, slice_get}
use Rattle.crossbeam_deque.specs.Handles.{worker_view}
use Rattle.gib_code.specs.Program.{CodeTree}
use Rattle.gib_machine.specs.Sides.{right_of}
use Rattle.gib_machine.specs.Starting.{waiting_of}
use Rattle.gib_machine.specs.Stepping.{with_tails}
use Rattle.gib_frame.specs.Dues.{frame_due}
use Rattle.gib_pool.specs.declared.forks.Stack.{Stack}
use Rattle.gib_pool.proofs.Offering.{offered_on}
use Rattle.gib_pool.proofs.Passing.{one_more}
use Rattle.gib_pool.proofs.forking.offer_here.Goals as goal

pub returns-clause-offers : goal.returns-clause-offers
returns-clause-offers c = λ tails.
    offered_on c.args.arena.now c.args.lowered.now (waiting_of c.in-Ok.side) (right_of (with_tails c.args.machine.now tails) (slice_get c.args.lowered.now.code.instructions c.args.machine.now.ip)) c.args.pass.now c.offer_side.new.pass _ _ _ (Some c.in_ok-frame.frame)
    (c.in-Ok.ensures.side tails ∙ ap (λ (x : CodeTree). right_of (with_tails c.args.machine.now tails) (slice_get x.instructions c.args.machine.now.ip)) c.code.ensures.value) (ap (λ (s : Stack). s.mine) c.are_enough.ensures.view) c.in_ok-frame.ensures.offers

pub returns-clause-here : goal.returns-clause-here
returns-clause-here c = λ lent a. one_more (frame_due c.in_ok-frame.frame) lent c.args.here.now (worker_view c.args.forks.now).mine (worker_view c.offer_side.new.forks).mine (c.in_ok-frame.ensures.offers.forks ∙ ap (λ (s : Stack). s.mine ++ frame_due c.in_ok-frame.frame ∷ []) c.are_enough.ensures.view) a
