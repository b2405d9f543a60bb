use Rattle.std.proofs.Common.{sym, subst}
use Rattle.gib_frame.specs.Answers.{drawn_by}
use Rattle.gib_pool.specs.declared.workspace.Workspace.{Workspace}
use Rattle.gib_pool.specs.Frames.{lent_of}
use Rattle.gib_pool.specs.Turn.{Pays}
use Rattle.gib_pool.proofs.Passing.{full_still}
use Rattle.gib_pool.proofs.leaving.leave.Goals as goal

pub returns-clause-settles : goal.returns-clause-settles
returns-clause-settles g c = λ l full.
    let d = c.drain_frames.ensures in
    (full_still c.args.active.pass c.drain_frames.new.pass full d.same d.seen, λ debt p. d.paid l debt.most (subst (λ (w : Workspace). Pays l debt.most (drawn_by c.args.active.pass) (lent_of w.frames.items)) (sym c.deref_mut-at.ensures.value) p))
