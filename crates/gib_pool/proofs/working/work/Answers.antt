use Rattle.std.proofs.Common.{◌∙◌}
use Rattle.gib_weave.specs.Owing.{Debt}
use Rattle.gib_pool.specs.Active.{OwesStill}
use Rattle.gib_pool.proofs.Passing.{back_on, same_on, settles_for}
use Rattle.gib_pool.proofs.working.work.Goals as goal

pub turns-preserved : goal.turns-preserved
turns-preserved g c = let s = c.in-Ok.ensures in let n = s.goes in let i = c.turns.invariant in record {
  holds = n.holds;
  owes = λ d w. n.owes d (i.owes d w);
  mine = (s.mine.0, s.mine.1 ∙ i.mine.1);
  here = n.here;
  same = same_on c.args.active.pass c.turns.current.pass c.in-Ok.next.pass i.same n.same;
}

pub returns-in-Err-clause-over : goal.returns-in-Err-clause-over
returns-in-Err-clause-over g c =
    let n = c.in-Err.ensures.goes in
    let i = c.turns.invariant in
    let l = c.args.lowered.now in
    record {
      back = back_on c.args.arena.now c.args.active.pass c.turns.current.pass c.in-Err.end.1 i.same n.back;
      settles = settles_for l (λ (d : Debt). OwesStill l d c.turns.current) (λ (d : Debt). OwesStill l d c.args.active) c.in-Err.end.0 c.in-Err.end.1 i.owes n.settles;
    }
