use Rattle.std.proofs.Common.{◌≡◌, ◌-◌, [], ◌∷◌, ◌++◌, List, take, ap, subst, ◌∙◌, arith}
use Rattle.std.specs.Prelude.{Option, Some, None}
use Rattle.crossbeam_deque.specs.Handles.{worker_view}
use Rattle.gib_arena.specs.Passes.{view}
use Rattle.gib_frame.specs.declared.due.Due.{Due}
use Rattle.gib_frame.specs.declared.ends.Frame.{Frame}
use Rattle.gib_frame.specs.Answers.{drawn_by}
use Rattle.gib_frame.specs.Dues.{frame_due}
use Rattle.gib_pool.specs.Lent.{Lends}
use Rattle.gib_pool.proofs.Lending.{lends_it}
use Rattle.gib_pool.specs.Frames.{lent_of, AreHere}
use Rattle.gib_pool.proofs.Draining.{here_latest, here_after, now_lent, pays_after}
use Rattle.gib_pool.proofs.Paid.{pays_less, pays_all}
use Rattle.gib_pool.proofs.Passing.{same_on}
use Rattle.gib_pool.specs.Turn.{Pays}
use Rattle.gib_pool.proofs.drain.drain_frames.Goals as goal

pub settle-requires-clause-own : goal.settle-requires-clause-own
settle-requires-clause-own g c = let e = now_lent c.frames.frames.items c.pop.new.self.items c.in-Some.held (Some c.in-Some-held.frame) c.in-Some.ensures.items c.in-Some-held.is in
    let l : Lends c.frames.pass (Some (frame_due c.in-Some-held.frame) ∷ lent_of c.pop.new.self.items) = subst (Lends c.frames.pass) e c.frames.invariant.lends in
    (c.frames.invariant.own, l.splits.3 ∙ c.frames.invariant.own)

pub settle-requires-clause-out : goal.settle-requires-clause-out
settle-requires-clause-out g c = let e = now_lent c.frames.frames.items c.pop.new.self.items c.in-Some.held (Some c.in-Some-held.frame) c.in-Some.ensures.items c.in-Some-held.is in
    lends_it c.frames.pass (frame_due c.in-Some-held.frame) (lent_of c.pop.new.self.items) (subst (Lends c.frames.pass) e c.frames.invariant.lends)

pub settle-requires-clause-latest : goal.settle-requires-clause-latest
settle-requires-clause-latest g c = let e = now_lent c.frames.frames.items c.pop.new.self.items c.in-Some.held (Some c.in-Some-held.frame) c.in-Some.ensures.items c.in-Some-held.is in
    λ l. here_latest (frame_due c.in-Some-held.frame) (lent_of c.pop.new.self.items) c.frames.here (worker_view c.frames.forks).mine (subst (λ (es : List (Option Due)). AreHere es c.frames.here (worker_view c.frames.forks).mine) e c.frames.invariant.here) l

pub frames-preserved : goal.frames-preserved
frames-preserved g c = let e = now_lent c.frames.frames.items c.pop.new.self.items c.in-Some.held (Some c.in-Some-held.frame) c.in-Some.ensures.items c.in-Some-held.is in
    let s = c.settle.ensures in
    let i = c.frames.invariant in
    let due = frame_due c.in-Some-held.frame in
    let rest = lent_of c.pop.new.self.items in
    record {
      own = s.own;
      lends = s.lends rest (subst (Lends c.frames.pass) e i.lends);
      mine = (s.mine.0, s.mine.1 ∙ i.mine.1);
      here = here_after due rest (view c.frames.pass) (view c.settle.new.pass) c.frames.here c.settle.new.here (worker_view c.frames.forks).mine (worker_view c.settle.new.forks).mine c.settle.result s.back
          (subst (λ (es : List (Option Due)). AreHere es c.frames.here (worker_view c.frames.forks).mine) e i.here);
      same = same_on c.args.pass.now c.frames.pass c.settle.new.pass i.same (record { path = s.path; limit = s.seen.1; known = s.knows });
      seen = (let a = s.seen.0 in let b = i.seen in omega (arith, a, b));
      paid = λ w most p. pays_after w most due rest (view c.frames.pass) (view c.settle.new.pass) c.frames.here c.settle.new.here (worker_view c.frames.forks).mine (worker_view c.settle.new.forks).mine c.settle.result s.back
          (subst (Pays w most (drawn_by c.frames.pass)) e (i.paid w most p));
    }

pub frames-preserved-in-None : goal.frames-preserved-in-None
frames-preserved-in-None g c = let e = now_lent c.frames.frames.items c.pop.new.self.items c.in-Some.held None c.in-Some.ensures.items c.in-None.is in
    let i = c.frames.invariant in
    let l : Lends c.frames.pass (None ∷ lent_of c.pop.new.self.items) = subst (Lends c.frames.pass) e i.lends in
    record {
      own = i.own;
      lends = record { splits = l.splits; out = l.out };
      mine = i.mine;
      here = subst (λ (es : List (Option Due)). AreHere es c.frames.here (worker_view c.frames.forks).mine) e i.here;
      same = i.same;
      seen = i.seen;
      paid = λ w most p. pays_less w most (drawn_by c.frames.pass) None (lent_of c.pop.new.self.items) (subst (Pays w most (drawn_by c.frames.pass)) e (i.paid w most p));
    }

pub returns-clause-paid : goal.returns-clause-paid
returns-clause-paid g c = λ w most p.
    let none : c.frames.frames.items ≡ [] = c.in_default.ensures.items ∙ ap (λ (xs : List (Option Frame)). xs ++ []) (c.in_default.ensures.rest ∙ ap (λ n. take (n - 1) c.frames.frames.items) c.in_default.ensures.cases.0) in
    pays_all w most (drawn_by c.frames.pass) (subst (λ (xs : List (Option Frame)). Pays w most (drawn_by c.frames.pass) (lent_of xs)) none (c.frames.invariant.paid w most p))
