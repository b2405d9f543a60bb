use Rattle.std.proofs.Common.{ℕ, subst}
use Rattle.std.specs.Prelude.{Result, Option, IfOk}
use Rattle.std.specs.declared.alloc.AllocError.{AllocError}
use Rattle.gib_compact.specs.Counts.{IsCount}
use Rattle.gib_compact.proofs.share.sum_of.Goals as goal

pub returns : goal.returns
returns c = λ x y p q.
    c.sum.ensures x y
    (subst (λ (r : Result (Option ℕ) AllocError). IfOk r (λ n. IsCount x c.args.most n)) c.in_ok-x.was p)
    (subst (λ (r : Result (Option ℕ) AllocError). IfOk r (λ n. IsCount y c.args.most n)) c.in_ok-y.was q)
