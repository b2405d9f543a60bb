use Rattle.std.proofs.Common.{◌≡◌, List, ℕ, ◌++◌, ap, subst, ◌∙◌}
use Rattle.std.specs.Prelude.{Result, IfOk}
use Rattle.std.specs.Global.{Vec}
use Rattle.std.specs.declared.alloc.AllocError.{AllocError}
use Rattle.gib_compact.specs.Gathered.{gathered}
use Rattle.gib_compact.proofs.GatheredLemmas.{gathered_last}
use Rattle.gib_compact.proofs.parts.in_front.Goals as goal

pub returns : goal.returns
returns c = λ xs ys e f.
    let x : c.in_ok-part.part.items ≡ xs = subst (λ (r : Result (Vec ℕ) AllocError). IfOk r (λ out. out.items ≡ xs)) c.in_ok-part.was e in
    let y : gathered c.in_ok-parts.parts.items ≡ ys = subst (λ (r : Result (Vec (Vec ℕ)) AllocError). IfOk r (λ parts. gathered parts.items ≡ ys)) c.in_ok-parts.was f in
    ap gathered c.in_ok-push.ensures.items
    ∙ gathered_last c.in_ok-parts.parts.items c.in_ok-part.part
    ∙ ap (λ (q : List ℕ). q ++ gathered c.in_ok-parts.parts.items) x
    ∙ ap (λ (q : List ℕ). xs ++ q) y
