use Rattle.std.proofs.Common.{◌≡◌, ℕ, List, ◌++◌, ◌∷◌, [], ap, subst, ◌∙◌}
use Rattle.std.specs.Prelude.{Result, IfOk}
use Rattle.std.specs.Global.{Vec}
use Rattle.std.specs.declared.alloc.AllocError.{AllocError}
use Rattle.gib_compact.specs.Gathered.{gathered}
use Rattle.gib_compact.proofs.parts.alone.Goals as goal

pub returns : goal.returns
returns c = λ xs e.
    ap gathered (c.in_ok-push.ensures.items ∙ ap (λ (ps : List (Vec ℕ)). ps ++ c.in_ok-part.part ∷ []) c.new-parts.ensures.items)
    ∙ subst (λ (r : Result (Vec ℕ) AllocError). IfOk r (λ out. out.items ≡ xs)) c.in_ok-part.was e
