use Rattle.std.proofs.Common.{◌≡◌, List, ℕ, subst, ◌∙◌}
use Rattle.std.specs.Prelude.{Result, IfOk}
use Rattle.std.specs.Global.{Vec}
use Rattle.std.specs.declared.alloc.AllocError.{AllocError}
use Rattle.std.proofs.lemmas.Result.{IfOk-weaker}
use Rattle.gib_compact.specs.Gathered.{gathered}
use Rattle.gib_text.proofs.text.joined.Goals as goal

pub returns : goal.returns
returns c = λ bytes are.
    let k : gathered c.in_ok-texts.texts.items ≡ bytes = subst (λ (r : Result (Vec (Vec ℕ)) AllocError). IfOk r (λ texts. gathered texts.items ≡ bytes)) c.in_ok-texts.was are in
    IfOk-weaker c.gather.result _ _ (λ text is. is ∙ k) c.gather.ensures
