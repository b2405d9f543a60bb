use Rattle.std.proofs.Common.{Ok, ap, ◌∙◌}
use Rattle.gib_types.specs.Form.{Form}
use Rattle.gib_syntax.specs.Results.{Results}
use Rattle.gib_check.proofs.Complete.{infer_ok}
use Rattle.gib_check.proofs.laws.had_types_are_inferred.Goals as goal

pub returns : goal.returns
returns c = λ g vars meant scope n e r st h u le lv. (let o = infer_ok g vars meant st scope n e r h u le lv in (o.value.1, o.is ∙ ap (λ (z : Results Form). Ok (z, o.value.1)) o.so.type))
