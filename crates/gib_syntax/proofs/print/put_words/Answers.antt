use Rattle.std.proofs.Common.{◌≡◌, ◌++◌, ap, ◌∙◌, subst, List}
use Rattle.std.specs.Prelude.{OnOk}
use Rattle.gib_base.specs.declared.token.Token.{Token}
use Rattle.gib_syntax.specs.TypeTokens.{unspelled, all_spelled}
use Rattle.gib_syntax.proofs.TypesPrinted.{types_printed}
use Rattle.gib_syntax.proofs.print.put_words.Goals as goal

pub returns : goal.returns
returns c = λ ws e.
    let P : List Token → Type 0 = λ l. OnOk c.put_all.result (c.put_all.new.out ≡ l) in
    subst P (ap (λ (l : List Token). l ++ c.args.out.now) (c.deref.ensures.value ∙ c.in_ok-tokens.ensures) ∙ ap (λ l. (all_spelled unspelled l).tokens ++ c.args.out.now) e ∙ types_printed ws c.args.out.now) c.put_all.ensures
