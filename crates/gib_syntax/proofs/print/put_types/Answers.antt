use Rattle.std.proofs.Common.{◌≡◌, ◌∙◌, subst, List}
use Rattle.std.specs.Prelude.{OnOk}
use Rattle.gib_base.specs.declared.token.Token.{Token}
use Rattle.gib_syntax.specs.Words.{run_words}
use Rattle.gib_syntax.proofs.TypesPrinted.{run_types}
use Rattle.gib_syntax.proofs.print.put_types.Goals as goal

pub returns : goal.returns
returns c =
    let P : List Token → Type 0 = λ l. OnOk c.put_words.result (c.put_words.new.out ≡ l) in
    subst P (run_types (run_words c.args.exprs.now.words c.args.types) c.requires.1 c.args.out.now c.requires.2) (c.put_words.ensures c.requires.1 (c.words.ensures ∙ c.requires.2))
