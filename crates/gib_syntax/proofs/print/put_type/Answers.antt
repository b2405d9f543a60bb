use Rattle.std.proofs.Common.{◌≡◌, ◌∙◌, subst, List}
use Rattle.std.specs.Prelude.{OnOk}
use Rattle.gib_base.specs.declared.token.Token.{Token}
use Rattle.gib_syntax.specs.Forms.{NoType, MoreTypes}
use Rattle.gib_syntax.specs.Words.{run_words}
use Rattle.gib_syntax.proofs.TypesPrinted.{run_type, one_run}
use Rattle.gib_syntax.proofs.print.put_type.Goals as goal

pub returns : goal.returns
returns c =
    let x = c.requires.1 in
    let ws = run_words c.args.exprs.now.words c.args.ty in
    let P : List Token → Type 0 = λ l. OnOk c.put_words.result (c.put_words.new.out ≡ l) in
    subst P (run_type ws x c.args.out.now c.requires.2) (c.put_words.ensures (MoreTypes x NoType) (c.words.ensures ∙ one_run ws x c.requires.2))
