use Rattle.std.proofs.Common.{◌≡◌, [], ◌∷◌, List, length, sym, ap, ◌∙◌, subst, false-eqb}
use Rattle.std.specs.Prelude.{OnOk}
use Rattle.std.proofs.lemmas.Bool.{eqb-true}
use Rattle.gib_base.specs.declared.token.Sign.TheVariants as s
use Rattle.gib_base.specs.declared.token.Token.{Token}
use Rattle.gib_base.specs.declared.token.Token.TheVariants as t
use Rattle.gib_syntax.specs.Spelling.{spell_written}
use Rattle.gib_syntax.specs.Words.{run_words}
use Rattle.gib_syntax.proofs.TypesPrinted.{none_printed, some_arguments}
use Rattle.gib_syntax.proofs.print.put_type_arguments.Goals as goal

pub returns : goal.returns
returns c =
    let xs = c.requires.1 in
    let ws = run_words c.args.exprs.now.words c.args.types in
    let P : List Token → Type 0 = λ l. OnOk c.put_sign-2.result (c.put_sign-2.new.self ≡ l) in
    subst P
    (ap (λ (l : List Token). t.Sign s.OpenBracket ∷ l) (c.in_ok-put_words.ensures xs (c.words-words.ensures ∙ c.requires.2) ∙ ap (spell_written xs) c.in_ok-put_sign.ensures)
    ∙ some_arguments ws xs c.args.out.now c.requires.2 (λ z. false-eqb _ 0 (sym c.if-is_empty.false ∙ c.is_empty.ensures) (ap length (c.words-words.ensures ∙ z))))
    c.put_sign-2.ensures

pub returns-then-is_empty : goal.returns-then-is_empty
returns-then-is_empty c = none_printed (run_words c.args.exprs.now.words c.args.types) c.args.out.now (ap length (sym c.words-words.ensures) ∙ eqb-true _ _ (sym c.is_empty.ensures ∙ c.if-is_empty.true))
