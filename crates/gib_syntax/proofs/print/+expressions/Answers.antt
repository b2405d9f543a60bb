use Rattle.std.proofs.Common.{◌≡◌, List, subst, ap, ◌∙◌}
use Rattle.std.specs.Prelude.{OnOk}
use Rattle.gib_base.specs.declared.token.Token.{Token}
use Rattle.gib_syntax.specs.GenericArena.{tree_of}
use Rattle.gib_syntax.specs.Printing.{spell_arm}
use Rattle.gib_syntax.proofs.Printed.{all_arms_printed}
use Rattle.gib_syntax.proofs.print.+expressions.Goals as goal

pub put_arms-returns : goal.put_arms-returns
put_arms-returns t c =
    let f = tree_of c.args.exprs.now in
    let first = c.index-arms-0.result in
    let P : List Token → Type 0 = λ l. OnOk c.put_arm-2.result (c.put_arm-2.new.out ≡ l) in
    subst P
    (ap (λ (l : List Token). spell_arm f first l) c.arms.invariant.2
    ∙ all_arms_printed f c.args.arms.now c.arms.i first c.args.out.now c.arms.invariant.0 c.arms.invariant.1 c.arms-test.false c.index-arms-0.is)
    c.put_arm-2.ensures
