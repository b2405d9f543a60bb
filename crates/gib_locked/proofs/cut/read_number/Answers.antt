use Rattle.std.proofs.Common.{sym, ap, ◌∙◌}
use lib.ListN.{get_or}
use Rattle.gib_locked.proofs.Numbers.{not_empty, no_plus, alone_is_zero, no_zeros, is_utf8, parses, is_written}
use Rattle.gib_locked.proofs.cut.read_number.Goals as goal

pub returns-then-is_empty : goal.returns-then-is_empty
returns-then-is_empty c = λ n small is. not_empty n c.args.text.now (sym c.if-is_empty.true ∙ c.is_empty.ensures) small is

pub returns-then-first-eq43 : goal.returns-then-first-eq43
returns-then-first-eq43 c = λ n small is. no_plus n c.args.text.now c.if-first-eq43.true small is

pub returns-then-text-eq1 : goal.returns-then-text-eq1
returns-then-text-eq1 c = alone_is_zero c.args.text.now c.if-first-eq48.true c.if-text-eq1.true

pub returns-else-text-eq1 : goal.returns-else-text-eq1
returns-else-text-eq1 c = λ n small is. no_zeros n c.args.text.now c.if-first-eq48.true c.if-text-eq1.false small is

pub returns-in_default : goal.returns-in_default
returns-in_default c = λ n small is. absurd (c.in_default.ensures.cases.0 (is_utf8 n c.args.text.now small is))

pub returns-in-Ok-parse : goal.returns-in-Ok-parse
returns-in-Ok-parse c =
    let same = c.in-Ok.ensures.cases.0 in
    sym same ∙ is_written c.in-Ok-parse.n c.in-Ok.digits.now c.parse.result (λ e. c.if-first-eq43.false (ap (λ xs. get_or xs 0 0) (sym same) ∙ e)) (λ e. c.if-first-eq48.false (ap (λ xs. get_or xs 0 0) (sym same) ∙ e)) c.in-Ok-parse.is c.parse.ensures.value.0

pub returns-in-Err : goal.returns-in-Err
returns-in-Err c = λ n small is.
    let e = parses n c.in-Ok.digits.now c.parse.result small (c.in-Ok.ensures.cases.0 ∙ is) c.parse.ensures.value.0 in
    let no = c.in-Err.is in
    absurd cc
