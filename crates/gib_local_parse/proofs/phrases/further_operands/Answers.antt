use Rattle.std.proofs.Common.{sym, ◌∙◌}
use Rattle.std.proofs.lemmas.Result.{err_from_is_err_and}
use Rattle.gib_syntax.specs.Spelling.{places_of}
use Rattle.gib_reads.specs.Readers.{many}
use Rattle.gib_local_parse.specs.Grammar.{starts_operand, operand_at}
use Rattle.gib_reads.specs.Answers.{with_front}
use Rattle.gib_reads.proofs.SoFar.{one_more, one_fails, all_read}
use Rattle.gib_local_parse.proofs.WholeLaws.{operand_shrinks}
use Rattle.gib_local_parse.proofs.phrases.further_operands.Goals as goal

pub operands-preserved : goal.operands-preserved
operands-preserved c =
    let at = places_of c.args.spans.now in
    let all = with_front c.args.first.items (many starts_operand (operand_at at) c.args.tokens.now) in
    rw c.in_ok-push.ensures.items
    (one_more all starts_operand (operand_at at) (operand_shrinks at) c.operands.rest.now c.in_ok-next.after.now c.operands.found.items c.in_ok-next.next c.operands.invariant (sym c.begins_operand.ensures ∙ c.operands-test.true) c.in_ok-next.ensures)

pub returns : goal.returns
returns c =
    let at = places_of c.args.spans.now in
    all_read (with_front c.args.first.items (many starts_operand (operand_at at) c.args.tokens.now)) starts_operand (operand_at at) c.operands.rest.now c.operands.found.items c.operands.invariant (sym c.begins_operand.ensures ∙ c.operands-test.false)

pub returns-in_err-next : goal.returns-in_err-next
returns-in_err-next c =
    let at = places_of c.args.spans.now in
    let p = err_from_is_err_and c.from_residual.result c.from_residual.ensures.1 in
    rw (p.1, p.2)
    (one_fails (with_front c.args.first.items (many starts_operand (operand_at at) c.args.tokens.now)) starts_operand (operand_at at) (operand_shrinks at) c.operands.rest.now c.operands.found.items c.in_err-next.field-0.0 c.operands.invariant
    (sym c.begins_operand.ensures ∙ c.operands-test.true) c.in_err-next.ensures)
