use Rattle.std.proofs.Common.{◌≡◌, List, [], ◌∷◌, ◌++◌, ap, sym, ◌∙◌, subst}
use Rattle.std.proofs.lemmas.Result.{err_from_is_err_and}
use Rattle.gib_local_parse.specs.Sources.{places_in}
use Rattle.gib_reads.specs.Answers.{Fails, with_front}
use Rattle.gib_reads.proofs.Tools.{done}
use Rattle.gib_local_parse.specs.Tree.{Line, Operand}
use Rattle.gib_local_parse.specs.Grammar.{operands_at}
use Rattle.gib_local_parse.proofs.Calls.{call_done, call_fails, call_mark_fails}
use Rattle.gib_local_parse.proofs.leaves.call.Goals as goal

pub returns-clause-read : goal.returns-clause-read
returns-clause-read c =
    let at = places_in c.args.source.now in
    let t1 = c.in_ok-first.tokens.now in
    let further = subst (λ (l : List Operand). with_front l (operands_at at t1) ≡ done c.in_ok-arguments.arguments.items c.in_ok-arguments.tokens.now) (c.in_ok-push.ensures.items ∙ ap (λ (l : List Operand). l ++ c.in_ok-first.first ∷ []) c.new-arguments.ensures.items) c.in_ok-arguments.ensures in
    call_done at c.args.function c.args.tokens.now t1 c.in_ok-first.first c.in_ok-first.ensures c.in_ok-arguments.tokens.now c.in_ok-place.tokens.now c.in_ok-arguments.arguments.items c.in_ok-place.place further c.in_ok-place.ensures
    ∙ ap (λ (u : Line). done u c.in_ok-place.tokens.now) (sym c.in_ok-id.ensures.made.tree)

pub returns-in_err-arguments-clause-read : goal.returns-in_err-arguments-clause-read
returns-in_err-arguments-clause-read c =
    let at = places_in c.args.source.now in
    let t1 = c.in_ok-first.tokens.now in
    let p = err_from_is_err_and c.from_residual-in_err-arguments.result c.from_residual-in_err-arguments.ensures.1 in
    rw (p.1, p.2)
    (call_fails at c.args.function c.args.tokens.now t1 c.in_ok-first.first c.in_ok-first.ensures c.in_err-arguments.field-0.0
    (subst (λ (l : List Operand). Fails c.in_err-arguments.field-0.0 (with_front l (operands_at at t1))) (c.in_ok-push.ensures.items ∙ ap (λ (l : List Operand). l ++ c.in_ok-first.first ∷ []) c.new-arguments.ensures.items) c.in_err-arguments.ensures))

pub returns-in_err-place-clause-read : goal.returns-in_err-place-clause-read
returns-in_err-place-clause-read c =
    let at = places_in c.args.source.now in
    let t1 = c.in_ok-first.tokens.now in
    let further = subst (λ (l : List Operand). with_front l (operands_at at t1) ≡ done c.in_ok-arguments.arguments.items c.in_ok-arguments.tokens.now) (c.in_ok-push.ensures.items ∙ ap (λ (l : List Operand). l ++ c.in_ok-first.first ∷ []) c.new-arguments.ensures.items) c.in_ok-arguments.ensures in
    let p = err_from_is_err_and c.from_residual-in_err-place.result c.from_residual-in_err-place.ensures.1 in
    rw (p.1, p.2)
    (call_mark_fails at c.args.function c.args.tokens.now t1 c.in_ok-first.first c.in_ok-first.ensures c.in_ok-arguments.tokens.now c.in_ok-arguments.arguments.items c.in_err-place.field-0.0 further c.in_err-place.ensures)
