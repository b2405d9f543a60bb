use Rattle.std.proofs.Common.{refl}
use Rattle.std.proofs.lemmas.Result.{err_from_is_err_and}
use Rattle.gib_syntax.specs.Spelling.{places_of}
use Rattle.gib_parse.proofs.Opening.{fails_inside, still_open, all_closed}
use Rattle.gib_parse.proofs.types.TypeReader.read_on.Goals as goal

pub tokens-init : goal.tokens-init
tokens-init c = λ all base i. i

pub tokens-preserved : goal.tokens-preserved
tokens-preserved c = λ all base i.
    let at = places_of c.args.spans.now in
    c.in_ok-closed.ensures.goes at all base c.tokens.rest.now c.in_ok-next.after.now c.in_ok-next.ensures.follows (still_open at all base c.tokens.closed c.tokens.self c.tokens.rest.now c.tokens-test.true (c.tokens.invariant all base i))

pub returns-in_err-next-clause-fails : goal.returns-in_err-next-clause-fails
returns-in_err-next-clause-fails c = λ all base i.
    let at = places_of c.args.spans.now in
    let p = err_from_is_err_and c.from_residual.result c.from_residual.ensures.1 in
    rw (p.1, p.2)
    (fails_inside at all base c.tokens.self c.tokens.rest.now c.in_err-next.field-0.0 c.in_err-next.ensures.fails (still_open at all base c.tokens.closed c.tokens.self c.tokens.rest.now c.tokens-test.true (c.tokens.invariant all base i)))

pub returns-in_err-closed-clause-fails : goal.returns-in_err-closed-clause-fails
returns-in_err-closed-clause-fails c = λ all base i.
    let at = places_of c.args.spans.now in
    let p = err_from_is_err_and c.from_residual-in_err-closed.result c.from_residual-in_err-closed.ensures.1 in
    rw (p.1, p.2)
    (c.in_err-closed.ensures.fails at all base c.tokens.rest.now c.in_ok-next.after.now c.in_ok-next.ensures.follows (still_open at all base c.tokens.closed c.tokens.self c.tokens.rest.now c.tokens-test.true (c.tokens.invariant all base i)) refl)

pub returns-clause-goes : goal.returns-clause-goes
returns-clause-goes c = λ all base i.
    all_closed (places_of c.args.spans.now) all base c.tokens.closed c.tokens.self c.tokens.rest.now c.tokens-test.false (c.tokens.invariant all base i)
