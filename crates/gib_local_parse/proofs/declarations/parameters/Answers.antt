use Rattle.std.proofs.Common.{sym, ◌∙◌}
use Rattle.std.proofs.lemmas.Result.{err_from_is_err_and}
use Rattle.gib_local_parse.specs.Sources.{places_in}
use Rattle.gib_local_parse.proofs.DeclarationLoops.{parameters_more, parameters_done, parameters_fail, parameters_shorter, first_parameter_fails}
use Rattle.gib_local_parse.proofs.declarations.parameters.Goals as goal

pub returns-in_err-first : goal.returns-in_err-first
returns-in_err-first c =
    let p = err_from_is_err_and c.from_residual.result c.from_residual.ensures.1 in
    rw (p.1, p.2) (first_parameter_fails (places_in c.args.source.now) c.args.tokens.now c.in_err-first.field-0.0 c.in_err-first.ensures)

pub returns-in_err-next : goal.returns-in_err-next
returns-in_err-next c =
    let p = err_from_is_err_and c.from_residual-in_err-next.result c.from_residual-in_err-next.ensures.1 in
    rw (p.1, p.2)
    (parameters_fail (places_in c.args.source.now) c.args.tokens.now c.parameters.rest.now c.parameters.found.items c.in_err-next.field-0.0 c.parameters.invariant (sym c.begins.ensures ∙ c.parameters-test.true) c.in_err-next.ensures)

pub parameters-smaller : goal.parameters-smaller
parameters-smaller c = parameters_shorter (places_in c.args.source.now) c.parameters.rest.now c.in_ok-next.after.now c.in_ok-next.next c.in_ok-next.ensures

pub parameters-preserved : goal.parameters-preserved
parameters-preserved c =
    rw c.in_ok-push-2.ensures.items
    (parameters_more (places_in c.args.source.now) c.args.tokens.now c.parameters.rest.now c.in_ok-next.after.now c.parameters.found.items c.in_ok-next.next c.parameters.invariant (sym c.begins.ensures ∙ c.parameters-test.true) c.in_ok-next.ensures)

pub returns : goal.returns
returns c = parameters_done (places_in c.args.source.now) c.args.tokens.now c.parameters.rest.now c.parameters.found.items c.parameters.invariant (sym c.begins.ensures ∙ c.parameters-test.false)
