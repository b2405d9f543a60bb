use Rattle.std.proofs.Common.{sym, ◌∙◌}
use Rattle.std.proofs.lemmas.Result.{err_from_is_err_and}
use Rattle.gib_local_parse.specs.Sources.{places_in}
use Rattle.gib_local_parse.proofs.DeclarationLoops.{types_more, types_done, types_fail, types_shorter}
use Rattle.gib_local_parse.proofs.declarations.types.Goals as goal

pub returns-in_err-next : goal.returns-in_err-next
returns-in_err-next c =
    let p = err_from_is_err_and c.from_residual.result c.from_residual.ensures.1 in
    rw (p.1, p.2)
    (types_fail (places_in c.args.source.now) c.args.tokens.now c.types.rest.now c.types.found.items c.in_err-next.field-0.0 c.types.invariant (sym c.begins_type.ensures ∙ c.types-test.true) c.in_err-next.ensures)

pub types-smaller : goal.types-smaller
types-smaller c = types_shorter (places_in c.args.source.now) c.types.rest.now c.in_ok-next.after.now c.in_ok-next.next c.in_ok-next.ensures

pub types-preserved : goal.types-preserved
types-preserved c =
    rw c.in_ok-push.ensures.items
    (types_more (places_in c.args.source.now) c.args.tokens.now c.types.rest.now c.in_ok-next.after.now c.types.found.items c.in_ok-next.next c.types.invariant (sym c.begins_type.ensures ∙ c.types-test.true) c.in_ok-next.ensures)

pub returns : goal.returns
returns c = types_done (places_in c.args.source.now) c.args.tokens.now c.types.rest.now c.types.found.items c.types.invariant (sym c.begins_type.ensures ∙ c.types-test.false)
