use Rattle.std.proofs.Common.{sym, ◌∙◌}
use Rattle.std.proofs.lemmas.Result.{err_from_is_err_and}
use Rattle.gib_local_parse.specs.Sources.{places_in}
use Rattle.gib_local_parse.proofs.DeclarationLoops.{listed_more, listed_done, listed_fail, listed_shorter, first_listed_one_fails}
use Rattle.gib_local_parse.proofs.declarations.listed.Goals as goal

pub returns-in_err-first : goal.returns-in_err-first
returns-in_err-first c =
    let p = err_from_is_err_and c.from_residual.result c.from_residual.ensures.1 in
    rw (p.1, p.2) (first_listed_one_fails (places_in c.args.source.now) c.args.tokens.now c.in_err-first.field-0.0 c.in_err-first.ensures)

pub returns-in_err-next : goal.returns-in_err-next
returns-in_err-next c =
    let p = err_from_is_err_and c.from_residual-in_err-next.result c.from_residual-in_err-next.ensures.1 in
    rw (p.1, p.2)
    (listed_fail (places_in c.args.source.now) c.args.tokens.now c.constructors.rest.now c.constructors.found.items c.in_err-next.field-0.0 c.constructors.invariant (sym c.begins_constructor.ensures ∙ c.constructors-test.true) c.in_err-next.ensures)

pub constructors-smaller : goal.constructors-smaller
constructors-smaller c = listed_shorter (places_in c.args.source.now) c.constructors.rest.now c.in_ok-next.after.now c.in_ok-next.next c.in_ok-next.ensures

pub constructors-preserved : goal.constructors-preserved
constructors-preserved c =
    rw c.in_ok-push-2.ensures.items
    (listed_more (places_in c.args.source.now) c.args.tokens.now c.constructors.rest.now c.in_ok-next.after.now c.constructors.found.items c.in_ok-next.next c.constructors.invariant (sym c.begins_constructor.ensures ∙ c.constructors-test.true) c.in_ok-next.ensures)

pub returns : goal.returns
returns c = listed_done (places_in c.args.source.now) c.args.tokens.now c.constructors.rest.now c.constructors.found.items c.constructors.invariant (sym c.begins_constructor.ensures ∙ c.constructors-test.false)
