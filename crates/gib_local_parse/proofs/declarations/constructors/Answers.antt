use Rattle.std.proofs.Common.{sym, ◌∙◌}
use Rattle.std.proofs.lemmas.Result.{err_from_is_err_and}
use Rattle.gib_local_parse.specs.Sources.{places_in}
use Rattle.gib_syntax.specs.Parts.{constructor_tree, data_tree}
use Rattle.gib_local_parse.proofs.DeclarationLoops.{constructors_more, constructors_done, constructors_fail, constructors_shorter, first_constructor_fails}
use Rattle.gib_local_parse.proofs.declarations.constructors.Goals as goal

pub returns-in_err-first : goal.returns-in_err-first
returns-in_err-first c =
    let p = err_from_is_err_and c.from_residual.result c.from_residual.ensures.1 in
    rw (p.1, p.2) (first_constructor_fails (places_in c.args.source.now) c.args.tokens.now c.in_err-first.field-0.0 c.in_err-first.ensures)

pub returns-in_err-next : goal.returns-in_err-next
returns-in_err-next c =
    let p = err_from_is_err_and c.from_residual-in_err-next.result c.from_residual-in_err-next.ensures.1 in
    rw (p.1, p.2)
    (constructors_fail (places_in c.args.source.now) c.args.tokens.now c.constructors.rest.now c.constructors.found.items c.in_err-next.field-0.0 c.constructors.invariant (sym c.begins.ensures ∙ c.constructors-test.true) c.in_err-next.ensures)

pub constructors-smaller : goal.constructors-smaller
constructors-smaller c = constructors_shorter (places_in c.args.source.now) c.constructors.rest.now c.in_ok-next.after.now (constructor_tree c.in_ok-next.next) c.in_ok-next.ensures

pub constructors-preserved : goal.constructors-preserved
constructors-preserved c =
    rw c.in_ok-push-2.ensures.items
    (constructors_more (places_in c.args.source.now) c.args.tokens.now c.constructors.rest.now c.in_ok-next.after.now c.constructors.found.items c.in_ok-next.next c.constructors.invariant (sym c.begins.ensures ∙ c.constructors-test.true) c.in_ok-next.ensures)

pub returns : goal.returns
returns c = constructors_done (places_in c.args.source.now) c.args.tokens.now c.constructors.rest.now c.constructors.found.items c.constructors.invariant (sym c.begins.ensures ∙ c.constructors-test.false)
