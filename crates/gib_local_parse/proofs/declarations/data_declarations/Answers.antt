use Rattle.std.proofs.Common.{sym, ◌∙◌}
use Rattle.std.proofs.lemmas.Result.{err_from_is_err_and}
use Rattle.gib_local_parse.specs.Sources.{places_in}
use Rattle.gib_syntax.specs.Parts.{constructor_tree, data_tree}
use Rattle.gib_local_parse.proofs.DeclarationLoops.{datas_more, datas_done, datas_fail, datas_shorter}
use Rattle.gib_local_parse.proofs.declarations.data_declarations.Goals as goal

pub returns-in_err-next : goal.returns-in_err-next
returns-in_err-next c =
    let p = err_from_is_err_and c.from_residual.result c.from_residual.ensures.1 in
    rw (p.1, p.2)
    (datas_fail (places_in c.args.source.now) c.args.tokens.now c.declarations.rest.now c.declarations.found.items c.in_err-next.field-0.0 c.declarations.invariant (sym c.begins.ensures ∙ c.declarations-test.true) c.in_err-next.ensures)

pub declarations-smaller : goal.declarations-smaller
declarations-smaller c = datas_shorter (places_in c.args.source.now) c.declarations.rest.now c.in_ok-next.after.now (data_tree c.in_ok-next.next) c.in_ok-next.ensures

pub declarations-preserved : goal.declarations-preserved
declarations-preserved c =
    rw c.in_ok-push.ensures.items
    (datas_more (places_in c.args.source.now) c.args.tokens.now c.declarations.rest.now c.in_ok-next.after.now c.declarations.found.items c.in_ok-next.next c.declarations.invariant (sym c.begins.ensures ∙ c.declarations-test.true) c.in_ok-next.ensures)

pub returns : goal.returns
returns c = datas_done (places_in c.args.source.now) c.args.tokens.now c.declarations.rest.now c.declarations.found.items c.declarations.invariant (sym c.begins.ensures ∙ c.declarations-test.false)
