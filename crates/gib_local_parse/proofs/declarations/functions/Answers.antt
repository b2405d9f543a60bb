use Rattle.std.proofs.Common.{sym, ◌∙◌}
use Rattle.std.proofs.lemmas.Result.{err_from_is_err_and}
use Rattle.gib_local_parse.specs.Sources.{places_in}
use Rattle.gib_local_parse.specs.LineArena.{tree_of}
use Rattle.gib_local_parse.specs.TextParts.{function_text}
use Rattle.gib_local_parse.proofs.DeclarationLoops.{functions_more, functions_done, functions_fail, functions_shorter}
use Rattle.gib_local_parse.proofs.declarations.functions.Goals as goal

pub returns-in_err-next-clause-read : goal.returns-in_err-next-clause-read
returns-in_err-next-clause-read c =
    let p = err_from_is_err_and c.from_residual.result c.from_residual.ensures.1 in
    rw (p.1, p.2)
    (functions_fail c.args.lines.now c.functions.lines (places_in c.args.source.now) c.args.tokens.now c.functions.rest.now c.functions.found.items c.in_err-next.field-0.0 c.functions.invariant (sym c.begins.ensures ∙ c.functions-test.true) c.in_err-next.ensures.read)

pub functions-smaller : goal.functions-smaller
functions-smaller c = functions_shorter (places_in c.args.source.now) c.functions.rest.now c.in_ok-next.after.now (function_text (tree_of c.function.new.lines) c.in_ok-next.next) c.in_ok-next.ensures.read

pub functions-preserved : goal.functions-preserved
functions-preserved c =
    rw c.in_ok-push.ensures.items
    (functions_more c.args.lines.now c.functions.lines c.function.new.lines (places_in c.args.source.now) c.args.tokens.now c.functions.rest.now c.in_ok-next.after.now c.functions.found.items c.in_ok-next.next c.functions.invariant (sym c.begins.ensures ∙ c.functions-test.true) c.in_ok-next.ensures.kept.grows c.in_ok-next.ensures.kept.inside c.in_ok-next.ensures.read)

pub returns-clause-read : goal.returns-clause-read
returns-clause-read c =
    functions_done c.args.lines.now c.functions.lines (places_in c.args.source.now) c.args.tokens.now c.functions.rest.now c.functions.found.items c.functions.invariant (sym c.begins.ensures ∙ c.functions-test.false)
