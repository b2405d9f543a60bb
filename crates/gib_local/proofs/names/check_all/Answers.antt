use Rattle.std.proofs.Common.{arith, sym, ap, ◌∙◌, ◌∷◌, ◌<◌, [], length, List, subst}
use Rattle.std.proofs.lemmas.Result.{err_from_is_err_and}
use Rattle.std.specs.List.{AllByRecursion}
use Rattle.gib_check.proofs.Opening.{gives_same}
use Rattle.gib_local_parse.specs.declared.text.FunctionLines.{FunctionLines}
use Rattle.gib_local.specs.Knowing.{declared_of, body, HasFew}
use Rattle.gib_local_parse.specs.LineArena.{tree_of}
use Rattle.gib_local.specs.Naming.{check_text}
use Rattle.gib_local_parse.specs.TextParts.{TextParts, IsFunctionIn, text_of}
use Rattle.gib_local.proofs.TextNames.{declarations_fail, offsets_fail, bodies_fail, after_bodies, inside_here, few_here, main_here}
use Rattle.gib_local.proofs.names.check_all.Goals as goal

pub returns-in_err-check_declarations : goal.returns-in_err-check_declarations
returns-in_err-check_declarations c =
    let p = err_from_is_err_and c.from_residual.result c.from_residual.ensures.1 in
    rw (p.1, p.2) (declarations_fail c.args.known.now c.in_err-check_declarations.field-0.0 c.in_err-check_declarations.ensures.checked)

pub returns-in_err-offsets : goal.returns-in_err-offsets
returns-in_err-offsets c =
    let p = err_from_is_err_and c.from_residual-in_err-offsets.result c.from_residual-in_err-offsets.ensures.1 in
    rw (p.1, p.2) (offsets_fail c.args.known.now c.in_err-offsets.field-0.0 c.in_ok-check_declarations.ensures.checked c.in_err-offsets.ensures)

pub bodies-requires : goal.bodies-requires
bodies-requires c = record {
  inside = inside_here c.args.known.now c.text-text.result.now c.functions.result.now c.text-text.ensures c.functions.ensures.value c.functions.ensures.inside;
  few = few_here c.args.known.now c.text-text.result.now c.functions.result.now c.text-text.ensures c.functions.ensures.value c.in_ok-check_declarations.ensures.few;
}

pub returns-in_err-bodies : goal.returns-in_err-bodies
returns-in_err-bodies c =
    let p = err_from_is_err_and c.from_residual-in_err-bodies.result c.from_residual-in_err-bodies.ensures.1 in
    rw (p.1, p.2)
    (bodies_fail c.args.known.now c.functions.result.now (c.functions.ensures.value ∙ ap (λ (z : TextParts). z.functions) c.text-text.ensures) c.in_ok-check_declarations.ensures.checked c.in_ok-offsets.ensures c.in_err-bodies.field-0.0 c.in_err-bodies.ensures)

pub body-requires : goal.body-requires
body-requires c = record { id = main_here c.args.known.now c.text-text.result.now c.main-main.result c.text-text.ensures c.main-main.ensures.value c.main-main.ensures.inside; few = omega arith }

pub returns : goal.returns
returns c =
    gives_same (λ _. tt {0}) c.body.result (check_text (text_of c.args.known.now)) (body (declared_of c.args.known.now) (c.main-main.result.parameter ∷ []) c.main-main.result.place (tree_of c.args.known.now.lines c.main-main.result.body.0))
    (after_bodies c.args.known.now c.functions.result.now (c.functions.ensures.value ∙ ap (λ (z : TextParts). z.functions) c.text-text.ensures) c.in_ok-check_declarations.ensures.checked c.in_ok-offsets.ensures c.main-main.result (c.main-main.ensures.value ∙ ap (λ (z : TextParts). z.main) c.text-text.ensures) c.in_ok-bodies.ensures)
    c.body.ensures
