use Rattle.std.proofs.Common.{ap, ◌∙◌, ◌∷◌, [], map}
use Rattle.std.proofs.lemmas.Result.{err_from_is_err_and}
use Rattle.gib_syntax.specs.GenericParts.{GenericParts, generic_program_of, parameter_in}
use Rattle.gib_syntax.specs.Results.{One}
use Rattle.gib_syntax.specs.Words.{type_in}
use Rattle.gib_check.specs.FirstFault.{check_program, check_body}
use Rattle.gib_check.specs.NameViews.{generic_globals, generic_tree}
use Rattle.gib_check.proofs.Opening.{gives_same}
use Rattle.gib_check.proofs.Declaring.{declarations_fail, bodies_fail, after_bodies}
use Rattle.gib_check.proofs.check_rules.Goals as goal

pub returns-in_err-check_declarations : goal.returns-in_err-check_declarations
returns-in_err-check_declarations c =
    let p = err_from_is_err_and c.from_residual.result c.from_residual.ensures.1 in
    rw (p.1, p.2) (declarations_fail c.args.named.now c.in_err-check_declarations.field-0.0 c.in_err-check_declarations.ensures)

pub returns-in_err-check_bodies : goal.returns-in_err-check_bodies
returns-in_err-check_bodies c =
    let p = err_from_is_err_and c.from_residual-in_err-check_bodies.result c.from_residual-in_err-check_bodies.ensures.1 in
    rw (p.1, p.2) (bodies_fail c.args.named.now c.in_err-check_bodies.field-0.0 c.functions.result.now (c.functions.ensures.value ∙ ap (λ (p : GenericParts). p.functions) c.program-program.ensures) c.in_ok-check_declarations.ensures c.in_err-check_bodies.ensures)

pub returns : goal.returns
returns c =
    gives_same (λ _. tt {0}) c.check_body.result (check_program (generic_program_of c.args.named.now)) (check_body (generic_globals c.args.named.now) [] (map (parameter_in c.args.named.now.exprs.words) (c.main-main.result.parameter ∷ [])) (One (type_in c.args.named.now.exprs.words c.main-main.result.result)) (generic_tree c.args.named.now c.main-main.result.body.0))
    (after_bodies c.args.named.now c.functions.result.now c.main-main.result (c.functions.ensures.value ∙ ap (λ (p : GenericParts). p.functions) c.program-program.ensures) (c.main-main.ensures.value ∙ ap (λ (p : GenericParts). p.main) c.program-program.ensures) c.in_ok-check_declarations.ensures c.in_ok-check_bodies.ensures)
    c.check_body.ensures
