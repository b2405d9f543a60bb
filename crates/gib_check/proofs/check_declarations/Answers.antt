use Rattle.std.proofs.Common.{ap, ◌∙◌, ◌∷◌, [], map}
use Rattle.std.proofs.lemmas.Result.{err_from_is_err_and}
use Rattle.gib_syntax.specs.GenericParts.{GenericParts, generic_program_of, parameter_in}
use Rattle.gib_syntax.specs.Results.{One}
use Rattle.gib_syntax.specs.Words.{type_in}
use Rattle.gib_check.specs.FirstFault.{check_declarations, check_head}
use Rattle.gib_check.specs.NameViews.{generic_globals}
use Rattle.gib_check.proofs.Opening.{gives_same}
use Rattle.gib_check.proofs.Declaring.{datas_fail, fields_fail, heads_fail, after_heads}
use Rattle.gib_check.proofs.check_declarations.Goals as goal

pub returns-in_err-check_datas : goal.returns-in_err-check_datas
returns-in_err-check_datas c =
    let p = err_from_is_err_and c.from_residual.result c.from_residual.ensures.1 in
    rw (p.1, p.2) (datas_fail c.args.named.now c.exprs.result.now c.datas-datas.result.now (record { are_exprs = c.exprs.ensures.value ∙ ap (λ (p : GenericParts). p.exprs) c.program-program.ensures; are_datas = c.datas-datas.ensures.value ∙ ap (λ (p : GenericParts). p.datas) c.program-program.ensures }) c.in_err-check_datas.field-0.0 c.in_err-check_datas.ensures)

pub returns-in_err-check_fields : goal.returns-in_err-check_fields
returns-in_err-check_fields c =
    let p = err_from_is_err_and c.from_residual-in_err-check_fields.result c.from_residual-in_err-check_fields.ensures.1 in
    rw (p.1, p.2) (fields_fail c.args.named.now c.exprs.result.now c.datas-datas.result.now (record { are_exprs = c.exprs.ensures.value ∙ ap (λ (p : GenericParts). p.exprs) c.program-program.ensures; are_datas = c.datas-datas.ensures.value ∙ ap (λ (p : GenericParts). p.datas) c.program-program.ensures }) c.in_err-check_fields.field-0.0 c.in_ok-check_datas.ensures c.in_err-check_fields.ensures)

pub returns-in_err-check_heads : goal.returns-in_err-check_heads
returns-in_err-check_heads c =
    let p = err_from_is_err_and c.from_residual-in_err-check_heads.result c.from_residual-in_err-check_heads.ensures.1 in
    rw (p.1, p.2) (heads_fail c.args.named.now c.exprs.result.now c.datas-datas.result.now (record { are_exprs = c.exprs.ensures.value ∙ ap (λ (p : GenericParts). p.exprs) c.program-program.ensures; are_datas = c.datas-datas.ensures.value ∙ ap (λ (p : GenericParts). p.datas) c.program-program.ensures }) c.in_err-check_heads.field-0.0 c.functions.result.now (c.functions.ensures.value ∙ ap (λ (p : GenericParts). p.functions) c.program-program.ensures) c.in_ok-check_datas.ensures c.in_ok-check_fields.ensures c.in_err-check_heads.ensures)

pub returns : goal.returns
returns c =
    gives_same (λ _. tt {0}) c.check_head.result (check_declarations (generic_program_of c.args.named.now)) (check_head (generic_globals c.args.named.now).datas [] (map (parameter_in c.args.named.now.exprs.words) (c.main-main.result.parameter ∷ [])) (One (type_in c.args.named.now.exprs.words c.main-main.result.result)))
    (after_heads c.args.named.now c.exprs.result.now c.datas-datas.result.now (record { are_exprs = c.exprs.ensures.value ∙ ap (λ (p : GenericParts). p.exprs) c.program-program.ensures; are_datas = c.datas-datas.ensures.value ∙ ap (λ (p : GenericParts). p.datas) c.program-program.ensures }) c.functions.result.now c.main-main.result (c.functions.ensures.value ∙ ap (λ (p : GenericParts). p.functions) c.program-program.ensures) (c.main-main.ensures.value ∙ ap (λ (p : GenericParts). p.main) c.program-program.ensures) c.in_ok-check_datas.ensures c.in_ok-check_fields.ensures c.in_ok-check_heads.ensures)
    c.check_head.ensures
