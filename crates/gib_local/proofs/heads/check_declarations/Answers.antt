use Rattle.std.proofs.Common.{refl, ap, ◌∙◌, ◌∷◌, [], map}
use Rattle.std.proofs.lemmas.Result.{err_from_is_err_and}
use Rattle.gib_syntax.specs.Results as results
use Rattle.gib_syntax.specs.Plain.{written_of, generic_of, generic_parameter}
use Rattle.gib_check.specs.FirstFault.{check_declarations, check_head}
use Rattle.gib_check.proofs.Opening.{gives_same}
use Rattle.gib_local.specs.Building.{declared}
use Rattle.gib_local.specs.Knowing.{datas_of}
use Rattle.gib_local_parse.specs.TextParts.{TextParts, text_of}
use Rattle.gib_local.proofs.HeadNames.{datas_fail, fields_fail, heads_fail, after_heads, heads_few}
use Rattle.gib_local.proofs.TextNames.{if_ok}
use Rattle.gib_local.proofs.heads.check_declarations.Goals as goal

pub returns-in_err-check_datas-clause-checked : goal.returns-in_err-check_datas-clause-checked
returns-in_err-check_datas-clause-checked c =
    let p = err_from_is_err_and c.from_residual.result c.from_residual.ensures.1 in
    rw (p.1, p.2)
    (datas_fail c.args.known.now c.datas-datas.result.now c.args.known.now.functions c.args.known.now.main (c.datas-datas.ensures ∙ ap (λ (z : TextParts). z.datas) c.text-text.ensures) refl refl c.in_err-check_datas.field-0.0 c.in_err-check_datas.ensures)

pub returns-in_err-check_fields-clause-checked : goal.returns-in_err-check_fields-clause-checked
returns-in_err-check_fields-clause-checked c =
    let p = err_from_is_err_and c.from_residual-in_err-check_fields.result c.from_residual-in_err-check_fields.ensures.1 in
    rw (p.1, p.2)
    (fields_fail c.args.known.now c.datas-datas.result.now c.args.known.now.functions c.args.known.now.main (c.datas-datas.ensures ∙ ap (λ (z : TextParts). z.datas) c.text-text.ensures) refl refl c.in_err-check_fields.field-0.0 c.in_ok-check_datas.ensures c.in_err-check_fields.ensures)

pub returns-in_err-check_heads-clause-checked : goal.returns-in_err-check_heads-clause-checked
returns-in_err-check_heads-clause-checked c =
    let p = err_from_is_err_and c.from_residual-in_err-check_heads.result c.from_residual-in_err-check_heads.ensures.1 in
    rw (p.1, p.2)
    (heads_fail c.args.known.now c.datas-datas.result.now c.functions.result.now c.args.known.now.main (c.datas-datas.ensures ∙ ap (λ (z : TextParts). z.datas) c.text-text.ensures) (c.functions.ensures.value ∙ ap (λ (z : TextParts). z.functions) c.text-text.ensures) refl c.in_err-check_heads.field-0.0
    c.in_ok-check_datas.ensures c.in_ok-check_fields.ensures c.in_err-check_heads.ensures)

pub returns-clause-checked : goal.returns-clause-checked
returns-clause-checked c =
    gives_same (λ _. tt {0}) c.check_head.result (check_declarations (generic_of (declared (text_of c.args.known.now)))) (check_head (datas_of c.args.known.now) [] (map generic_parameter (c.main-main.result.parameter ∷ [])) (results.One (written_of c.main-main.result.result)))
    (after_heads c.args.known.now c.datas-datas.result.now c.functions.result.now c.main-main.result (c.datas-datas.ensures ∙ ap (λ (z : TextParts). z.datas) c.text-text.ensures) (c.functions.ensures.value ∙ ap (λ (z : TextParts). z.functions) c.text-text.ensures) (c.main-main.ensures.value ∙ ap (λ (z : TextParts). z.main) c.text-text.ensures)
    c.in_ok-check_datas.ensures c.in_ok-check_fields.ensures c.in_ok-check_heads.ensures)
    c.check_head.ensures

pub returns-clause-few : goal.returns-clause-few
returns-clause-few c = if_ok c.check_head.result (heads_few c.args.known.now c.functions.result.now (c.functions.ensures.value ∙ ap (λ (z : TextParts). z.functions) c.text-text.ensures) c.in_ok-check_heads.ensures)
