use Rattle.std.proofs.Common.{◌∷◌, [], ◌<◌, length, rules, sym, ap, ◌∙◌, subst}
use Rattle.gib_local_parse.specs.declared.text.MainLines.{MainLines}
use Rattle.gib_local_parse.specs.LineArena.{tree_of}
use Rattle.gib_local_parse.specs.TextParts.{AreInside, TextParts, main_text}
use Rattle.gib_local.specs.Building.{build_body}
use Rattle.gib_local.specs.Builds.{Fails, program_in}
use Rattle.gib_local.specs.Bodied.{PutsMain}
use Rattle.gib_local.proofs.bodies.main.Goals as goal

pub body-requires : goal.body-requires
body-requires c =
    subst (λ (m : MainLines). m.body.0 < length c.args.source.now.lines) (sym (c.main-main.ensures.value ∙ ap (λ (q : TextParts). q.main) c.text.ensures)) (subst AreInside c.text.ensures c.main-main.ensures.inside).main

pub returns : goal.returns
returns c =
    subst (λ (m : MainLines). PutsMain c.args.builder.now c.body.new.builder (program_in c.args.source.now) (record { parameter = c.type_named.result; result = c.type_named-2.result; body = c.in_ok-body.body }) (main_text (tree_of c.args.source.now.lines) m))
    (c.main-main.ensures.value ∙ ap (λ (q : TextParts). q.main) c.text.ensures)
    (record { grows = c.in_ok-body.ensures.grows; inside = c.in_ok-body.ensures.inside; is = c.in_ok-body.ensures.is; parameter = c.type_named.ensures; result = c.type_named-2.ensures })

pub returns-in_err-body : goal.returns-in_err-body
returns-in_err-body c =
    let h =
    subst (λ (m : MainLines). Fails c.in_err-body.field-0.0 (build_body (program_in c.args.source.now) (m.parameter ∷ []) m.result m.place (tree_of c.args.source.now.lines m.body.0))) (c.main-main.ensures.value ∙ ap (λ (q : TextParts). q.main) c.text.ensures) c.in_err-body.ensures in
    search rules
