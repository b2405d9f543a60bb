use Rattle.std.proofs.Common.{[], ◌∷◌, refl, ap, ◌∙◌, map}
use Rattle.gib_syntax.specs.declared.tree.ResultTypes.TheVariants as result
use Rattle.gib_syntax.specs.GenericArena.{tree_of}
use Rattle.gib_syntax.specs.GenericParts.{parameter_in}
use Rattle.gib_syntax.specs.Results.{One}
use Rattle.gib_syntax.specs.Words.{type_in}
use Rattle.gib_mono.specs.Sources.{globals_in}
use Rattle.gib_mono.proofs.Declarations.{main_made, one_written, parts_made}
use Rattle.gib_mono.proofs.Meeting.{with_scene}
use Rattle.gib_mono.proofs.declaring.copy_main.Goals as goal

pub returns : goal.returns
returns c =
    let p = c.args.source.now in
    let words = p.exprs.words in
    let main = c.main-main.result in
    let w = c.in_ok-written.written in
    let parts = parts_made (globals_in p) (with_scene c.args.copier.now c.enter.new.self) c.copy_parameters.new.copier c.copy_type.new.copier c.copy_expression.new.copier c.in_ok-copied.copied (map (parameter_in words) (main.parameter ∷ [])) (result.One w.name)
    (One (type_in words main.result)) c.in_ok-part.part (tree_of p.exprs main.body.0) c.in_ok-copied.ensures (one_written words c.copy_parameters.new.copier c.copy_type.new.copier c.words.result.now main.result w c.words.ensures c.in_ok-written.ensures) c.in_ok-part.ensures in
    main_made p c.args.copier.now c.copy_expression.new.copier c.enter.new.self c.new.result.items c.new-2.result.items main (main.parameter ∷ []) c.in_ok-copied.copied w.name c.in_ok-part.part.expr c.as_slice.result.now _ c.new.ensures.items c.new-2.ensures.items
    (c.main-main.ensures.value ∙ ap (λ p. p.main) c.program.ensures.value) refl c.enter.ensures parts c.as_slice.ensures.value
