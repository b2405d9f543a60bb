use Rattle.std.proofs.Common.{List, rules, refl, sym, ap, ◌∙◌, subst}
use Rattle.gib_types.specs.declared.table.Ty.{Ty}
use Rattle.gib_core.specs.declared.program.CoreResult.TheVariants as given
use Rattle.gib_syntax.specs.declared.tree.Parameter.{Parameter}
use Rattle.gib_local_parse.specs.LineArena.{tree_of}
use Rattle.gib_local.specs.Building.{build_body, types_of}
use Rattle.gib_local.specs.Builds.{Fails, program_in}
use Rattle.gib_local.proofs.bodies.function.Goals as goal

pub returns : goal.returns
returns c = record {
  grows = c.in_ok-body.ensures.grows;
  inside = c.in_ok-body.ensures.inside;
  is = ap (λ (qs : List Parameter). build_body (program_in c.args.source.now) qs c.args.lines.now.result c.args.lines.now.place (tree_of c.args.source.now.lines c.args.lines.now.body.0)) (sym c.deref.ensures.value) ∙ c.in_ok-body.ensures.is;
  name = refl;
  parameters = c.in_ok-parameters.ensures ∙ ap (types_of (program_in c.args.source.now).table.types) c.deref-2.ensures.value;
  result = ap (λ (t : Ty). given.One t) c.type_named.ensures;
}

pub returns-in_err-body : goal.returns-in_err-body
returns-in_err-body c =
    let h =
    subst (λ (qs : List Parameter). Fails c.in_err-body.field-0.0 (build_body (program_in c.args.source.now) qs c.args.lines.now.result c.args.lines.now.place (tree_of c.args.source.now.lines c.args.lines.now.body.0))) c.deref.ensures.value c.in_err-body.ensures in
    search rules
