use Rattle.std.proofs.Common.{length, refl, ap, ◌∙◌, ◌-◌, get_or, arith}
use Rattle.gib_types.specs.declared.table.Ty.{Ty}
use Rattle.gib_syntax.specs.declared.tree.Parameter.{Parameter}
use Rattle.gib_syntax.specs.declared.tree.TypeName.TheVariants as typename
use Rattle.gib_check.specs.declared.origin.TypeOrigin.TheVariants.{Fixed}
use Rattle.gib_check.specs.Origins.{outside}
use Rattle.gib_check.specs.Views.{table_in}
use Rattle.gib_check.proofs.Passing.{parts_none, parts_more}
use Rattle.gib_check.proofs.node_facts.outside_parts.Goals as goal

-- The parameter that is read past the end of a slice.
abbrev none : Parameter
none = record { name = record { name = record { 0 = 0 }; span = record { start = 0; end = 0 } }; ty = typename.Whole (record { start = 0; end = 0 }) }

pub variables-init : goal.variables-init
variables-init c = (
  omega arith,
  parts_none (table_in c.args.declared.now).types c.args.names.now c.args.body (length c.args.names.now) refl,
)

pub variables-preserved : goal.variables-preserved
variables-preserved c = (
  omega (arith, c.variables.invariant.0),
  c.outside-origin.ensures
      ∙ ap (λ (t : Ty). outside (get_or c.args.names.now (c.variables.place - 1) none).name (Fixed t) c.variables.origin) c.type_named-ty.ensures
      ∙ parts_more (table_in c.args.declared.now).types c.args.names.now c.args.body c.variables.origin c.variables.place none c.variables-test.true c.variables.invariant.0 c.variables.invariant.1,
)
