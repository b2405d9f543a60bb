use Rattle.std.proofs.Common.{◌∙◌, arith}
use Rattle.gib_check.proofs.Passing.{passed_none, passed_more}
use Rattle.gib_check.proofs.origin.outside_arm.Goals as goal

pub variables-init : goal.variables-init
variables-init c = (
  c.least-place.ensures.first,
  c.least-place.ensures.second,
  passed_none c.args.variables.now c.args.fields.now c.args.body c.least-place.result c.least-place.ensures.is_one,
)

pub variables-preserved : goal.variables-preserved
variables-preserved c = (
  omega (arith, c.variables.invariant.0),
  omega (arith, c.variables.invariant.1),
  c.outside-origin.ensures
      ∙ passed_more c.args.variables.now c.args.fields.now c.args.body c.variables.origin c.variables.place _ _ c.variables-test.true c.variables.invariant.0 c.variables.invariant.1 c.variables.invariant.2,
)
