use Rattle.std.proofs.Common.{arith}
use Rattle.gib_core.specs.PartTypes.{types_in}
use Rattle.gib_core.proofs.Spelling.{variables_before}
use Rattle.gib_core.proofs.print.put_variables_from.Goals as goal

pub variables-preserved : goal.variables-preserved
variables-preserved c = (
  omega (arith, c.variables.invariant.0),
  variables_before (types_in c.args.types) c.args.first.0 c.variables.i c.in-Ok.number c.args.out.now c.variables.out c.put.new.self (omega (arith, c.variables-test.true)) c.variables.invariant.0
      (omega (arith, c.in-Ok.ensures, c.from.ensures)) c.variables.invariant.1 c.in_ok-put.ensures.put,
)
