use Rattle.gib_plain.proofs.Moves.{bound_all}
use Rattle.gib_plain.proofs.stack.push_bindings.Goals as goal

pub returns-else-i-values : goal.returns-else-i-values
returns-else-i-values c = bound_all c.names.vars.items _ c.args.names.now c.args.values.now c.names.i c.if-i-values.false c.names.invariant.0
