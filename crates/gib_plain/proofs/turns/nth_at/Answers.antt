use Rattle.std.proofs.Common.{arith}
use Rattle.gib_plain.proofs.InTurn.{none_at}
use Rattle.gib_plain.proofs.turns.nth_at.Goals as goal

pub returns : goal.returns
returns c = omega (arith, c.arguments.invariant.1, none_at c.args.scalars c.arguments.types.now c.arguments.arguments.now c.in_default.len_below)
