use Rattle.std.proofs.Common.{arith}
use Rattle.gib_packed.proofs.Examples.{Holds-from}
use Rattle.gib_unit_tests.proofs.packed.fill.Goals as goal

pub returns : goal.returns
returns g c = Holds-from (g.M.Mem.view c.bytes.mem).cells c.args.bytes.now (λ i lt. c.bytes.invariant.held i (omega arith))
