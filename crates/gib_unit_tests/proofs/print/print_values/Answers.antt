use Rattle.std.specs.Prelude.{negsuc}
use Rattle.std.proofs.Common.{true, arith}
use Rattle.gib_types.specs.declared.table.Ty.TheVariants as ty
use Rattle.gib_types.specs.Tree.{whole, truth}
use Rattle.gib_packed.specs.Stands.{a_whole, a_truth}
use Rattle.gib_print.proofs.Examples.{example_stands}
use Rattle.gib_unit_tests.proofs.print.print_values.Goals as goal

pub print_at-requires-clause-stands : goal.print_at-requires-clause-stands
print_at-requires-clause-stands g c = example_stands c.args.layouts.now (g.M.Mem.view c.args.mem.now) (g.M.Mem.view c.put.new.mem) c.requires.laid c.put.ensures

pub print_at-requires-2-clause-stands : goal.print_at-requires-2-clause-stands
print_at-requires-2-clause-stands g c = (ty.Whole, whole (negsuc 6), a_whole (omega arith))

pub print_at-requires-3-clause-stands : goal.print_at-requires-3-clause-stands
print_at-requires-3-clause-stands g c = (ty.Truth, truth true, a_truth)
