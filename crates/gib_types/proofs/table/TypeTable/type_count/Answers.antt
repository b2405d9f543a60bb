use Rattle.std.proofs.Common.{arith}
use Rattle.gib_types.specs.Row.{table_of}
use Rattle.gib_types.proofs.Owners.{types_few}
use Rattle.gib_types.proofs.table.TypeTable.type_count.Goals as goal

pub overflow_cast-result : goal.overflow_cast-result
overflow_cast-result c =
    let few = types_few (table_of c.self.inside.types.items c.self.inside.constructors.items) c.self.invariant.rules in
    let long = c.self.invariant.begin.long in
    omega (arith, c.self.inside.firsts.ok)
