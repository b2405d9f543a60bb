use Rattle.std.proofs.Common.{arith}
use Rattle.gib_types.proofs.Naming.{none_all, all_few}
use Rattle.gib_types.proofs.table.TypeTable.constructors_of.Goals as goal

pub returns-then-ty-type_count-clause-few : goal.returns-then-ty-type_count-clause-few
returns-then-ty-type_count-clause-few c = (let few = all_few c.args.self.now c.args.ty.0 c.rules.ensures in omega (arith, few, c.first_of.ensures, c.count_of.ensures))

pub returns-else-ty-type_count-clause-all : goal.returns-else-ty-type_count-clause-all
returns-else-ty-type_count-clause-all c =
    none_all c.args.self.now c.args.ty.0 c.rules.ensures (omega (arith, c.type_count.ensures))
