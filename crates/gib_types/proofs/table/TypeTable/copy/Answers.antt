use Rattle.gib_types.proofs.Copied.{table_stays}
use Rattle.gib_types.proofs.table.TypeTable.copy.Goals as goal

pub make-requires : goal.make-requires
make-requires c = table_stays c.args.self.now c.in_ok-names.names.items c.in_ok-constructors.constructors.items c.rules.ensures c.in_ok-names.ensures c.in_ok-constructors.ensures
