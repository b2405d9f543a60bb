use Rattle.gib_types.specs.Table.{row_of}
use Rattle.gib_types.proofs.Copied.{copied}
use Rattle.gib_types.proofs.copy.copy_constructors.Goals as goal

pub constructors-preserved : goal.constructors-preserved
constructors-preserved c = copied row_of c.constructors.copies.items c.push.new.self.items c.in_ok-copy.copy c.args.types.now.rows c.constructors.i c.in_ok-copy.ensures c.in_ok-push.ensures.items c.constructors.invariant.1
