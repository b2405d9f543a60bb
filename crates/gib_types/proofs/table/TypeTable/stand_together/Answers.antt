use Rattle.std.proofs.Common.{subst}
use Rattle.gib_types.specs.Table.{IsTable}
use Rattle.gib_types.proofs.Owners.{together}
use Rattle.gib_types.proofs.table.TypeTable.stand_together.Goals as goal

pub returns : goal.returns
returns c = λ ty con. together c.args.self.now ty con (subst IsTable c.self.view_is c.self.invariant.rules)
