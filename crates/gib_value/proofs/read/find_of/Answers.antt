use Rattle.gib_value.proofs.ReadNames.{only_found}
use Rattle.gib_value.proofs.read.find_of.Goals as goal

pub returns-in-None : goal.returns-in-None
returns-in-None c = only_found c.args.types.now c.args.names.now.short c.args.ty c.args.token.now c.requires c.find_among.result c.find_among.ensures
