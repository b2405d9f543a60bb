use Rattle.gib_check.proofs.SameNumber.{same_number}
use Rattle.gib_check.proofs.rules.is_same.Goals as goal

pub returns : goal.returns
returns c = same_number c.args.types.now c.args.left c.args.right c.len-once.ensures.once c.requires.left c.requires.right
