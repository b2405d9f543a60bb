use Rattle.std.proofs.Common.{rules}
use Rattle.gib_locked.proofs.LineTexts.{too_large}
use Rattle.gib_locked.proofs.line.read_task.Goals as goal

pub returns-then-number : goal.returns-then-number
returns-then-number c = λ t h is. too_large c.args.text.now c.in-Some.number t (search rules) c.if-number.true c.in-Some.ensures h is
