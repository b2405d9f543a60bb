use Rattle.std.proofs.Common.{sym}
use Rattle.gib_locked.proofs.NextLines.{no_line_no_next, other_next}
use Rattle.gib_locked.proofs.line.read_next.Goals as goal

pub returns-in_default : goal.returns-in_default
returns-in_default c = λ l are is. no_line_no_next c.args.lines.now.items c.args.text.now l c.in_default.ensures are is

pub returns-else-may_be_next : goal.returns-else-may_be_next
returns-else-may_be_next c = λ l are is. other_next c.args.lines.now.items c.args.text.now c.in-Some.line l c.in-Some.ensures.0 c.in-Some.ensures.1 (sym c.if-may_be_next.ensures) are is
