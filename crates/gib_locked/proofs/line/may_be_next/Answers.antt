use Rattle.std.proofs.Common.{rules, sym, ◌∙◌}
use Rattle.gib_locked.proofs.NextLines.{next_by_last}
use Rattle.gib_locked.proofs.line.may_be_next.Goals as goal

pub returns-in-Some : goal.returns-in-Some
returns-in-Some c = c.may_follow.ensures ∙ sym (next_by_last c.args.lines.now.items c.in-Some.last.now c.args.line (search rules) c.requires.are c.requires.is)
