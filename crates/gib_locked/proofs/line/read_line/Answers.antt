use Rattle.std.proofs.Common.{◌≡◌, rules}
use Rattle.std.specs.Prelude.{codes}
use Rattle.gib_locked.proofs.LineTexts.{no_task_no_line, cut_line}
use Rattle.gib_locked.proofs.line.read_line.Goals as goal

pub returns-in_default-read_task : goal.returns-in_default-read_task
returns-in_default-read_task c = λ l h is. no_task_no_line c.args.text.now c.in-Some.parts.front.now c.in-Some.parts.rest.now l c.in-Some.ensures (search rules) c.in_default-read_task.ensures h is

pub returns-in-None-line_named : goal.returns-in-None-line_named
returns-in-None-line_named c = λ l h is.
    let other : c.in-Some.parts.front.now ≡ codes "step" → ⊥ = search rules in
    other (c.in-None-line_named.ensures l (cut_line c.args.text.now c.in-Some.parts.front.now c.in-Some.parts.rest.now l c.in-Some.ensures is).0)
