use Rattle.std.proofs.Common.{rules}
use Rattle.gib_locked.proofs.LineTexts.{no_steps, cut_steps, steps_task, steps_count, count_fits, no_count, zero_is_none, many_is_none}
use Rattle.gib_locked.proofs.line.read_steps.Goals as goal

pub returns-in_default : goal.returns-in_default
returns-in_default c = λ t n h is. no_steps c.args.text.now t n c.in_default.ensures is

pub returns-in_default-read_task : goal.returns-in_default-read_task
returns-in_default-read_task c = λ t n h is. c.in_default-read_task.ensures t (steps_task t n h) (cut_steps c.args.text.now c.in-Some.numbers.front.now c.in-Some.numbers.rest.now t n c.in-Some.ensures h is).0

pub returns-in_default-read_number : goal.returns-in_default-read_number
returns-in_default-read_number c = λ t n h is. c.in_default-read_number.ensures n (count_fits n (steps_count t n h)) (cut_steps c.args.text.now c.in-Some.numbers.front.now c.in-Some.numbers.rest.now t n c.in-Some.ensures h is).1

pub returns-then-count-eq0 : goal.returns-then-count-eq0
returns-then-count-eq0 c = λ t n h is. no_count c.args.text.now c.in-Some.numbers.front.now c.in-Some.numbers.rest.now c.in-Some-read_number.count t n c.in-Some.ensures (search rules) c.in-Some-read_number.ensures (zero_is_none c.in-Some-read_number.count c.if-count-eq0.true) h is

pub returns-then-count-gt-MOST : goal.returns-then-count-gt-MOST
returns-then-count-gt-MOST c = λ t n h is. no_count c.args.text.now c.in-Some.numbers.front.now c.in-Some.numbers.rest.now c.in-Some-read_number.count t n c.in-Some.ensures (search rules) c.in-Some-read_number.ensures (many_is_none c.in-Some-read_number.count c.if-count-gt-MOST.true) h is
