use Rattle.std.proofs.Common.{rules, ◌≡◌, sym, ap, subst, ◌∙◌}
use Rattle.gib_arena.specs.Passes.{view, cells}
use Rattle.gib_arena.specs.declared.memory.Pass.{Pass}
use Rattle.gib_frame.specs.declared.due.Due.{Due}
use Rattle.gib_frame.specs.declared.due.Ending.TheVariants as ending
use Rattle.gib_frame.specs.Answers.{IsEnding, drawn_by}
use Rattle.gib_frame.specs.Dues.{frame_due}
use Rattle.gib_pool.proofs.Lending.{lends_less}
use Rattle.gib_pool.proofs.Passing.{joined_drawn}
use Rattle.gib_pool.proofs.Settling.{latest}
use Rattle.gib_pool.proofs.back.settle.Goals as goal

pub returns-in-Some-clause-lends : goal.returns-in-Some-clause-lends
returns-in-Some-clause-lends g c = λ lent h.
    let v = c.join.ensures.both in
    let o = c.requires.latest c.if-here-gt0.true in
    let due : c.in-Some.task.due ≡ frame_due c.args.frame.now = latest _ _ _ _ (sym c.in-Some.ensures.some ∙ o.1) in
    let t = c.into_pass.ensures in
    let is : c.into_pass.result ≡ (frame_due c.args.frame.now).pass.value = t.pass ∙ (sym t.task.pass ∙ ap (λ (d : Due). d.pass.value) due) in
    let none = ap (λ (p : Pass). (view p).branch.out) t.pass ∙ t.task.none_out in
    lends_less c.args.pass.now c.into_pass.result c.join.new.self v.0 (frame_due c.args.frame.now) lent (c.join.ensures.of ∙ sym c.requires.own.0) v.1 (ap (λ (p : Pass). (view p).branch.path) is) none h

pub returns-in-Answer-clause-lends : goal.returns-in-Answer-clause-lends
returns-in-Answer-clause-lends g c = λ lent h.
    let v = c.join-2.ensures.both in let d = c.wait_answer-ending.ensures in
    lends_less c.args.pass.now c.wait_answer-ending.result.1 c.join-2.new.self v.0 (frame_due c.args.frame.now) lent (c.join-2.ensures.of ∙ sym c.requires.own.0) v.1 d.his.path d.his.none_out h

pub returns-in-Full-clause-lends : goal.returns-in-Full-clause-lends
returns-in-Full-clause-lends g c = λ lent h.
    let v = c.join-2.ensures.both in let d = c.wait_answer-ending.ensures in
    lends_less c.args.pass.now c.wait_answer-ending.result.1 c.join-2.new.self v.0 (frame_due c.args.frame.now) lent (c.join-2.ensures.of ∙ sym c.requires.own.0) v.1 d.his.path d.his.none_out h

pub returns-in-NotRun-clause-lends : goal.returns-in-NotRun-clause-lends
returns-in-NotRun-clause-lends g c = λ lent h.
    let v = c.join-2.ensures.both in let d = c.wait_answer-ending.ensures in
    lends_less c.args.pass.now c.wait_answer-ending.result.1 c.join-2.new.self v.0 (frame_due c.args.frame.now) lent (c.join-2.ensures.of ∙ sym c.requires.own.0) v.1 d.his.path d.his.none_out h

pub returns-in-Answer-clause-back : goal.returns-in-Answer-clause-back
returns-in-Answer-clause-back g c =
    let v = c.join-2.ensures.both in
    let his = c.wait_answer-ending.result.1 in
    let e : IsEnding (frame_due c.args.frame.now) his (ending.Answer c.in-Answer.answer) = subst (IsEnding (frame_due c.args.frame.now) his) c.in-Answer.is c.wait_answer-ending.ensures.ends in
    (drawn_by his, search rules, search rules, joined_drawn c.args.pass.now his c.join-2.new.self v.0 v.1, record { from = cells his; answers = e.0; knows = c.join-2.ensures.known.1; paid = e.1 })

pub returns-in-Full-clause-back : goal.returns-in-Full-clause-back
returns-in-Full-clause-back g c =
    let v = c.join-2.ensures.both in
    let his = c.wait_answer-ending.result.1 in
    let e : IsEnding (frame_due c.args.frame.now) his ending.Full = subst (IsEnding (frame_due c.args.frame.now) his) c.in-Full.is c.wait_answer-ending.ensures.ends in
    (drawn_by his, search rules, search rules, joined_drawn c.args.pass.now his c.join-2.new.self v.0 v.1, search rules, e.1)
