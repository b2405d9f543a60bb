use Rattle.std.proofs.Common.{◌≡◌, [], sym, ap, ◌∙◌, arith}
use Rattle.gib_code.specs.Program.{CodeTree}
use Rattle.gib_machine.specs.State.{State, widest}
use Rattle.gib_weave.specs.Owing.{Debt}
use Rattle.gib_arena.specs.declared.memory.Arena.{Arena}
use Rattle.gib_arena.specs.declared.memory.Pass.{Pass}
use Rattle.gib_arena.specs.Passes.{view, IsOf}
use Rattle.gib_frame.specs.declared.due.Due.{Due}
use Rattle.gib_frame.specs.Answers.{drawn_by}
use Rattle.gib_frame.specs.Dues.{reply_due}
use Rattle.gib_pool.proofs.Beginnings.{IsMade, made_holds, side_owes, side_ends, task_debt}
use Rattle.gib_pool.proofs.Passing.{pass_small}
use Rattle.gib_pool.proofs.helping.run_task.Goals as goal

pub work-ending-requires-clause-holds : goal.work-ending-requires-clause-holds
work-ending-requires-clause-holds g c =
    let t = c.open-reply.ensures in
    let is = t.task in
    let l = c.open-reply.result.2.now in
    let p = c.open-reply.result.4 in
    let m = c.begin.new.self.machine in
    let start = c.begin.ensures.machine c.if-not-begin.false in
    let of : IsOf c.open-reply.result.1.now p = ap (λ (x : Pass). x.seat.table_id) t.parts.1 ∙ (is.own ∙ sym (ap (λ (x : Arena). x.table.shared.table_id) t.code.0)) in
    let made : IsMade c.make-active.result m [] p = record { machine = c.make-active.ensures.machine.0; tails = c.make-active.ensures.machine.1 ∙ c.new.ensures; pass = c.make-active.ensures.pass; frames = c.make-active.ensures.frames.0 } in
    let none = ap (λ (x : Pass). (view x).branch.out) t.parts.1 ∙ is.none_out in
    let width = ap (λ (s : State). s.width) start ∙ ap (λ (x : CodeTree). widest x.functions) c.code.ensures.value in
    let few = c.begin.ensures.room c.if-not-begin.false in
    let level : m.level ≡ c.open-reply.result.3.level = ap (λ (s : State). s.level) start in
    let room = c.make-active.ensures.room in
    made_holds c.open-reply.result.1.now l c.make-active.result m [] p made of none width (ap (λ (s : State). s.pars) start) (omega (arith, few, level, room))

pub work-ending-requires-clause-owes : goal.work-ending-requires-clause-owes
work-ending-requires-clause-owes g c =
    let t = c.open-reply.ensures in
    let is = t.task in
    let l = c.open-reply.result.2.now in
    let p = c.open-reply.result.4 in
    let m = c.begin.new.self.machine in
    let start = c.begin.ensures.machine c.if-not-begin.false in
    let of : IsOf c.open-reply.result.1.now p = ap (λ (x : Pass). x.seat.table_id) t.parts.1 ∙ (is.own ∙ sym (ap (λ (x : Arena). x.table.shared.table_id) t.code.0)) in
    let made : IsMade c.make-active.result m [] p = record { machine = c.make-active.ensures.machine.0; tails = c.make-active.ensures.machine.1 ∙ c.new.ensures; pass = c.make-active.ensures.pass; frames = c.make-active.ensures.frames.0 } in
    let due = reply_due c.open-reply.result.0 in
    let lowered : due.lowered.value ≡ l = ap (λ (x : Due). x.lowered.value) t.due ∙ (is.lowered ∙ sym t.code.1) in
    let pass : due.pass.value ≡ p = ap (λ (x : Due). x.pass.value) t.due ∙ (is.pass ∙ sym t.parts.1) in
    let side = ap (λ (x : Due). x.side.value) t.due ∙ (is.side ∙ sym t.parts.0) in
    let owes = λ (d : Debt). side_owes l d due c.code.result.now c.open-reply.result.3 p m c.make-active.result lowered c.code.ensures.value side pass start made (pass_small c.open-reply.result.1.now p of) (ap drawn_by t.parts.1 ∙ is.none_drawn) in
    let debt = task_debt c.args.task due is t.due in
    (debt.0, owes debt.0 debt.1)

pub put_answer-requires-2 : goal.put_answer-requires-2
put_answer-requires-2 g c =
    let t = c.open-reply.ensures in
    let is = t.task in
    let l = c.open-reply.result.2.now in
    let p = c.open-reply.result.4 in
    let m = c.begin.new.self.machine in
    let start = c.begin.ensures.machine c.if-not-begin.false in
    let of : IsOf c.open-reply.result.1.now p = ap (λ (x : Pass). x.seat.table_id) t.parts.1 ∙ (is.own ∙ sym (ap (λ (x : Arena). x.table.shared.table_id) t.code.0)) in
    let made : IsMade c.make-active.result m [] p = record { machine = c.make-active.ensures.machine.0; tails = c.make-active.ensures.machine.1 ∙ c.new.ensures; pass = c.make-active.ensures.pass; frames = c.make-active.ensures.frames.0 } in
    let due = reply_due c.open-reply.result.0 in
    let lowered : due.lowered.value ≡ l = ap (λ (x : Due). x.lowered.value) t.due ∙ (is.lowered ∙ sym t.code.1) in
    let pass : due.pass.value ≡ p = ap (λ (x : Due). x.pass.value) t.due ∙ (is.pass ∙ sym t.parts.1) in
    let side = ap (λ (x : Due). x.side.value) t.due ∙ (is.side ∙ sym t.parts.0) in
    let owes = λ (d : Debt). side_owes l d due c.code.result.now c.open-reply.result.3 p m c.make-active.result lowered c.code.ensures.value side pass start made (pass_small c.open-reply.result.1.now p of) (ap drawn_by t.parts.1 ∙ is.none_drawn) in
    let w = c.work-ending.ensures.over in
    let b = w.back in
    let q = c.work-ending.result.1 in
    record {
      his = record {
        arena = b.own ∙ sym (ap (λ (x : Pass). x.seat.table_id) pass ∙ of);
        path = b.same.path ∙ (ap (λ (x : Pass). (view x).branch.path) made.pass ∙ sym (ap (λ (x : Pass). (view x).branch.path) pass));
        none_out = b.none_out;
      };
      ends = side_ends due l c.make-active.result c.work-ending.result.0 q lowered owes w.settles;
    }
