use Rattle.std.proofs.Common.{ℕ, List, map, refl, sym, ap, subst, ◌∙◌}
use Rattle.gib_code.specs.declared.instruction.Operand.{Operand}
use Rattle.std.specs.Prelude.{Some, None}
use Rattle.gib_code.specs.declared.instruction.Instr.{Instr}
use Rattle.gib_code.specs.Instruction.{instruction_of}
use Rattle.gib_machine.specs.State.{State, puts, slot, words}
use Rattle.gib_machine.specs.Machine.{begin, called, gives_parts, putting, fill_bytes}
use Rattle.gib_machine.specs.Stepping.{with_tails, Made}
use Rattle.gib_machine.specs.declared.turn.Turn.TheVariants as turn
use Rattle.gib_machine.proofs.state.Machine.exec.Goals as goal

pub returns-in-Whole : goal.returns-in-Whole
returns-in-Whole g c =
    let s : State = with_tails c.args.self.now c.args.tails.now in
    subst (λ (i : Instr). Made (begin c.args.code.now s (Some (instruction_of i))) s (with_tails c.exec_read.new.self c.args.tails.now) (g.M.Mem.view c.args.mem.now) (g.M.Mem.view c.exec_read.new.mem) c.exec_read.result) (sym c.in-Whole.is) (c.exec_read.ensures c.args.tails.now)

pub returns-in-Truth : goal.returns-in-Truth
returns-in-Truth g c =
    let s : State = with_tails c.args.self.now c.args.tails.now in
    subst (λ (i : Instr). Made (begin c.args.code.now s (Some (instruction_of i))) s (with_tails c.exec_truth.new.self c.args.tails.now) (g.M.Mem.view c.args.mem.now) (g.M.Mem.view c.exec_truth.new.mem) c.exec_truth.result) (sym c.in-Truth.is) (c.exec_truth.ensures c.args.tails.now)

pub returns-in-Offset : goal.returns-in-Offset
returns-in-Offset g c =
    let s : State = with_tails c.args.self.now c.args.tails.now in
    subst (λ (i : Instr). Made (begin c.args.code.now s (Some (instruction_of i))) s (with_tails c.exec_read-in-Offset.new.self c.args.tails.now) (g.M.Mem.view c.args.mem.now) (g.M.Mem.view c.exec_read-in-Offset.new.mem) c.exec_read-in-Offset.result) (sym c.in-Offset.is) (c.exec_read-in-Offset.ensures c.args.tails.now)

pub returns-in-Fill : goal.returns-in-Fill
returns-in-Fill g c =
    let s : State = with_tails c.args.self.now c.args.tails.now in
    let made : List Operand → List ℕ → Type 0 = λ ss ps. Made (puts (slot s.words c.in-Fill.head) c.in-Fill.constructor (fill_bytes c.args.code.now.laid c.in-Fill.constructor (map (slot s.words) ps) (words s.words ss)) (putting s)) s (with_tails c.exec_fill.new.self c.args.tails.now) (g.M.Mem.view c.args.mem.now) (g.M.Mem.view c.exec_fill.new.mem) c.exec_fill.result in
    subst (λ (i : Instr). Made (begin c.args.code.now s (Some (instruction_of i))) s (with_tails c.exec_fill.new.self c.args.tails.now) (g.M.Mem.view c.args.mem.now) (g.M.Mem.view c.exec_fill.new.mem) c.exec_fill.result) (sym c.in-Fill.is)
    (subst (λ (ps : List ℕ). made c.in-Fill.scalars.items ps) c.deref-in-Fill-2.ensures.value (subst (λ (ss : List Operand). made ss c.deref-in-Fill-2.result.now) c.deref-in-Fill.ensures.value (c.exec_fill.ensures c.args.tails.now)))

pub returns-in-Call : goal.returns-in-Call
returns-in-Call g c =
    let s : State = with_tails c.args.self.now c.args.tails.now in
    let e = c.exec_call.ensures c.args.tails.now ∙ ap (λ (l : List Operand). called c.args.code.now s c.in-Call.function (words c.args.self.now.words l) None c.args.self.now.depth) c.deref-in-Call.ensures.value in
    subst (λ (i : Instr). Made (begin c.args.code.now s (Some (instruction_of i))) s (with_tails c.exec_call.new.self c.args.tails.now) (g.M.Mem.view c.args.mem.now) (g.M.Mem.view c.args.mem.now) turn.Went) (sym c.in-Call.is) (refl, e, refl)

pub returns-in-CallScalar : goal.returns-in-CallScalar
returns-in-CallScalar g c =
    let s : State = with_tails c.args.self.now c.args.tails.now in
    let e = c.exec_call-in-CallScalar.ensures c.args.tails.now ∙ ap (λ (l : List Operand). called c.args.code.now s c.in-CallScalar.function (words c.args.self.now.words l) (Some c.in-CallScalar.to) c.args.self.now.depth) c.deref-in-CallScalar.ensures.value in
    subst (λ (i : Instr). Made (begin c.args.code.now s (Some (instruction_of i))) s (with_tails c.exec_call-in-CallScalar.new.self c.args.tails.now) (g.M.Mem.view c.args.mem.now) (g.M.Mem.view c.args.mem.now) turn.Went) (sym c.in-CallScalar.is) (refl, e, refl)

pub returns-in-GiveParts : goal.returns-in-GiveParts
returns-in-GiveParts g c =
    let s : State = with_tails c.args.self.now c.args.tails.now in
    let e = c.exec_give_parts.ensures c.args.tails.now ∙ ap (λ (l : List Operand). gives_parts s (words c.args.self.now.words l)) c.deref-in-GiveParts.ensures.value in
    subst (λ (i : Instr). Made (begin c.args.code.now s (Some (instruction_of i))) s (with_tails c.exec_give_parts.new.self c.args.tails.now) (g.M.Mem.view c.args.mem.now) (g.M.Mem.view c.args.mem.now) turn.Went) (sym c.in-GiveParts.is) (refl, e, refl)
