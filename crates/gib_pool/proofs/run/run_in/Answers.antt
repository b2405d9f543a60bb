use Rattle.std.proofs.Common.{◌≡◌, ℕ, [], sym, ap, subst, ◌∙◌, arith}
use Rattle.gib_types.specs.Tree.{Datum}
use Rattle.gib_core.specs.Parts.{core_of}
use Rattle.gib_machine.specs.State.{State}
use Rattle.gib_weave.specs.Running.{IsStart, word_of}
use Rattle.gib_weave.specs.Starting.{root_start}
use Rattle.gib_arena.specs.declared.memory.Pass.{Pass}
use Rattle.gib_arena.specs.declared.view.View.{View}
use Rattle.gib_arena.specs.Passes.{view, cells}
use Rattle.gib_arena.specs.Shown.{shown_alone}
use Rattle.gib_frame.specs.Answers.{drawn_by}
use Rattle.gib_weave.specs.Owing.{Debt}
use Rattle.gib_pool.specs.Active.{OwesStill}
use Rattle.gib_pool.specs.Runs.{pass_memory}
use Rattle.gib_pool.specs.Turn.{Works}
use Rattle.gib_pool.proofs.Beginnings.{IsMade, active_owes, made_holds, root_debt, root_owes, root_ends, full_drawn, was_run, wants_none}
use Rattle.gib_pool.proofs.Passing.{root_bounded}
use Rattle.gib_pool.proofs.Standing.{whole}
use Rattle.gib_pool.proofs.run.run_in.Goals as goal

pub work_together-ending-requires-clause-holds : goal.work_together-ending-requires-clause-holds
work_together-ending-requires-clause-holds g c κs within =
    let l = c.args.shared.now.lowered.now in
    let a = c.args.shared.now.arena.now in
    let tails = c.args.tails in
    let pass = c.count_all.new.pass in
    let depth = c.args.config.depth in
    let level = c.args.config.forks in
    let counted = c.count_all.ensures in
    let active = c.make-active.ensures in
    let made : IsMade c.make-active.result c.in-Ok.workspace.value.machine tails pass = record { machine = active.machine.0; tails = active.machine.1; pass = active.pass; frames = active.frames.0 } in
    let start = c.in-Ok.ensures.machine tails in
    made_holds a l c.make-active.result c.in-Ok.workspace.value.machine tails pass made counted.own (ap (λ (v : View). v.branch.out) counted.same ∙ c.requires.alone.2) (ap (λ (s : State). s.width) start) (ap (λ (s : State). s.pars) start)
    (let few = c.in-Ok.ensures.room in let at : c.in-Ok.workspace.value.machine.level ≡ level = ap (λ (s : State). s.level) start in let room = active.room in omega (arith, few, at, room))

pub work_together-ending-requires-clause-owes : goal.work_together-ending-requires-clause-owes
work_together-ending-requires-clause-owes g c κs within =
    let l = c.args.shared.now.lowered.now in
    let a = c.args.shared.now.arena.now in
    let tails = c.args.tails in
    let pass = c.count_all.new.pass in
    let depth = c.args.config.depth in
    let level = c.args.config.forks in
    let counted = c.count_all.ensures in
    let active = c.make-active.ensures in
    let made : IsMade c.make-active.result c.in-Ok.workspace.value.machine tails pass = record { machine = active.machine.0; tails = active.machine.1; pass = active.pass; frames = active.frames.0 } in
    let start = c.in-Ok.ensures.machine tails in
    let ok = whole l c.code-code.ensures.lowered c.core.ensures.fits c.code-code.ensures.runs in
    let owes : (d : Datum) → IsStart l c.args.root tails (pass_memory c.args.first) d → OwesStill l (root_debt l depth level d) c.make-active.result = λ d st.
    active_owes l (root_debt l depth level d) c.make-active.result c.in-Ok.workspace.value.machine tails pass made
    (subst (λ (s : State). Works l (root_debt l depth level d) (cells pass) (drawn_by pass) s []) (sym start)
    (subst (λ (n : ℕ). Works l (root_debt l depth level d) (cells pass) n (root_start (core_of l.core) l.code (word_of c.args.root) depth level tails) []) (sym counted.all)
    (root_owes l (pass_memory pass) c.args.root tails depth level d ok (root_bounded a pass counted.own)
    (subst (λ (v : View). IsStart l c.args.root tails (shown_alone v) d) (sym counted.same) st))))
    in
    let st = c.requires.starts in
    (root_debt l depth level st.0, owes st.0 st.1)

pub returns-clause-ends : goal.returns-clause-ends
returns-clause-ends g c = λ d st.
    let l = c.args.shared.now.lowered.now in
    let a = c.args.shared.now.arena.now in
    let tails = c.args.tails in
    let pass = c.count_all.new.pass in
    let depth = c.args.config.depth in
    let level = c.args.config.forks in
    let counted = c.count_all.ensures in
    let active = c.make-active.ensures in
    let made : IsMade c.make-active.result c.in-Ok.workspace.value.machine tails pass = record { machine = active.machine.0; tails = active.machine.1; pass = active.pass; frames = active.frames.0 } in
    let start = c.in-Ok.ensures.machine tails in
    let ok = whole l c.code-code.ensures.lowered c.core.ensures.fits c.code-code.ensures.runs in
    let owes : (d : Datum) → IsStart l c.args.root tails (pass_memory c.args.first) d → OwesStill l (root_debt l depth level d) c.make-active.result = λ d st.
    active_owes l (root_debt l depth level d) c.make-active.result c.in-Ok.workspace.value.machine tails pass made
    (subst (λ (s : State). Works l (root_debt l depth level d) (cells pass) (drawn_by pass) s []) (sym start)
    (subst (λ (n : ℕ). Works l (root_debt l depth level d) (cells pass) n (root_start (core_of l.core) l.code (word_of c.args.root) depth level tails) []) (sym counted.all)
    (root_owes l (pass_memory pass) c.args.root tails depth level d ok (root_bounded a pass counted.own)
    (subst (λ (v : View). IsStart l c.args.root tails (shown_alone v) d) (sym counted.same) st))))
    in
    let last = c.count_all-2 in
    let limit = ap (λ (v : View). v.branch.limit) last.ensures.same ∙ (c.work_together-ending.ensures.over.back.same.limit ∙ (ap (λ (p : Pass). (view p).branch.limit) active.pass ∙ ap (λ (v : View). v.branch.limit) counted.same)) in
    root_ends l depth level d c.make-active.result c.work_together-ending.result.0 c.outcome_of.result (pass_memory c.args.first) c.work_together-ending.result.1 last.new.pass (owes d st) c.work_together-ending.ensures.over.settles (sym limit) last.ensures.same last.ensures.all c.outcome_of.ensures

pub outcome_of-requires : goal.outcome_of-requires
outcome_of-requires g c = was_run c.args.shared.now.lowered.now (λ (d : Debt). OwesStill c.args.shared.now.lowered.now d c.make-active.result) c.work_together-ending.result.0 c.work_together-ending.result.1 c.work_together-ending.ensures.over.settles

pub returns-clause-wants : goal.returns-clause-wants
returns-clause-wants g c = λ e. absurd (wants_none c.work_together-ending.result.0 c.outcome_of.result c.outcome_of.ensures e)

pub returns-clause-full : goal.returns-clause-full
returns-clause-full g c = λ e.
    let l = c.args.shared.now.lowered.now in
    let last = c.count_all-2 in
    full_drawn l (λ (d : Debt). OwesStill l d c.make-active.result) c.work_together-ending.result.0 c.outcome_of.result c.work_together-ending.result.1 last.new.pass c.outcome_of.ensures e c.work_together-ending.ensures.over.settles last.ensures.same last.ensures.all
