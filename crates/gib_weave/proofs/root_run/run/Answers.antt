use Rattle.std.proofs.Common.{sym, subst, ◌∙◌}
use Rattle.gib_code.specs.Program.{CodeTree}
use Rattle.gib_machine.specs.Stepping.{with_tails}
use Rattle.gib_weave.specs.Running.{CanEnd, IsOutcome}
use Rattle.gib_weave.proofs.RootEnds.{run_can_end, run_ends, run_keeps, run_task, run_wants}
use Rattle.gib_weave.proofs.root_run.run.Goals as goal

pub run_for-turn-requires : goal.run_for-turn-requires
run_for-turn-requires g c =
    let st = c.requires.starts in
    run_task c.args.lowered.now (g.M.Mem.view c.args.mem.now) c.args.root c.args.tails c.args.depth c.make-prepared.result c.in-Ok.machine (c.make-prepared.ensures ∙ c.code-code.ensures.value) c.code-code.ensures.lowered c.core.ensures.fits c.code-code.ensures.runs
    (g.met.M.Mem.bounded c.args.mem.now) c.in-Ok.ensures st.0 st.1

pub outcome_of-requires : goal.outcome_of-requires
outcome_of-requires g c =
    let st = c.requires.starts in (
      c.run_for-turn.new.tails,
      subst (λ (x : CodeTree). CanEnd x (with_tails c.run_for-turn.new.machine c.run_for-turn.new.tails) c.run_for-turn.result) c.make-prepared.ensures (run_can_end c.args.lowered.now (g.M.Mem.view c.args.mem.now) c.args.root c.args.tails c.args.depth c.make-prepared.result c.in-Ok.machine (c.make-prepared.ensures ∙ c.code-code.ensures.value) c.code-code.ensures.lowered c.core.ensures.fits c.code-code.ensures.runs
          (g.met.M.Mem.bounded c.args.mem.now) c.in-Ok.ensures st.0 st.1 c.requires.alone _ (g.M.Mem.view c.run_for-turn.new.mem) c.run_for-turn.result _ c.run_for-turn.ensures.walks c.run_for-turn.ensures.task),
    )

pub returns-in-Ok-clause-ends : goal.returns-in-Ok-clause-ends
returns-in-Ok-clause-ends g c = λ d st.
    run_ends c.args.lowered.now (g.M.Mem.view c.args.mem.now) c.args.root c.args.tails c.args.depth c.make-prepared.result c.in-Ok.machine (c.make-prepared.ensures ∙ c.code-code.ensures.value) c.code-code.ensures.lowered c.core.ensures.fits c.code-code.ensures.runs
    (g.met.M.Mem.bounded c.args.mem.now) c.in-Ok.ensures d st c.requires.alone _ (g.M.Mem.view c.run_for-turn.new.mem) c.run_for-turn.result _ c.run_for-turn.ensures.walks c.run_for-turn.ensures.task c.outcome_of.result (subst (λ (x : CodeTree). IsOutcome x (with_tails c.run_for-turn.new.machine c.run_for-turn.new.tails) c.run_for-turn.result c.outcome_of.result) (sym c.make-prepared.ensures) (c.outcome_of.ensures c.run_for-turn.new.tails))

pub returns-in-Ok-clause-keeps : goal.returns-in-Ok-clause-keeps
returns-in-Ok-clause-keeps g c =
    let st = c.requires.starts in
    run_keeps c.args.lowered.now (g.M.Mem.view c.args.mem.now) c.args.root c.args.tails c.args.depth c.make-prepared.result c.in-Ok.machine (c.make-prepared.ensures ∙ c.code-code.ensures.value) c.code-code.ensures.lowered c.core.ensures.fits c.code-code.ensures.runs
    (g.met.M.Mem.bounded c.args.mem.now) c.in-Ok.ensures st.0 st.1 _ (g.M.Mem.view c.run_for-turn.new.mem) c.run_for-turn.result c.run_for-turn.ensures.task

pub returns-in-Ok-clause-wants : goal.returns-in-Ok-clause-wants
returns-in-Ok-clause-wants g c =
    let st = c.requires.starts in
    run_wants c.args.lowered.now (g.M.Mem.view c.args.mem.now) c.args.root c.args.tails c.args.depth c.make-prepared.result c.in-Ok.machine (c.make-prepared.ensures ∙ c.code-code.ensures.value) c.code-code.ensures.lowered c.core.ensures.fits c.code-code.ensures.runs
    (g.met.M.Mem.bounded c.args.mem.now) c.in-Ok.ensures st.0 st.1 c.requires.alone _ (g.M.Mem.view c.run_for-turn.new.mem) c.run_for-turn.result _ c.run_for-turn.ensures.walks c.run_for-turn.ensures.task c.outcome_of.result (subst (λ (x : CodeTree). IsOutcome x (with_tails c.run_for-turn.new.machine c.run_for-turn.new.tails) c.run_for-turn.result c.outcome_of.result) (sym c.make-prepared.ensures) (c.outcome_of.ensures c.run_for-turn.new.tails))
