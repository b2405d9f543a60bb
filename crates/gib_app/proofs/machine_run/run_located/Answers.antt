use Rattle.std.proofs.Common.{◌≡◌, ◌∙◌, ◌≤◌, Result, IfOk, IfErr, refl, sym, ap, subst}
use Rattle.gib_lower.specs.Lowering.{lower_program}
use Rattle.gib_core.specs.LoweredParts.{LoweredParts}
use Rattle.gib_core.specs.Parts.{Parts, core_of}
use Rattle.gib_code.specs.Program.{CodeTree}
use Rattle.gib_arena.specs.Sole.{sole_memory}
use Rattle.gib_arena.specs.declared.sole_mem.SoleMem.{SoleMem}
use Rattle.gib_app.specs.declared.machine_run.RunEnd.{RunEnd}
use Rattle.gib_app.specs.declared.stop.Stop.{Stop}
use Rattle.gib_app.specs.Jobs.{run_forks}
use Rattle.gib_app.specs.MachineRun.{IsRunEnd, OnRan}
use Rattle.gib_app.specs.Stops.{IsRunStop}
use Rattle.gib_app.proofs.Refusals.{run_stop}
use Rattle.gib_app.proofs.Roots.{ended_code, ended_meant, ended_memory, ended_stop, located_file, located_of, located_refused}
use Rattle.gib_app.proofs.machine_run.run_located.Goals as goal

-- ---- The file is refused

pub returns-in-Err-survey_typed-clause-stop : goal.returns-in-Err-survey_typed-clause-stop
returns-in-Err-survey_typed-clause-stop g c = λ p runs.
    let core = core_of c.args.core in
    let names = c.args.names.now in
    let file = c.args.file.now in
    let same = c.core-core.ensures.value ∙ c.in-Ok.ensures.core in
    run_stop p names file c.requires.short c.in-Err-survey_typed.stop
    (located_refused core p names runs c.types-types.result.now c.main-ty.result.parameter file c.in-Err-survey_typed.stop
    (c.types-types.ensures ∙ ap (λ (x : Parts). x.table) same) (ap (λ m. m.parameter) c.main-ty.ensures.value ∙ ap (λ (x : Parts). x.main.parameter) same) c.in-Err-survey_typed.ensures.refused)

-- ---- Its value was run on

pub run_on-left-requires-clause-table : goal.run_on-left-requires-clause-table
run_on-left-requires-clause-table g c κs within =
    c.in-Ok-survey_typed.ensures.table ∙ c.types-types.ensures ∙ ap (λ (x : Parts). x.table) (c.core-core.ensures.value ∙ c.in-Ok.ensures.core) ∙ sym (ap (λ (x : CodeTree). x.laid.table) c.in-Ok.ensures.code)

pub run_on-left-requires-clause-ty : goal.run_on-left-requires-clause-ty
run_on-left-requires-clause-ty g c κs within = c.in-Ok-survey_typed.ensures.ty ∙ ap (λ m. m.parameter) c.main-ty.ensures.value ∙ ap (λ (x : Parts). x.main.parameter) c.core-core.ensures.value

pub returns-clause-stands : goal.returns-clause-stands
returns-clause-stands g c = λ p runs.
    let core = core_of c.args.core in
    let names = c.args.names.now in
    let o = c.args.options in
    let file = c.args.file.now in
    let s = c.in-Ok-survey_typed.survey in
    let l = c.in-Ok.lowered in
    let same = c.core-core.ensures.value ∙ c.in-Ok.ensures.core in
    let P : Result RunEnd Stop → Type 0 = λ r. IfOk r (IsRunEnd core p names o.depth (run_forks o) o.chunks file) in
    subst P (sym c.ended.ensures)
    (ended_meant names core p o.depth (run_forks o) o.chunks file s l (located_of core p names runs c.args.core l refl c.in-Ok.ensures.core c.in-Ok.ensures.code) c.requires.short c.payload-packed.ensures.packed
    (located_file core p names runs c.types-types.result.now c.main-ty.result.parameter file s
    (c.types-types.ensures ∙ ap (λ (x : Parts). x.table) same) (ap (λ m. m.parameter) c.main-ty.ensures.value ∙ ap (λ (x : Parts). x.main.parameter) same) c.in-Ok-survey_typed.ensures.file)
    c.run_on-left.result c.run_on-left.ensures.root c.run_on-left.ensures.halts)

pub returns-clause-code : goal.returns-clause-code
returns-clause-code g c =
    let code = lower_program (core_of c.args.core) in
    let C : LoweredParts → Type 0 = λ l. l.code ≡ code in
    let P : Result RunEnd Stop → Type 0 = λ r. IfOk r (OnRan (λ ran. C ran.lowered)) in
    subst P (sym c.ended.ensures) (ended_code c.in-Ok.lowered c.run_on-left.result C c.in-Ok.ensures.code)

pub returns-clause-limit : goal.returns-clause-limit
returns-clause-limit g c =
    let M : SoleMem → Type 0 = λ m. (sole_memory m).limit ≤ c.args.options.chunks in
    let P : Result RunEnd Stop → Type 0 = λ r. IfOk r (OnRan (λ ran. M ran.memory)) in
    subst P (sym c.ended.ensures) (ended_memory c.in-Ok.lowered c.run_on-left.result M c.run_on-left.ensures.limit)

pub returns-clause-stop : goal.returns-clause-stop
returns-clause-stop g c = λ p runs.
    let P : Result RunEnd Stop → Type 0 = λ r. IfErr r (IsRunStop p c.args.names.now c.args.file.now) in
    subst P (sym c.ended.ensures) (ended_stop c.in-Ok.lowered c.run_on-left.result p c.args.names.now c.args.file.now)
