use Rattle.std.proofs.Common.{◌≡◌, ◌≤◌, Result, IfOk, IfErr, MatchResult, sym, subst}
use Rattle.gib_lower.specs.Lowering.{lower_program}
use Rattle.gib_core.specs.LoweredParts.{LoweredParts}
use Rattle.gib_syntax.specs.Declarations.{output_type}
use Rattle.gib_syntax.specs.Parts.{program_of}
use Rattle.gib_syntax.specs.Meaning.{run}
use Rattle.gib_arena.specs.Sole.{sole_memory}
use Rattle.gib_arena.specs.declared.sole_mem.SoleMem.{SoleMem}
use Rattle.gib_app.specs.declared.machine_run.RunEnd.{RunEnd}
use Rattle.gib_app.specs.declared.stop.Stop.{Stop}
use Rattle.gib_app.specs.declared.stop.Stop.TheVariants.{Memory}
use Rattle.gib_app.specs.Cores.{core_asked, layouts_asked}
use Rattle.gib_app.specs.Jobs.{run_forks}
use Rattle.gib_app.specs.MachineRun.{IsRunEnd, IsRootOf, Lacks, OnEnd, OnRan, cells_of, program_cost}
use Rattle.gib_app.specs.Stops.{IsRunStop}
use Rattle.gib_app.proofs.Refusals.{run_stop}
use Rattle.gib_app.proofs.Roots.{ended_code, ended_meant, ended_memory, ended_only, ended_stop, of_program, refused_only}
use Rattle.gib_app.proofs.machine_run.run_packed.Goals as goal

-- ---- The file is refused

pub returns-in-Err-clause-stop : goal.returns-in-Err-clause-stop
returns-in-Err-clause-stop g c = run_stop (program_of c.args.typed.now) c.args.names.now c.args.file.now c.requires.short c.in-Err.stop c.in-Err.ensures.refused

pub returns-in-Err-clause-only : goal.returns-in-Err-clause-only
returns-in-Err-clause-only g c = λ v is.
    let p = program_of c.args.typed.now in
    refused_only {names = c.args.names.now} p c.args.file.now v is c.in-Err.stop (run_stop p c.args.names.now c.args.file.now c.requires.short c.in-Err.stop c.in-Err.ensures.refused)

-- ---- Its value was run on

pub returns-in-Ok-lowered-clause-stands : goal.returns-in-Ok-lowered-clause-stands
returns-in-Ok-lowered-clause-stands g c =
    let p = program_of c.args.typed.now in
    let names = c.args.names.now in
    let o = c.args.options in
    let file = c.args.file.now in
    let made = c.in-Ok-lowered.ensures in
    let l = c.in-Ok-lowered.lowered in
    let P : Result RunEnd Stop → Type 0 = λ r. IfOk r (IsRunEnd (core_asked o p) p names o.depth (run_forks o) o.chunks file) in
    subst P (sym c.ended.ensures)
    (ended_meant names (core_asked o p) p o.depth (run_forks o) o.chunks file c.in-Ok.survey l (of_program p o l (record { core = made.core; means = made.means; laid = made.laid })) c.requires.short
    c.payload-packed.ensures.packed c.in-Ok.ensures.file c.run_on-left.result c.run_on-left.ensures.root c.run_on-left.ensures.halts)

pub returns-in-Ok-lowered-clause-code : goal.returns-in-Ok-lowered-clause-code
returns-in-Ok-lowered-clause-code g c =
    let code = lower_program (core_asked c.args.options (program_of c.args.typed.now)) in
    let C : LoweredParts → Type 0 = λ l. l.code ≡ code in
    let P : Result RunEnd Stop → Type 0 = λ r. IfOk r (OnRan (λ ran. C ran.lowered)) in
    subst P (sym c.ended.ensures) (ended_code c.in-Ok-lowered.lowered c.run_on-left.result C c.in-Ok-lowered.ensures.code)

pub returns-in-Ok-lowered-clause-limit : goal.returns-in-Ok-lowered-clause-limit
returns-in-Ok-lowered-clause-limit g c =
    let M : SoleMem → Type 0 = λ m. (sole_memory m).limit ≤ c.args.options.chunks in
    let P : Result RunEnd Stop → Type 0 = λ r. IfOk r (OnRan (λ ran. M ran.memory)) in
    subst P (sym c.ended.ensures) (ended_memory c.in-Ok-lowered.lowered c.run_on-left.result M c.run_on-left.ensures.limit)

pub returns-in-Ok-lowered-clause-laid : goal.returns-in-Ok-lowered-clause-laid
returns-in-Ok-lowered-clause-laid g c =
    let laid = layouts_asked c.args.options (program_of c.args.typed.now) in
    let C : LoweredParts → Type 0 = λ l. l.code.laid ≡ laid in
    let P : Result RunEnd Stop → Type 0 = λ r. IfOk r (OnRan (λ ran. C ran.lowered)) in
    subst P (sym c.ended.ensures) (ended_code c.in-Ok-lowered.lowered c.run_on-left.result C c.in-Ok-lowered.ensures.laid)

pub returns-in-Ok-lowered-clause-stop : goal.returns-in-Ok-lowered-clause-stop
returns-in-Ok-lowered-clause-stop g c =
    let p = program_of c.args.typed.now in
    let P : Result RunEnd Stop → Type 0 = λ r. IfErr r (IsRunStop p c.args.names.now c.args.file.now) in
    subst P (sym c.ended.ensures) (ended_stop c.in-Ok-lowered.lowered c.run_on-left.result p c.args.names.now c.args.file.now)

pub returns-in-Ok-lowered-clause-only : goal.returns-in-Ok-lowered-clause-only
returns-in-Ok-lowered-clause-only g c = λ v is.
    let p = program_of c.args.typed.now in
    let o = c.args.options in
    let made = c.in-Ok-lowered.ensures in
    let l = c.in-Ok-lowered.lowered in
    let P : Result RunEnd Stop → Type 0 = λ r.
    MatchResult r (OnEnd (λ ran. IsRootOf ran.lowered.code.laid (cells_of ran.memory) (output_type p) (run p o.depth v) ran.root) (Lacks (run p o.depth v) o.chunks (program_cost p o (run_forks o) v))) (λ why. why ≡ Memory) in
    subst P (sym c.ended.ensures)
    (ended_only {names = c.args.names.now} p o (run_forks o) c.args.file.now c.in-Ok.survey l (record { core = made.core; means = made.means; laid = made.laid })
    c.payload-packed.ensures.packed c.in-Ok.ensures.file c.one_file.ensures.value v is c.run_on-left.result c.run_on-left.ensures.root c.run_on-left.ensures.halts)
