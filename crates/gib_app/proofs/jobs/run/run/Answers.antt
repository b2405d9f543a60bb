use Rattle.std.proofs.Common.{◌≡◌, ◌≤◌, sym, subst, arith}
use Rattle.std.proofs.lemmas.Result.{IfOk-at_ok, MatchResult-at_err}
use Rattle.gib_types.specs.Table.{Table}
use Rattle.gib_value.specs.Text.{AreHeld}
use Rattle.gib_lower.specs.Lowering.{lower_program}
use Rattle.gib_arena.specs.Sole.{sole_memory}
use Rattle.gib_syntax.specs.Parts.{program_of}
use Rattle.gib_app.specs.declared.machine_run.RunEnd.{RunEnd}
use Rattle.gib_app.specs.declared.made.End.{End}
use Rattle.gib_app.specs.Cores.{core_asked, layouts_asked}
use Rattle.gib_app.specs.Jobs.{RunsBoth, run_forks}
use Rattle.gib_app.specs.Kept.{file_of}
use Rattle.gib_app.specs.MachineRun.{IsRunEnd, OnRan}
use Rattle.gib_app.specs.Remains.{ComesOfMemory}
use Rattle.gib_app.specs.Stops.{IsRunStop}
use Rattle.gib_app.proofs.Doing.{lacks_runs}
use Rattle.gib_app.proofs.Imaged.{memory_stops}
use Rattle.gib_app.proofs.PackedRuns.{both_without, runs_valueless}
use Rattle.gib_app.proofs.Remaining.{is_left, lacks_comes}
use Rattle.gib_app.proofs.jobs.run.run.Goals as goal

-- ---- It leaves a value

pub finish_run-requires-clause-names : goal.finish_run-requires-clause-names
finish_run-requires-clause-names g c κs within =
    let p = program_of c.args.compiled.typed in
    let names = c.args.compiled.names in
    let o = c.args.options in
    let input = c.args.input.now in
    let S : RunEnd → Type 0 = IsRunEnd (core_asked o p) p names o.depth (run_forks o) o.chunks input in
    let stands = subst S c.in-Value.is (IfOk-at_ok S c.in-Ok.is c.run_packed-ended.ensures.stands) in
    let H : Table → Type 0 = λ t. AreHeld t names.short in
    subst H (sym stands.table) c.requires.ready.held

pub finish_run-requires-clause-stands : goal.finish_run-requires-clause-stands
finish_run-requires-clause-stands g c κs within =
    let p = program_of c.args.compiled.typed in
    let names = c.args.compiled.names in
    let o = c.args.options in
    let input = c.args.input.now in
    let S : RunEnd → Type 0 = IsRunEnd (core_asked o p) p names o.depth (run_forks o) o.chunks input in
    (record { program = p; depth = o.depth; input = input; meant = subst S c.in-Value.is (IfOk-at_ok S c.in-Ok.is c.run_packed-ended.ensures.stands) }, c.output_type-ty.ensures)

pub finish_run-requires-clause-few : goal.finish_run-requires-clause-few
finish_run-requires-clause-few g c κs within =
    let M : RunEnd → Type 0 = OnRan (λ ran. (sole_memory ran.memory).limit ≤ c.args.options.chunks) in
    let same = subst M c.in-Value.is (IfOk-at_ok M c.in-Ok.is c.run_packed-ended.ensures.limit) in
    let most = c.requires.range.chunks_most in
    omega (arith, same, most)

pub returns-in-Value-clause-made : goal.returns-in-Value-clause-made
returns-in-Value-clause-made g c =
    let p = program_of c.args.compiled.typed in
    let names = c.args.compiled.names in
    let o = c.args.options in
    let input = c.args.input.now in
    let S : RunEnd → Type 0 = IsRunEnd (core_asked o p) p names o.depth (run_forks o) o.chunks input in
    let L : RunEnd → Type 0 = OnRan (λ ran. ran.lowered.code.laid ≡ layouts_asked o p) in
    let M : RunEnd → Type 0 = OnRan (λ ran. (sole_memory ran.memory).limit ≤ o.chunks) in
    c.finish_run.ensures.made p input c.output_type-ty.ensures (subst L c.in-Value.is (IfOk-at_ok L c.in-Ok.is c.run_packed-ended.ensures.laid)) (subst M c.in-Value.is (IfOk-at_ok M c.in-Ok.is c.run_packed-ended.ensures.limit)) (subst S c.in-Value.is (IfOk-at_ok S c.in-Ok.is c.run_packed-ended.ensures.stands))

pub returns-in-Value-clause-region : goal.returns-in-Value-clause-region
returns-in-Value-clause-region g c =
    let p = program_of c.args.compiled.typed in
    let names = c.args.compiled.names in
    let o = c.args.options in
    let input = c.args.input.now in
    let S : RunEnd → Type 0 = IsRunEnd (core_asked o p) p names o.depth (run_forks o) o.chunks input in
    let C : RunEnd → Type 0 = OnRan (λ ran. ran.lowered.code ≡ lower_program (core_asked o p)) in
    let M : RunEnd → Type 0 = OnRan (λ ran. (sole_memory ran.memory).limit ≤ o.chunks) in
    c.finish_run.ensures.region p input
    (is_left p names o input (record { ran = c.in-Value.ran; names = names }) (subst C c.in-Value.is (IfOk-at_ok C c.in-Ok.is c.run_packed-ended.ensures.code)) (subst M c.in-Value.is (IfOk-at_ok M c.in-Ok.is c.run_packed-ended.ensures.limit)) (subst S c.in-Value.is (IfOk-at_ok S c.in-Ok.is c.run_packed-ended.ensures.stands)))

pub returns-in-Value-clause-stop : goal.returns-in-Value-clause-stop
returns-in-Value-clause-stop g c = memory_stops c.finish_run.result (program_of c.args.compiled.typed) c.args.compiled.names c.args.input.now c.finish_run.ensures.memory

-- ---- It stops

pub returns-in-Err-clause-stop : goal.returns-in-Err-clause-stop
returns-in-Err-clause-stop g c =
    MatchResult-at_err _ (IsRunStop (program_of c.args.compiled.typed) c.args.compiled.names c.args.input.now) _ c.in-Err.is c.run_packed-ended.ensures.stop

-- ---- It leaves none

pub returns-clause-made : goal.returns-clause-made
returns-clause-made g c =
    let p = program_of c.args.compiled.typed in
    let names = c.args.compiled.names in
    let o = c.args.options in
    let input = c.args.input.now in
    let S : RunEnd → Type 0 = IsRunEnd (core_asked o p) p names o.depth (run_forks o) o.chunks input in
    let why = c.in-NoValue.reason in
    both_without c.no_value.result why (RunsBoth p names o input) c.no_value.ensures.file c.no_value.ensures.packed c.no_value.ensures.end (runs_valueless p names o input why (lacks_runs p names o input why (subst S c.in-NoValue.is (IfOk-at_ok S c.in-Ok.is c.run_packed-ended.ensures.stands))))

pub returns-clause-region : goal.returns-clause-region
returns-clause-region g c =
    let p = program_of c.args.compiled.typed in
    let names = c.args.compiled.names in
    let o = c.args.options in
    let input = c.args.input.now in
    let S : RunEnd → Type 0 = IsRunEnd (core_asked o p) p names o.depth (run_forks o) o.chunks input in
    let file = file_of c.no_value.result in
    let Q : End → Type 0 = ComesOfMemory p names o input file in
    subst Q (sym c.no_value.ensures.end) (lacks_comes p names o input file c.in-NoValue.reason (subst S c.in-NoValue.is (IfOk-at_ok S c.in-Ok.is c.run_packed-ended.ensures.stands)))
