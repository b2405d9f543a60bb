use Rattle.std.proofs.Common.{◌≡◌, ◌≤◌, sym, subst}
use Rattle.gib_lower.specs.Lowering.{lower_program}
use Rattle.gib_arena.specs.Sole.{sole_memory}
use Rattle.gib_syntax.specs.Parts.{program_of}
use Rattle.gib_app.specs.declared.machine_run.RunEnd.{RunEnd}
use Rattle.gib_app.specs.declared.made.End.{End}
use Rattle.gib_app.specs.Cores.{core_asked}
use Rattle.gib_app.specs.Jobs.{Sums, run_forks}
use Rattle.gib_app.specs.MachineRun.{IsRunEnd, OnRan}
use Rattle.gib_app.specs.Remains.{SumsMemory}
use Rattle.gib_app.proofs.Doing.{ends_without, lacks_sums}
use Rattle.gib_app.proofs.Imaged.{memory_stops}
use Rattle.gib_app.proofs.Remaining.{is_left}
use Rattle.gib_app.proofs.jobs.made_run.made_run.Goals as goal

-- ---- It leaves a value

pub line_made-requires : goal.line_made-requires
line_made-requires g c =
    let p = program_of c.args.request.compiled.now.typed in
    let names = c.args.request.compiled.now.names in
    let o = c.args.request.options in
    let input = c.args.request.input.now in
    let S : RunEnd → Type 0 = IsRunEnd (core_asked o p) p names o.depth (run_forks o) o.chunks input in
    record { stands = (names, record { program = p; depth = o.depth; input = input; meant = subst S c.in-Value.is c.in-Ok.ensures.stands }) }

pub returns-in-Value-clause-made : goal.returns-in-Value-clause-made
returns-in-Value-clause-made g c =
    let p = program_of c.args.request.compiled.now.typed in
    let names = c.args.request.compiled.now.names in
    let o = c.args.request.options in
    let input = c.args.request.input.now in
    let S : RunEnd → Type 0 = IsRunEnd (core_asked o p) p names o.depth (run_forks o) o.chunks input in
    c.line_made.ensures.made p names input (subst S c.in-Value.is c.in-Ok.ensures.stands)

pub returns-in-Value-clause-region : goal.returns-in-Value-clause-region
returns-in-Value-clause-region g c =
    let p = program_of c.args.request.compiled.now.typed in
    let names = c.args.request.compiled.now.names in
    let o = c.args.request.options in
    let input = c.args.request.input.now in
    let S : RunEnd → Type 0 = IsRunEnd (core_asked o p) p names o.depth (run_forks o) o.chunks input in
    let C : RunEnd → Type 0 = OnRan (λ ran. ran.lowered.code ≡ lower_program (core_asked o p)) in
    let M : RunEnd → Type 0 = OnRan (λ ran. (sole_memory ran.memory).limit ≤ o.chunks) in
    c.line_made.ensures.region p names input
    (is_left p names o input (record { ran = c.in-Value.ran; names = names }) (subst C c.in-Value.is c.in-Ok.ensures.code) (subst M c.in-Value.is c.in-Ok.ensures.limit) (subst S c.in-Value.is c.in-Ok.ensures.stands))

pub returns-in-Value-clause-stop : goal.returns-in-Value-clause-stop
returns-in-Value-clause-stop g c = memory_stops c.line_made.result (program_of c.args.request.compiled.now.typed) c.args.request.compiled.now.names c.args.request.input.now c.line_made.ensures.memory

-- ---- It leaves none

pub returns-in-NoValue-clause-made : goal.returns-in-NoValue-clause-made
returns-in-NoValue-clause-made g c =
    let p = program_of c.args.request.compiled.now.typed in
    let names = c.args.request.compiled.now.names in
    let o = c.args.request.options in
    let input = c.args.request.input.now in
    let S : RunEnd → Type 0 = IsRunEnd (core_asked o p) p names o.depth (run_forks o) o.chunks input in
    let why = c.in-NoValue.reason in
    ends_without c.no_value.result why (Sums p names o input) c.no_value.ensures.file c.no_value.ensures.end (lacks_sums p names o input why (subst S c.in-NoValue.is c.in-Ok.ensures.stands))

pub returns-in-NoValue-clause-region : goal.returns-in-NoValue-clause-region
returns-in-NoValue-clause-region g c =
    let Q : End → Type 0 = SumsMemory (program_of c.args.request.compiled.now.typed) c.args.request.compiled.now.names c.args.request.options c.args.request.input.now in
    subst Q (sym c.no_value.ensures.end) (tt {0})
