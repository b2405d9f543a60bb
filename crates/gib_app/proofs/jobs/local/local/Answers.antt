use Rattle.std.proofs.Common.{◌≡◌, ◌≤◌, Option, MatchOption, sym, subst}
use Rattle.gib_types.specs.Table.{Table}
use Rattle.gib_value.specs.Text.{AreHeld}
use Rattle.gib_lower.specs.Lowering.{lower_program}
use Rattle.gib_arena.specs.Sole.{sole_memory}
use Rattle.gib_core.specs.Parts.{core_of}
use Rattle.gib_core.specs.Tree.{CoreTree}
use Rattle.gib_app.specs.declared.machine_run.RunEnd.{RunEnd}
use Rattle.gib_app.specs.declared.made.End.{End}
use Rattle.gib_app.specs.declared.made.Valued.{Valued}
use Rattle.gib_app.specs.Jobs.{RunsLocated, run_forks}
use Rattle.gib_app.specs.MachineRun.{IsRunEnd, OnRan}
use Rattle.gib_app.specs.Remains.{ComesOfCore, IsLeftBy}
use Rattle.gib_app.proofs.Doing.{ends_without, lacks_located}
use Rattle.gib_app.proofs.Imaged.{located_ends}
use Rattle.gib_app.proofs.jobs.local.local.Goals as goal

-- ---- It leaves a value

pub returns-in-Value-clause-made : goal.returns-in-Value-clause-made
returns-in-Value-clause-made g c = λ p located runs.
    let core = core_of c.args.located.core in
    let names = c.args.located.names in
    let o = c.args.options in
    let input = c.args.input.now in
    let S : RunEnd → Type 0 = IsRunEnd core p.tree names o.depth (run_forks o) o.chunks input in
    let stands = subst S c.in-Value.is (c.in-Ok.ensures.stands p.tree runs) in
    let H : Table → Type 0 = λ t. AreHeld t names.short in
    located_ends p o input (record { ran = c.in-Value.ran; names = names }) (subst H (sym stands.table) runs.held) stands

pub returns-in-Value-clause-region : goal.returns-in-Value-clause-region
returns-in-Value-clause-region g c = λ p located runs.
    let core = core_of c.args.located.core in
    let names = c.args.located.names in
    let o = c.args.options in
    let input = c.args.input.now in
    let S : RunEnd → Type 0 = IsRunEnd core p.tree names o.depth (run_forks o) o.chunks input in
    let C : RunEnd → Type 0 = OnRan (λ ran. ran.lowered.code ≡ lower_program core) in
    let M : RunEnd → Type 0 = OnRan (λ ran. (sole_memory ran.memory).limit ≤ o.chunks) in
    let value : Valued = record { ran = c.in-Value.ran; names = names } in
    let P : Option CoreTree → Type 0 = λ x. MatchOption x ⊥ (λ y. IsLeftBy y p.tree names o input value) in
    let left : IsLeftBy core p.tree names o input value = record {
      code = subst C c.in-Value.is c.in-Ok.ensures.code;
      stands = subst S c.in-Value.is (c.in-Ok.ensures.stands p.tree runs);
      limit = subst M c.in-Value.is c.in-Ok.ensures.limit;
    } in
    subst P (sym located) left

-- ---- It leaves none

pub returns-clause-made : goal.returns-clause-made
returns-clause-made g c = λ p located runs.
    let core = core_of c.args.located.core in
    let names = c.args.located.names in
    let o = c.args.options in
    let input = c.args.input.now in
    let S : RunEnd → Type 0 = IsRunEnd core p.tree names o.depth (run_forks o) o.chunks input in
    let why = c.in-NoValue.reason in
    ends_without c.no_value.result why (RunsLocated p names o input) c.no_value.ensures.file c.no_value.ensures.end (lacks_located core p names o input located why (subst S c.in-NoValue.is (c.in-Ok.ensures.stands p.tree runs)))

pub returns-clause-region : goal.returns-clause-region
returns-clause-region g c = λ p located runs.
    let Q : End → Type 0 = ComesOfCore p c.args.located.names c.args.options c.args.input.now in
    subst Q (sym c.no_value.ensures.end) (tt {0})
