use Rattle.std.proofs.Common.{◌∙◌, Err, ap}
use Rattle.gib_arena.specs.Sole.{sole_memory}
use Rattle.gib_load.specs.declared.loading.LoadFault.{LoadFault}
use Rattle.gib_code.specs.Program.{CodeTree}
use Rattle.gib_app.specs.Jobs.{run_forks}
use Rattle.gib_app.proofs.Roots.{load_stops, loaded_limit, loaded_ran}
use Rattle.gib_app.proofs.machine_run.run_loaded.Goals as goal

pub returns-in-Ok-clause-ends : goal.returns-in-Ok-clause-ends
returns-in-Ok-clause-ends g c =
    let o = c.args.options in
    let laid = c.layouts-layouts.ensures ∙ ap (λ (x : CodeTree). x.laid) c.code.ensures.value in
    loaded_ran c.args.lowered.now c.layouts-layouts.result.now c.args.survey o.depth (run_forks o) (sole_memory c.args.memory) (sole_memory c.load.new.mem) (sole_memory c.run_code-end.result.1) c.in-Ok.root c.load.new.tails c.run_code-end.result.0 c.end_of.result
    laid c.requires.table c.requires.ty c.in-Ok.ensures.placed c.in-Ok.ensures.holds c.run_code-end.ensures.ends
    (λ v h. c.end_of.ensures c.args.lowered.now o.depth (run_forks o) v (sole_memory c.load.new.mem) (sole_memory c.run_code-end.result.1) h)

pub returns-in-Err-Full-clause-ends : goal.returns-in-Err-Full-clause-ends
returns-in-Err-Full-clause-ends g c =
    let o = c.args.options in
    let laid = c.layouts-layouts.ensures ∙ ap (λ (x : CodeTree). x.laid) c.code.ensures.value in
    load_stops c.args.lowered.now c.layouts-layouts.result.now c.args.survey o.depth (run_forks o) (sole_memory c.args.memory) (sole_memory c.load.new.mem)
    laid c.requires.table (c.in-Err-Full.ensures.full (ap (λ (f : LoadFault). Err f) c.in-Err-Full.field-0-is)) (c.in-Err-Full.ensures.spent (ap (λ (f : LoadFault). Err f) c.in-Err-Full.field-0-is))

pub returns-in-Ok-clause-limit : goal.returns-in-Ok-clause-limit
returns-in-Ok-clause-limit g c =
    let laid = c.layouts-layouts.ensures ∙ ap (λ (x : CodeTree). x.laid) c.code.ensures.value in
    let packed = c.payload-packed.ensures.packed in
    loaded_limit c.args.lowered.now c.layouts-layouts.result.now c.args.survey (sole_memory c.args.memory) (sole_memory c.load.new.mem) (sole_memory c.run_code-end.result.1) c.in-Ok.root c.load.new.tails c.end_of.result
    laid c.requires.table c.in-Ok.ensures.placed packed.0 packed.1 c.run_code-end.ensures.kept.limit
