use Rattle.std.proofs.Common.{◌∙◌, ap}
use Rattle.gib_mem.specs.Plain.{plain_memory, plain_bounded}
use Rattle.gib_code.specs.Program.{CodeTree}
use Rattle.gib_load.specs.declared.loading.LoadFault.TheVariants as fault
use Rattle.gib_locked.specs.declared.loaded.Loaded.{Loaded}
use Rattle.gib_packed.specs.declared.root.Root.{Root}
use Rattle.gib_app.proofs.Loads.{input_loaded, input_limit, input_over, same_fault}
use Rattle.gib_app.proofs.loading.load_input.Goals as goal

pub returns-in-Ok-load-clause-loaded : goal.returns-in-Ok-load-clause-loaded
returns-in-Ok-load-clause-loaded c =
    let laid = c.layouts-layouts.ensures ∙ ap (λ (x : CodeTree). x.laid) c.code.ensures.value in
    let from = c.in-Ok.memory in
    let m = c.load.new.mem in
    input_loaded c.args.lowered.now c.layouts-layouts.result.now c.args.survey c.args.chunks (plain_memory from.bytes.items from.drawn from.limit) (plain_memory m.bytes.items m.drawn m.limit)
    laid c.requires.table c.in-Ok.ensures c.in-Ok-load.root c.load.new.tails c.requires.ty (plain_bounded m.bytes.items m.drawn m.limit m.plain) c.in-Ok-load.ensures.placed c.in-Ok-load.ensures.holds

pub returns-in-Ok-load-clause-limit : goal.returns-in-Ok-load-clause-limit
returns-in-Ok-load-clause-limit c =
    let laid = c.layouts-layouts.ensures ∙ ap (λ (x : CodeTree). x.laid) c.code.ensures.value in
    let packed = c.payload-packed.ensures.packed in
    let from = c.in-Ok.memory in
    let m = c.load.new.mem in
    input_limit c.args.lowered.now c.layouts-layouts.result.now c.args.survey c.args.chunks (plain_memory from.bytes.items from.drawn from.limit) (plain_memory m.bytes.items m.drawn m.limit)
    laid c.requires.table c.in-Ok.ensures c.in-Ok-load.root c.load.new.tails c.in-Ok-load.ensures.placed packed.0 packed.1

pub returns-in-Err-load-clause-full : goal.returns-in-Err-load-clause-full
returns-in-Err-load-clause-full c = λ e.
    let laid = c.layouts-layouts.ensures ∙ ap (λ (x : CodeTree). x.laid) c.code.ensures.value in
    let from = c.in-Ok.memory in
    let m = c.load.new.mem in
    let full = same_fault {A = Loaded} {B = Root} c.in-Err-load.fault fault.Full e in
    input_over c.args.lowered.now c.layouts-layouts.result.now c.args.survey c.args.chunks (plain_memory from.bytes.items from.drawn from.limit) (plain_memory m.bytes.items m.drawn m.limit)
    laid c.requires.table c.in-Ok.ensures c.refused_loads_do_not_go_in.ensures (c.in-Err-load.ensures.full full) (c.in-Err-load.ensures.spent full)
