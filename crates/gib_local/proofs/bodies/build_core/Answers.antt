use Rattle.std.proofs.Common.{Ok, rules, sym, ap, ◌∙◌}
use Rattle.gib_core.specs.Parts.{Parts, core_of}
use Rattle.gib_local.proofs.Adding.{given}
use Rattle.gib_local.proofs.Bodying.{all_inside, core_made, core_functions, core_main}
use Rattle.gib_local.proofs.bodies.build_core.Goals as goal

pub new-requires : goal.new-requires
new-requires c =
    all_inside c.args.source.now c.new-builder.result c.functions.new.builder c.main.new.builder c.in_ok-types.types c.in_ok-functions.functions.items c.in_ok-main.main c.in_ok-offsets.offsets.items _ (c.in_ok-types.ensures ∙ c.table.ensures) c.in_ok-functions.ensures c.in_ok-main.ensures

pub returns : goal.returns
returns c =
    core_made c.args.source.now c.new-builder.result c.functions.new.builder c.main.new.builder c.in_ok-types.types c.in_ok-functions.functions.items c.in_ok-main.main c.in_ok-offsets.offsets.items (c.in_ok-types.ensures ∙ c.table.ensures) c.in_ok-functions.ensures c.in_ok-main.ensures c.in_ok-offsets.ensures
    ∙ ap (λ (p : Parts). given (core_of p)) (sym c.new.ensures)

pub returns-in_err-functions : goal.returns-in_err-functions
returns-in_err-functions c =
    let h = core_functions c.args.source.now c.in_err-functions.field-0.0 c.in_err-functions.ensures in
    search rules

pub returns-in_err-main : goal.returns-in_err-main
returns-in_err-main c =
    let h = core_main c.args.source.now c.in_err-main.field-0.0 c.new-builder.result c.functions.new.builder c.in_ok-functions.functions.items c.in_ok-functions.ensures c.in_err-main.ensures in
    search rules
