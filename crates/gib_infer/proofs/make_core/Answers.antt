use Rattle.std.proofs.Common.{◌∙◌}
use Rattle.gib_infer.proofs.Programs.{core_made}
use Rattle.gib_infer.proofs.TypesKnown.{parts_inside}
use Rattle.gib_infer.proofs.make_core.Goals as goal

pub returns : goal.returns
returns c =
    core_made c.args.typed.now _ c.make_functions.new.work c.make_main.new.work c.in_ok-types.types c.in_ok-functions.functions.items c.in_ok-main.main c.new-3.result.items c.new-core.result (c.in_ok-types.ensures ∙ c.types.ensures) c.in_ok-functions.ensures c.in_ok-main.ensures c.new-3.ensures.items c.new-core.ensures

pub new-core-requires : goal.new-core-requires
new-core-requires c =
    parts_inside c.args.typed.now _ c.make_functions.new.work c.make_main.new.work c.in_ok-types.types c.in_ok-functions.functions.items c.in_ok-main.main c.new-3.result.items (c.in_ok-types.ensures ∙ c.types.ensures) c.in_ok-functions.ensures c.in_ok-main.ensures
