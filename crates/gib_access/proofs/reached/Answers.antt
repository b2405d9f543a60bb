use Rattle.gib_access.proofs.Programs.{core_reached, parts_inside}
use Rattle.gib_access.proofs.reached.Goals as goal

pub returns : goal.returns
returns c =
    let into = c.into_parts-types in
    core_reached c.args.mode c.args.core c.new.result c.in_ok-ended.ended into.result.0 into.result.1 into.result.2.items c.in_ok-functions.functions.items into.result.3 c.in_ok-main.main c.offsets_kept-offsets.result.items c.tells_ends-marked.result c.new-work.result c.reach_main.new.work c.reach_functions.new.work
    c.in_ok-ended.ensures c.tells_ends-marked.ensures into.ensures.types into.ensures.terms into.ensures.functions into.ensures.main c.new-work.ensures.offsets c.new.ensures c.in_ok-main.ensures c.in_ok-functions.ensures c.offsets_kept-offsets.ensures

pub new-requires : goal.new-requires
new-requires c =
    let into = c.into_parts-types in
    parts_inside (record { mode = c.args.mode; table = into.result.0; ended = c.in_ok-ended.ended }) c.args.core into.result.0 into.result.1 into.result.2.items into.result.3 c.new-work.result c.reach_main.new.work c.reach_functions.new.work c.in_ok-functions.functions.items c.in_ok-main.main c.offsets_kept-offsets.result.items c.tells_ends-marked.result into.ensures.inside into.ensures.types into.ensures.functions into.ensures.main c.in_ok-main.ensures c.in_ok-functions.ensures
