use Rattle.gib_place.proofs.Programs.{core_placed, parts_inside}
use Rattle.gib_place.proofs.placed.Goals as goal

pub returns : goal.returns
returns c =
    let into = c.into_parts-types in
    core_placed c.args.core c.new.result into.result.0 into.result.1 c.new-made.result c.place_main.new.made c.place_functions.new.made into.result.2.items c.in_ok-functions.functions.items into.result.3 c.in_ok-main.main into.result.4.items into.result.5 into.ensures.types into.ensures.terms into.ensures.functions into.ensures.main into.ensures.offsets into.ensures.marked c.new.ensures c.in_ok-main.ensures c.in_ok-functions.ensures

pub new-requires : goal.new-requires
new-requires c =
    let into = c.into_parts-types in
    parts_inside c.args.core into.result.0 into.result.1 into.result.2.items into.result.3 c.new-made.result c.place_main.new.made c.place_functions.new.made c.in_ok-functions.functions.items c.in_ok-main.main into.result.4.items into.result.5 into.ensures.inside into.ensures.types into.ensures.functions into.ensures.main c.in_ok-main.ensures c.in_ok-functions.ensures
