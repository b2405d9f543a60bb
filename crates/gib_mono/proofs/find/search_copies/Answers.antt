use Rattle.gib_syntax.specs.GenericParts.{generic_program_of}
use Rattle.gib_mono.proofs.Plains.{walk_begins}
use Rattle.gib_mono.proofs.find.search_copies.Goals as goal

pub walk-requires : goal.walk-requires
walk-requires c = walk_begins (generic_program_of c.args.source.now) c.len-plain.result c.add_plain.new.search c.ask_plain.new.search c.in_ok-add_plain.ensures c.len-plain.ensures.len c.in_ok-ask_plain.ensures
