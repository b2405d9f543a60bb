use Rattle.gib_packed.proofs.Examples.{place_0, place_9, place_18, place_28, place_37, place_38}
use Rattle.gib_unit_tests.proofs.packed.heads_redirects_and_indirections_are_read.Goals as goal

pub reads-requires : goal.reads-requires
reads-requires g c = place_0

pub reads-requires-2 : goal.reads-requires-2
reads-requires-2 g c = place_9

pub reads-requires-3 : goal.reads-requires-3
reads-requires-3 g c = place_18

pub reads-requires-4 : goal.reads-requires-4
reads-requires-4 g c = place_28

pub reads-requires-5 : goal.reads-requires-5
reads-requires-5 g c = place_37

pub reads-requires-6 : goal.reads-requires-6
reads-requires-6 g c = place_38
