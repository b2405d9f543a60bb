use Rattle.gib_local.specs.CountingSteps.{program_in}
use Rattle.gib_local_parse.specs.LineArena.{tree_of}
use Rattle.gib_local.proofs.Tallies.{arms_begin}
use Rattle.gib_local.proofs.counting.+counting.Goals as goal

pub arms-arms-init : goal.arms-arms-init
arms-arms-init t c = arms_begin (program_in c.args.known.now) (tree_of c.args.known.now.lines) c.args.below.0 c.args.tally.now c.args.arms.now c.requires.arms
