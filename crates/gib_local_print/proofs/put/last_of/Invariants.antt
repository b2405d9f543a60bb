use Rattle.std.proofs.Common.{◌≡◌, length}
use Rattle.gib_local_print.specs.Printing.{last_of}
use Rattle.gib_local_print.proofs.put.last_of.Given as goal

abbrev pub invariant-more : goal.invariant-more
invariant-more l = last_of l.last l.rest ≡ last_of l.fn.first l.fn.more

abbrev pub decreases-more : goal.decreases-more
decreases-more l = length l.rest
