use Rattle.std.proofs.Common.{length}
use Rattle.gib_transcode.specs.Going.{Walks}
use Rattle.gib_transcode.proofs.walk.payload_of.Given as goal

abbrev pub invariant-bytes : goal.invariant-bytes
invariant-bytes l = Walks l.types l.names.short l.fn.ty l.fn.text l.top l.making.outer.items l.rest l.making.out.items

abbrev pub decreases-bytes : goal.decreases-bytes
decreases-bytes l = length l.rest
