use Rattle.std.proofs.Common.{◌≡◌, ◌++◌, length}
use Rattle.gib_transcode.specs.Rooms.{room}
use Rattle.gib_transcode.proofs.put.leave_room.Given as goal

abbrev pub invariant-fields : goal.invariant-fields
invariant-fields l = l.out.items ++ room l.rest ≡ l.fn.out.items ++ room l.fn.fields

abbrev pub decreases-fields : goal.decreases-fields
decreases-fields l = length l.rest
