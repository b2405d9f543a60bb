use Rattle.std.proofs.Common.{◌≡◌, ◌≤◌, ◌+◌, ◌*◌, ◌++◌, length, map}
use Rattle.gib_packed.specs.Head.{addresses}
use Rattle.gib_machine.specs.State.{slot}
use Rattle.gib_machine.proofs.placing.push_slots.Given as goal

abbrev pub invariant-places : goal.invariant-places
invariant-places l = record {
  same : l.item.left ++ addresses (map (slot l.frames.words) l.rest) ≡ l.fn.item.left ++ addresses (map (slot l.frames.words) l.fn.packed);
  room : l.item.room + 8 * length l.fn.packed ≡ l.fn.item.room + 8 * length l.rest;
  enough : 8 * length l.rest ≤ l.item.room;
}

abbrev pub decreases-places : goal.decreases-places
decreases-places l = length l.rest
