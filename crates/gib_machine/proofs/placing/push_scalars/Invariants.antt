use Rattle.std.proofs.Common.{◌≡◌, ◌≤◌, ◌*◌, ◌++◌, length}
use Rattle.gib_types.specs.Table.{scalar_types}
use Rattle.gib_machine.specs.State.{words}
use Rattle.gib_machine.specs.Machine.{scalar_bytes}
use Rattle.gib_machine.proofs.placing.push_scalars.Given as goal

abbrev pub invariant-fields : goal.invariant-fields
invariant-fields l = record {
  same : l.item.left ++ scalar_bytes (scalar_types l.types) (words l.frames.words l.rest) ≡ l.fn.item.left ++ scalar_bytes (scalar_types l.fn.fields) (words l.frames.words l.fn.scalars);
  enough : 8 * length l.types ≤ l.item.room;
}

abbrev pub decreases-fields : goal.decreases-fields
decreases-fields l = length l.types
