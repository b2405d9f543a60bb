use Rattle.std.proofs.Common.{◌≡◌, ◌++◌, ◌+◌, ◌-◌, length, drop}
use Rattle.gib_core.specs.PartTypes.{types_in}
use Rattle.gib_lower.proofs.PartMoves.{slots_from}
use Rattle.gib_lower.proofs.parts.slots_at.Given as goal

abbrev pub invariant-types : goal.invariant-types
invariant-types l = record {
  at : l.slot ≡ l.fn.first.0 + l.place;
  made : l.slots.items ++ slots_from l.scalars l.slot (drop l.place (types_in l.types)) ≡ slots_from l.scalars l.fn.first.0 (types_in l.types);
}

abbrev pub decreases-types : goal.decreases-types
decreases-types l = length (types_in l.types) - l.place
