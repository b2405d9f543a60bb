use Rattle.std.proofs.Common.{◌≡◌, ◌≤◌, length, reverse, take}
use Rattle.gib_core.specs.Low.{field_of}
use Rattle.gib_lower.proofs.fields.field_of.Given as goal

abbrev pub invariant-items : goal.invariant-items
invariant-items l = record {
  within : l.i ≤ length l.items;
  left : field_of (reverse (take l.i l.items)) l.variable ≡ field_of (reverse l.items) l.variable;
}

abbrev pub decreases-items : goal.decreases-items
decreases-items l = l.i
