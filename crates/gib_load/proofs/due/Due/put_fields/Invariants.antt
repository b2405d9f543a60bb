use Rattle.std.proofs.Common.{◌-◌, ◌++◌, ◌≡◌, ◌≤◌, ◌+◌, length, true}
use Rattle.gib_load.specs.Gaps.{gaps_from}
use Rattle.gib_load.proofs.due.Due.put_fields.Given as goal

abbrev pub invariant-fields : goal.invariant-fields
invariant-fields l = record {
  within : l.i ≤ l.packed;
  noting : l.self.noting ≡ true;
  was : l.fn.self.noting ≡ true;
  room : l.self.room ≡ l.fn.self.room;
  gaps : l.self.gaps ≡ gaps_from l.stores l.base l.i (l.packed - l.i) ++ l.fn.self.gaps;
}

abbrev pub decreases-fields : goal.decreases-fields
decreases-fields l = l.i
