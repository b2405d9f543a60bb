use Rattle.std.proofs.Common.{◌≡◌, ◌≤◌, ◌-◌, drop, length}
use Rattle.gib_types.specs.Layout.{is_among, numbers_of}
use Rattle.gib_types.proofs.layouts.is_listed.Given as goal

abbrev pub invariant-cons : goal.invariant-cons
invariant-cons l = record {
  within : l.i ≤ length l.cons;
  same : is_among (numbers_of l.cons) l.con ≡ is_among (numbers_of (drop l.i l.cons)) l.con;
}

abbrev pub decreases-cons : goal.decreases-cons
decreases-cons l = length l.cons - l.i
