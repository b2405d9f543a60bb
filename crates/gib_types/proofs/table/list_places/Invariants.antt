use Rattle.std.proofs.Common.{◌-◌, ◌≡◌, ◌≤◌, ◌<◌, ℕ, length, slice_get, Some}
use Rattle.gib_base.specs.Entries.{entry_at}
use Rattle.gib_types.specs.declared.table.Constructor.{Constructor}
use Rattle.gib_types.specs.Index.{HasName}
use Rattle.gib_types.proofs.table.list_places.Given as goal

abbrev pub invariant-constructors : goal.invariant-constructors
invariant-constructors l =
    (l.con ≤ length l.constructors) × ((i : ℕ) (c : Constructor) → i < l.con → slice_get l.constructors i ≡ Some c → entry_at l.places c.name.0 ≡ Some i)
    × ((name k : ℕ) → entry_at l.places name ≡ Some k → HasName l.constructors k name)

abbrev pub decreases-constructors : goal.decreases-constructors
decreases-constructors l = length l.constructors - l.con
