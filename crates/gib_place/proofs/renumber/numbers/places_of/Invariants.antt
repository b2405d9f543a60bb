use Rattle.std.proofs.Common.{◌≡◌, ◌≤◌, ℕ, length, drop}
use Rattle.gib_base.specs.Entries.{entry_at}
use Rattle.gib_place.specs.Numbered.{place_from}
use Rattle.gib_place.proofs.renumber.numbers.places_of.Given as goal

abbrev pub invariant-order : goal.invariant-order
invariant-order l = (l.i ≤ length l.order) × ((x : ℕ) → entry_at l.places x ≡ place_from l.i (drop l.i l.order) x)

abbrev pub decreases-order : goal.decreases-order
decreases-order l = l.i
