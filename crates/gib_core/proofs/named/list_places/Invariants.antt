use Rattle.std.proofs.Common.{◌≡◌, ◌≤◌, ℕ, length, drop}
use Rattle.gib_core.specs.NamedFunctions.{entry_at, at_place, first_named}
use Rattle.gib_core.proofs.named.list_places.Given as goal

abbrev pub invariant-functions : goal.invariant-functions
invariant-functions l = (l.next ≤ length l.functions) × ((name : ℕ) → at_place l.functions (entry_at l.places name) ≡ first_named (drop l.next l.functions) name)

abbrev pub decreases-functions : goal.decreases-functions
decreases-functions l = l.next
