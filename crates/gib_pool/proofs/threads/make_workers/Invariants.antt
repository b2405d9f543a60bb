use Rattle.std.proofs.Common.{◌≡◌, ◌-◌, ◌<◌, ◌≤◌, ℕ, [], length}
use Rattle.gib_pool.specs.Victims.{deques, victims, in_turn}
use Rattle.gib_pool.proofs.threads.make_workers.Given as goal

abbrev pub invariant-made : goal.invariant-made
invariant-made l = (length l.workers.items ≡ l.step) × ((q : ℕ) → victims l.workers.items q ≡ [])

abbrev pub invariant-stealing : goal.invariant-stealing
invariant-stealing l = record {
  long : length l.workers.items ≡ l.made;
  have : (q : ℕ) → q < l.place → victims l.workers.items q ≡ in_turn (deques l.workers.items) q (l.made - 1);
  lack : (q : ℕ) → l.place ≤ q → victims l.workers.items q ≡ [];
}
