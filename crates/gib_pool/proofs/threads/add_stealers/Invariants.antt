use Rattle.std.proofs.Common.{◌≡◌, ◌≢◌, ◌-◌, ℕ, length}
use Rattle.gib_pool.specs.Victims.{deques, victims, in_turn}
use Rattle.gib_pool.proofs.threads.add_stealers.Given as goal

abbrev pub invariant-steps : goal.invariant-steps
invariant-steps l = record {
  same : deques l.workers.items ≡ deques l.fn.workers.items;
  turn : victims l.workers.items l.place ≡ in_turn (deques l.fn.workers.items) l.place l.step;
  others : (q : ℕ) → q ≢ l.place → victims l.workers.items q ≡ victims l.fn.workers.items q;
}
