use Rattle.std.proofs.Common.{◌≡◌, ◌≤◌, ◌<◌, ◌-◌, ◌+◌, ◌*◌, ◌^◌, ℕ, length, drop, true}
use Rattle.gib_mem.specs.Memory.{Memory}
use Rattle.gib_load.specs.Rest.{Rest, AreOpen, all_of}
use Rattle.gib_load.proofs.loading.note_rest.Given as goal

abbrev pub invariant-rest : goal.invariant-rest
invariant-rest g l = record {
  within : l.at ≤ length l.payload;
  noting : l.due.noting ≡ true;
  was : l.fn.due.noting ≡ true;
  room : l.due.room ≡ l.fn.due.room;
  inside : l.spot.at < 4096 * l.spot.drawn;
  small : l.spot.drawn ≤ 2 ^ 32 + l.at;
  clear : (at : ℕ) × AreOpen (g.M.Mem.view l.mem) at l.due.gaps;
  some : (target : Memory) × (r : Rest l.layouts l.fn.due.noting (record { at = l.spot.at; drawn = l.spot.drawn }) (g.M.Mem.view l.mem) (drop l.at l.payload) l.due.gaps target)
      × (length (all_of r.forest) ≤ l.due.room);
  rest : (target : Memory) → Rest l.layouts l.fn.due.noting (record { at = l.fn.start; drawn = (g.M.Mem.view l.fn.mem).drawn }) (g.M.Mem.view l.fn.mem) l.payload l.fn.due.gaps target
      → Rest l.layouts l.fn.due.noting (record { at = l.spot.at; drawn = l.spot.drawn }) (g.M.Mem.view l.mem) (drop l.at l.payload) l.due.gaps target;
}

abbrev pub decreases-rest : goal.decreases-rest
decreases-rest g l = length l.payload - l.at
