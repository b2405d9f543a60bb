-- What is there stands in a chunk that was seen drawn.
use Rattle.std.proofs.Common.{◌≡◌, ◌≢◌, ℕ, ◌*◌, ◌<◌, ◌≤◌, sym, ◌∙◌, arith, inl, inr}
use Rattle.std.proofs.lemmas.Bool.Decides.{leb_tells}
use Rattle.gib_mem.specs.Memory.{Cell, Memory, absent, fresh, byte, open_chunk, Grows}
use Rattle.gib_mem.proofs.Puts.{open_before}
use Rattle.gib_region.specs.Leaving.{IsBounded}

-- what is there stands in a chunk that was seen drawn
pub there_below : (m : Memory) (q : ℕ) (c : Cell) → IsBounded m → m.cells q ≡ c → c ≢ absent → q < 4096 * m.drawn
there_below m q c b e ne = elim (leb_tells (4096 * m.drawn) q) [
  | inl high ↦ (let f = b.above q high.1 in absurd (ne (sym e ∙ f)))
  | inr low ↦ low.1
]

pub fresh_there : fresh ≢ absent
fresh_there e = cc

pub byte_there : (b : ℕ) → byte b ≢ absent
byte_there b e = cc

pub draw_grows : (m : Memory) (c : ℕ) → IsBounded m → m.drawn ≤ c → Grows m.cells (open_chunk m.cells c)
draw_grows m c bounded le = record {
  kept = λ q b e.
      let below = there_below m q (byte b) bounded e (byte_there b) in
      open_before m.cells c q (omega arith) ∙ e;
}
