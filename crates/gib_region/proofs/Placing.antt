-- What placing an item leaves.
use Rattle.std.proofs.Common.{◌≡◌, ℕ, ◌+◌, ◌*◌, ◌≤◌, refl, ◌∙◌, arith, inl, inr}
use Rattle.gib_mem.specs.Memory.{Memory, fresh, after_draw, Owned}
use Rattle.gib_region.specs.Region.{rest, Behind, pointer, Placed, here, turned}
use Rattle.gib_region.specs.Leaving.{IsBounded, Leaves}
use Rattle.gib_mem.proofs.Puts.{puts_past, puts_hold, puts_grow, open_before, open_in}
use Rattle.gib_region.proofs.Bounds.{there_below, fresh_there, draw_grows}

pub leaves : (m : Memory) (at k : ℕ) (m' : Memory) (a : ℕ) → IsBounded m → Behind m.cells at → 9 ≤ rest at → k ≤ 65 → Placed m at k m' a → Leaves m m' at k a
leaves m at k _ _ bounded b nine le (here room) =
    let first = b.owned.all at (omega arith) (omega arith) in
    let below = there_below m at fresh bounded first fresh_there in
    let same : rest (at + k) + k ≡ rest at = omega arith in
    record {
      owned = record { all = λ q x y. b.owned.all q x (omega arith) };
      behind = record { all = λ q x y. b.owned.all q (omega arith) (omega arith) };
      redirect_fits = omega arith;
      grows = record { kept = λ q b e. e };
      led = inl refl;
      small = omega (arith, bounded.order, bounded.small);
    }
leaves m at k _ _ bounded b nine le (turned {c = c} full draws) =
    let first = b.owned.all at (omega arith) (omega arith) in
    let below = there_below m at fresh bounded first fresh_there in
    let end : at + rest at ≤ 4096 * c = omega (arith, draws.order) in
    let same : rest (4096 * c + k) + k ≡ 4096 = omega arith in
    let m1 = after_draw m c in
    let own : Owned m1.cells at 9 = record { all = λ q x y. open_before m.cells c q (omega arith) ∙ b.owned.all q x (omega arith) } in
    let grown = puts_grow m1 at (pointer 255 (4096 * c)) own in
    let drawn = draw_grows m c bounded draws.order in
    record {
      owned = record { all = λ q x y. puts_past m1 at (pointer 255 (4096 * c)) q (omega arith) ∙ open_in m.cells c q x (omega arith) };
      behind = record { all = λ q x y. puts_past m1 at (pointer 255 (4096 * c)) q (omega arith) ∙ open_in m.cells c q (omega arith) (omega arith) };
      redirect_fits = omega arith;
      grows = record { kept = λ q b e. grown.kept q b (drawn.kept q b e) };
      led = inr (puts_hold m1 at (pointer 255 (4096 * c)));
      small = omega (arith, draws.within, bounded.small);
    }
