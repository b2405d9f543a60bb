-- Bytes that are put at other addresses, and chunks that are drawn, in either order.
use Rattle.std.proofs.Common.{◌≡◌, ℕ, ◌+◌, ◌*◌, ◌<◌, ◌≤◌, List, [], ◌∷◌, length, nat_lt, refl, sym, ap, ◌∙◌, arith, eqb, Bool, true, false, cond}
use mathlib.Core.Path.{fun_ext}
use Rattle.std.proofs.lemmas.Bool.{eqb-true}
use Rattle.std.proofs.lemmas.Bool.Decides.{nat_tests}
use Rattle.gib_mem.specs.Memory.{Store, Cell, Memory, fresh, byte, set_cell, open_chunk, after_put, after_puts, after_draw}

set_swap : (s : Store) (a b : ℕ) (x y : Cell) → a < b → set_cell (set_cell s a x) b y ≡ set_cell (set_cell s b y) a x
set_swap s a b x y lt = fun_ext (λ q. go (eqb q b) (eqb q a) (s q) (λ e f. let m = eqb-true q b e in let n = eqb-true q a f in absurd (omega (arith, m, n, lt))))
  where
    go : (p r : Bool) (z : Cell) → (p ≡ true → r ≡ true → ⊥) → cond p y (cond r x z) ≡ cond r x (cond p y z)
    go true true z h = absurd (h refl refl)
    go true false z h = refl
    go false true z h = refl
    go false false z h = refl

put_swap : (m : Memory) (a b x y : ℕ) → a < b → after_put (after_put m a x) b y ≡ after_put (after_put m b y) a x
put_swap m a b x y lt = ap (λ (s : Store). record m { cells = s }) (set_swap m.cells a b (byte x) (byte y) lt)

low_put : (m : Memory) (a x b : ℕ) (ys : List ℕ) → a < b → after_puts (after_put m a x) b ys ≡ after_put (after_puts m b ys) a x
low_put m a x b [] lt = refl
low_put m a x b (y ∷ ys) lt = ap (λ (k : Memory). after_puts k (b + 1) ys) (put_swap m a b x y lt) ∙ low_put (after_put m b y) a x (b + 1) ys (omega (arith, lt))

-- bytes below others may be put behind them
pub puts_apart : (m : Memory) (a : ℕ) (xs : List ℕ) (b : ℕ) (ys : List ℕ) → a + length xs ≤ b → after_puts (after_puts m a xs) b ys ≡ after_puts (after_puts m b ys) a xs
puts_apart m a [] b ys le = refl
puts_apart m a (x ∷ xs) b ys le = puts_apart (after_put m a x) (a + 1) xs b ys (omega (arith, le)) ∙ ap (λ (k : Memory). after_puts k (a + 1) xs) (low_put m a x b ys (omega (arith, le)))

open_swap : (s : Store) (c a : ℕ) (x : Cell) → a < 4096 * c → open_chunk (set_cell s a x) c ≡ set_cell (open_chunk s c) a x
open_swap s c a x lt = fun_ext (λ q. go (nat_lt q (4096 * c)) (eqb q a) (nat_lt q (4096 * c + 4096)) (s q) (λ f. let n = eqb-true q a f in below q n))
  where
    below : (q : ℕ) → q ≡ a → nat_lt q (4096 * c) ≡ true
    below q e = let le : q < 4096 * c = omega (arith, e, lt) in grind (arith, nat_tests)

    go : (p r t : Bool) (z : Cell) → (r ≡ true → p ≡ true) → cond p (cond r x z) (cond t fresh (cond r x z)) ≡ cond r x (cond p z (cond t fresh z))
    go true true t z h = refl
    go true false t z h = refl
    go false true t z h = let e = h refl in absurd cc
    go false false t z h = refl

draw_put : (m : Memory) (c a x : ℕ) → a < 4096 * c → after_draw (after_put m a x) c ≡ after_put (after_draw m c) a x
draw_put m c a x lt = ap (λ (s : Store). record m { cells = s; drawn = c + 1; share = m.share + 1 }) (open_swap m.cells c a (byte x) lt)

-- so may bytes below a chunk, once it is drawn
pub draw_apart : (m : Memory) (c a : ℕ) (xs : List ℕ) → a + length xs ≤ 4096 * c → after_draw (after_puts m a xs) c ≡ after_puts (after_draw m c) a xs
draw_apart m c a [] le = refl
draw_apart m c a (x ∷ xs) le = draw_apart (after_put m a x) c (a + 1) xs (omega (arith, le)) ∙ ap (λ (k : Memory). after_puts k (a + 1) xs) (draw_put m c a x (omega (arith, le)))
