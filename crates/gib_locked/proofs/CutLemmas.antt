-- Texts that are cut at a byte.
use Rattle.std.proofs.Common.{◌≡◌, ℕ, suc, ◌<◌, ◌+◌, List, [], ◌∷◌, ◌++◌, Bool, true, false, cond, not, length, take, drop, sym, refl, ap, subst, arith}
use Rattle.std.specs.Prelude.{◌==◌}
use Rattle.std.specs.List.{prefix_len}
use Rattle.std.proofs.lemmas.Bool.Decides.{nat_tests}
use Rattle.std.proofs.Math.Seq.{take-length}
use Rattle.gib_locked.specs.Cuts.{IsCut, lacks}

-- The first n bytes lack the byte, and it stands behind them unless they are all.
record CutAt (byte : ℕ) (bs : List ℕ) (n : ℕ) : Type 0 where
  front : lacks byte (take n bs) ≡ true
  there : n < length bs → bs ≡ take n bs ++ byte ∷ drop 1 (drop n bs)

same_byte : (b byte : ℕ) → (b == byte) ≡ true → b ≡ byte
same_byte b byte e = grind (arith, nat_tests)

step : (byte b n : ℕ) (bs : List ℕ) (same : Bool) → (b == byte) ≡ same → CutAt byte bs n → CutAt byte (b ∷ bs) (cond (not same) (1 + n) 0)
step byte b n bs true e h = record { front = refl; there = λ lt. ap (λ x. x ∷ bs) (same_byte b byte e) }
step byte b n bs false e h =
    let one : suc n ≡ 1 + n = omega arith in
    subst (CutAt byte (b ∷ bs)) one (record { front = rw e h.front; there = λ lt. ap (λ xs. b ∷ xs) (h.there (omega (arith, lt))) })

cut_at : (byte : ℕ) (bs : List ℕ) → CutAt byte bs (prefix_len (λ b. not (b == byte)) bs)
cut_at byte [] = record { front = refl; there = λ lt. absurd (omega (arith, lt)) }
cut_at byte (b ∷ bs) = step byte b _ bs (b == byte) refl (cut_at byte bs)

pub cut_nowhere : (byte n : ℕ) (bs : List ℕ) → n ≡ prefix_len (λ b. not (b == byte)) bs → n ≡ length bs → lacks byte bs ≡ true
cut_nowhere byte n bs is all = subst (λ xs. lacks byte xs ≡ true) (subst (λ k. take k bs ≡ bs) (sym all) (take-length bs)) (subst (λ k. lacks byte (take k bs) ≡ true) (sym is) (cut_at byte bs).front)

pub cut_there : (byte n : ℕ) (bs front behind rest : List ℕ) → n ≡ prefix_len (λ b. not (b == byte)) bs → n < length bs → front ≡ take n bs → behind ≡ drop n bs → rest ≡ drop 1 behind → IsCut byte bs front rest
cut_there byte n bs front behind rest is lt f b r = rw (r, b, f, is) (record { text_is = (cut_at byte bs).there (subst (λ k. k < length bs) is lt); without = (cut_at byte bs).front })
