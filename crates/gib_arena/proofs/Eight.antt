-- A word of eight bytes.
use Rattle.std.proofs.Common.{◌≡◌, ℕ, zero, suc, ◌+◌, ◌-◌, ◌*◌, ◌^◌, ◌%◌, ◌/◌, ◌<◌, ◌≤◌, List, [], ◌∷◌, drop, length, get_or, refl, ap, ◌∙◌, arith}
use Rattle.std.specs.Prelude.{Option}
use Rattle.std.specs.Int.{w64, from_le_bytes, to_le_bytes}
use Rattle.std.proofs.lemmas.List.{get_or_past, drop_more}
use mathlib.Core.Logic.{dite}
use native.Mathlib.Decide.{dec_le}
use Rattle.gib_arena.specs.Bytes.{byte_or_zero, eight, zero_word, lone, added, Small}

pub add_eight : (xs bs cs : List ℕ) → ((i : ℕ) → i < 8 → get_or cs i 0 ≡ get_or xs i 0 + get_or bs i 0) → from_le_bytes w64 cs ≡ from_le_bytes w64 xs + from_le_bytes w64 bs
add_eight xs bs cs h = let h0 = h 0 (omega arith) in let h1 = h 1 (omega arith) in let h2 = h 2 (omega arith) in let h3 = h 3 (omega arith) in let h4 = h 4 (omega arith) in let h5 = h 5 (omega arith) in let h6 = h 6 (omega arith) in let h7 = h 7 (omega arith) in omega arith

pub same_eight : (xs cs : List ℕ) → ((i : ℕ) → i < 8 → get_or cs i 0 ≡ get_or xs i 0) → from_le_bytes w64 cs ≡ from_le_bytes w64 xs
same_eight xs cs h = let h0 = h 0 (omega arith) in let h1 = h 1 (omega arith) in let h2 = h 2 (omega arith) in let h3 = h 3 (omega arith) in let h4 = h 4 (omega arith) in let h5 = h 5 (omega arith) in let h6 = h 6 (omega arith) in let h7 = h 7 (omega arith) in omega arith

pub eight_fits : (cs : List ℕ) → ((i : ℕ) → i < 8 → get_or cs i 0 < 256) → from_le_bytes w64 cs < 2 ^ 64
eight_fits cs h = let h0 = h 0 (omega arith) in let h1 = h 1 (omega arith) in let h2 = h 2 (omega arith) in let h3 = h 3 (omega arith) in let h4 = h 4 (omega arith) in let h5 = h 5 (omega arith) in let h6 = h 6 (omega arith) in let h7 = h 7 (omega arith) in omega arith

pub eight_at : (store : ℕ → Option ℕ) (k i : ℕ) → i < 8 → get_or (eight store k) i 0 ≡ byte_or_zero (store (8 * k + i))
eight_at store k zero h = refl
eight_at store k (suc zero) h = refl
eight_at store k (suc (suc zero)) h = refl
eight_at store k (suc (suc (suc zero))) h = refl
eight_at store k (suc (suc (suc (suc zero)))) h = refl
eight_at store k (suc (suc (suc (suc (suc zero))))) h = refl
eight_at store k (suc (suc (suc (suc (suc (suc zero)))))) h = refl
eight_at store k (suc (suc (suc (suc (suc (suc (suc zero))))))) h = refl
eight_at store k (suc (suc (suc (suc (suc (suc (suc (suc i)))))))) h = absurd (omega arith)

pub zero_in : (i : ℕ) → get_or zero_word i 0 ≡ 0
zero_in i = dite (dec_le 8 i) (λ h. get_or_past zero_word i 0 h) (λ h. zero_lit i (omega arith))
  where
    zero_lit : (i : ℕ) → i < 8 → get_or zero_word i 0 ≡ 0
    zero_lit zero h = refl
    zero_lit (suc zero) h = refl
    zero_lit (suc (suc zero)) h = refl
    zero_lit (suc (suc (suc zero))) h = refl
    zero_lit (suc (suc (suc (suc zero)))) h = refl
    zero_lit (suc (suc (suc (suc (suc zero))))) h = refl
    zero_lit (suc (suc (suc (suc (suc (suc zero)))))) h = refl
    zero_lit (suc (suc (suc (suc (suc (suc (suc zero))))))) h = refl
    zero_lit (suc (suc (suc (suc (suc (suc (suc (suc i)))))))) h = absurd (omega arith)

-- a byte in its place is a word
pub shifted : (i b : ℕ) → i < 8 → b < 256 → (b * 2 ^ (8 * i)) % 2 ^ 64 ≡ lone i b
shifted zero b h l = omega arith
shifted (suc zero) b h l = omega arith
shifted (suc (suc zero)) b h l = omega arith
shifted (suc (suc (suc zero))) b h l = omega arith
shifted (suc (suc (suc (suc zero)))) b h l = omega arith
shifted (suc (suc (suc (suc (suc zero))))) b h l = omega arith
shifted (suc (suc (suc (suc (suc (suc zero)))))) b h l = omega arith
shifted (suc (suc (suc (suc (suc (suc (suc zero))))))) b h l = omega arith
shifted (suc (suc (suc (suc (suc (suc (suc (suc i)))))))) b h l = absurd (omega arith)

-- the byte of a word at a place
pub byte_is : (i w : ℕ) → w < 2 ^ 64 → i < 8 → (w / 2 ^ (8 * i)) % 256 ≡ get_or (to_le_bytes w64 w) i 0
byte_is zero w l h = omega arith
byte_is (suc zero) w l h = omega arith
byte_is (suc (suc zero)) w l h = omega arith
byte_is (suc (suc (suc zero))) w l h = omega arith
byte_is (suc (suc (suc (suc zero)))) w l h = omega arith
byte_is (suc (suc (suc (suc (suc zero))))) w l h = omega arith
byte_is (suc (suc (suc (suc (suc (suc zero)))))) w l h = omega arith
byte_is (suc (suc (suc (suc (suc (suc (suc zero))))))) w l h = omega arith
byte_is (suc (suc (suc (suc (suc (suc (suc (suc i)))))))) w l h = absurd (omega arith)

-- so many bytes of a word from a place on, as a number: those above are shifted out, and those below
pub part_is : (f c w : ℕ) (bs : List ℕ) → w < 2 ^ 64 → 0 < c → f + c ≤ 8 → length bs ≡ c → ((j : ℕ) → j < c → get_or (to_le_bytes w64 w) (f + j) 0 ≡ get_or bs j 0) → ((w * 2 ^ (64 - 8 * (f + c))) % 2 ^ 64) / 2 ^ (64 - 8 * c) ≡ from_le_bytes w64 bs
part_is f zero w bs l h k e g = absurd (omega arith)
part_is zero (suc zero) w bs l h k e g = let g0 = g 0 (omega arith) in let g1 = get_or_past bs 1 0 (omega arith) in let g2 = get_or_past bs 2 0 (omega arith) in let g3 = get_or_past bs 3 0 (omega arith) in let g4 = get_or_past bs 4 0 (omega arith) in let g5 = get_or_past bs 5 0 (omega arith) in let g6 = get_or_past bs 6 0 (omega arith) in let g7 = get_or_past bs 7 0 (omega arith) in omega arith
part_is zero (suc (suc zero)) w bs l h k e g = let g0 = g 0 (omega arith) in let g1 = g 1 (omega arith) in let g2 = get_or_past bs 2 0 (omega arith) in let g3 = get_or_past bs 3 0 (omega arith) in let g4 = get_or_past bs 4 0 (omega arith) in let g5 = get_or_past bs 5 0 (omega arith) in let g6 = get_or_past bs 6 0 (omega arith) in let g7 = get_or_past bs 7 0 (omega arith) in omega arith
part_is zero (suc (suc (suc zero))) w bs l h k e g = let g0 = g 0 (omega arith) in let g1 = g 1 (omega arith) in let g2 = g 2 (omega arith) in let g3 = get_or_past bs 3 0 (omega arith) in let g4 = get_or_past bs 4 0 (omega arith) in let g5 = get_or_past bs 5 0 (omega arith) in let g6 = get_or_past bs 6 0 (omega arith) in let g7 = get_or_past bs 7 0 (omega arith) in omega arith
part_is zero (suc (suc (suc (suc zero)))) w bs l h k e g = let g0 = g 0 (omega arith) in let g1 = g 1 (omega arith) in let g2 = g 2 (omega arith) in let g3 = g 3 (omega arith) in let g4 = get_or_past bs 4 0 (omega arith) in let g5 = get_or_past bs 5 0 (omega arith) in let g6 = get_or_past bs 6 0 (omega arith) in let g7 = get_or_past bs 7 0 (omega arith) in omega arith
part_is zero (suc (suc (suc (suc (suc zero))))) w bs l h k e g = let g0 = g 0 (omega arith) in let g1 = g 1 (omega arith) in let g2 = g 2 (omega arith) in let g3 = g 3 (omega arith) in let g4 = g 4 (omega arith) in let g5 = get_or_past bs 5 0 (omega arith) in let g6 = get_or_past bs 6 0 (omega arith) in let g7 = get_or_past bs 7 0 (omega arith) in omega arith
part_is zero (suc (suc (suc (suc (suc (suc zero)))))) w bs l h k e g = let g0 = g 0 (omega arith) in let g1 = g 1 (omega arith) in let g2 = g 2 (omega arith) in let g3 = g 3 (omega arith) in let g4 = g 4 (omega arith) in let g5 = g 5 (omega arith) in let g6 = get_or_past bs 6 0 (omega arith) in let g7 = get_or_past bs 7 0 (omega arith) in omega arith
part_is zero (suc (suc (suc (suc (suc (suc (suc zero))))))) w bs l h k e g = let g0 = g 0 (omega arith) in let g1 = g 1 (omega arith) in let g2 = g 2 (omega arith) in let g3 = g 3 (omega arith) in let g4 = g 4 (omega arith) in let g5 = g 5 (omega arith) in let g6 = g 6 (omega arith) in let g7 = get_or_past bs 7 0 (omega arith) in omega arith
part_is zero (suc (suc (suc (suc (suc (suc (suc (suc zero)))))))) w bs l h k e g = let g0 = g 0 (omega arith) in let g1 = g 1 (omega arith) in let g2 = g 2 (omega arith) in let g3 = g 3 (omega arith) in let g4 = g 4 (omega arith) in let g5 = g 5 (omega arith) in let g6 = g 6 (omega arith) in let g7 = g 7 (omega arith) in omega arith
part_is zero (suc (suc (suc (suc (suc (suc (suc (suc (suc c))))))))) w bs l h k e g = absurd (omega arith)
part_is (suc zero) (suc zero) w bs l h k e g = let g0 = g 0 (omega arith) in let g1 = get_or_past bs 1 0 (omega arith) in let g2 = get_or_past bs 2 0 (omega arith) in let g3 = get_or_past bs 3 0 (omega arith) in let g4 = get_or_past bs 4 0 (omega arith) in let g5 = get_or_past bs 5 0 (omega arith) in let g6 = get_or_past bs 6 0 (omega arith) in let g7 = get_or_past bs 7 0 (omega arith) in omega arith
part_is (suc zero) (suc (suc zero)) w bs l h k e g = let g0 = g 0 (omega arith) in let g1 = g 1 (omega arith) in let g2 = get_or_past bs 2 0 (omega arith) in let g3 = get_or_past bs 3 0 (omega arith) in let g4 = get_or_past bs 4 0 (omega arith) in let g5 = get_or_past bs 5 0 (omega arith) in let g6 = get_or_past bs 6 0 (omega arith) in let g7 = get_or_past bs 7 0 (omega arith) in omega arith
part_is (suc zero) (suc (suc (suc zero))) w bs l h k e g = let g0 = g 0 (omega arith) in let g1 = g 1 (omega arith) in let g2 = g 2 (omega arith) in let g3 = get_or_past bs 3 0 (omega arith) in let g4 = get_or_past bs 4 0 (omega arith) in let g5 = get_or_past bs 5 0 (omega arith) in let g6 = get_or_past bs 6 0 (omega arith) in let g7 = get_or_past bs 7 0 (omega arith) in omega arith
part_is (suc zero) (suc (suc (suc (suc zero)))) w bs l h k e g = let g0 = g 0 (omega arith) in let g1 = g 1 (omega arith) in let g2 = g 2 (omega arith) in let g3 = g 3 (omega arith) in let g4 = get_or_past bs 4 0 (omega arith) in let g5 = get_or_past bs 5 0 (omega arith) in let g6 = get_or_past bs 6 0 (omega arith) in let g7 = get_or_past bs 7 0 (omega arith) in omega arith
part_is (suc zero) (suc (suc (suc (suc (suc zero))))) w bs l h k e g = let g0 = g 0 (omega arith) in let g1 = g 1 (omega arith) in let g2 = g 2 (omega arith) in let g3 = g 3 (omega arith) in let g4 = g 4 (omega arith) in let g5 = get_or_past bs 5 0 (omega arith) in let g6 = get_or_past bs 6 0 (omega arith) in let g7 = get_or_past bs 7 0 (omega arith) in omega arith
part_is (suc zero) (suc (suc (suc (suc (suc (suc zero)))))) w bs l h k e g = let g0 = g 0 (omega arith) in let g1 = g 1 (omega arith) in let g2 = g 2 (omega arith) in let g3 = g 3 (omega arith) in let g4 = g 4 (omega arith) in let g5 = g 5 (omega arith) in let g6 = get_or_past bs 6 0 (omega arith) in let g7 = get_or_past bs 7 0 (omega arith) in omega arith
part_is (suc zero) (suc (suc (suc (suc (suc (suc (suc zero))))))) w bs l h k e g = let g0 = g 0 (omega arith) in let g1 = g 1 (omega arith) in let g2 = g 2 (omega arith) in let g3 = g 3 (omega arith) in let g4 = g 4 (omega arith) in let g5 = g 5 (omega arith) in let g6 = g 6 (omega arith) in let g7 = get_or_past bs 7 0 (omega arith) in omega arith
part_is (suc zero) (suc (suc (suc (suc (suc (suc (suc (suc c)))))))) w bs l h k e g = absurd (omega arith)
part_is (suc (suc zero)) (suc zero) w bs l h k e g = let g0 = g 0 (omega arith) in let g1 = get_or_past bs 1 0 (omega arith) in let g2 = get_or_past bs 2 0 (omega arith) in let g3 = get_or_past bs 3 0 (omega arith) in let g4 = get_or_past bs 4 0 (omega arith) in let g5 = get_or_past bs 5 0 (omega arith) in let g6 = get_or_past bs 6 0 (omega arith) in let g7 = get_or_past bs 7 0 (omega arith) in omega arith
part_is (suc (suc zero)) (suc (suc zero)) w bs l h k e g = let g0 = g 0 (omega arith) in let g1 = g 1 (omega arith) in let g2 = get_or_past bs 2 0 (omega arith) in let g3 = get_or_past bs 3 0 (omega arith) in let g4 = get_or_past bs 4 0 (omega arith) in let g5 = get_or_past bs 5 0 (omega arith) in let g6 = get_or_past bs 6 0 (omega arith) in let g7 = get_or_past bs 7 0 (omega arith) in omega arith
part_is (suc (suc zero)) (suc (suc (suc zero))) w bs l h k e g = let g0 = g 0 (omega arith) in let g1 = g 1 (omega arith) in let g2 = g 2 (omega arith) in let g3 = get_or_past bs 3 0 (omega arith) in let g4 = get_or_past bs 4 0 (omega arith) in let g5 = get_or_past bs 5 0 (omega arith) in let g6 = get_or_past bs 6 0 (omega arith) in let g7 = get_or_past bs 7 0 (omega arith) in omega arith
part_is (suc (suc zero)) (suc (suc (suc (suc zero)))) w bs l h k e g = let g0 = g 0 (omega arith) in let g1 = g 1 (omega arith) in let g2 = g 2 (omega arith) in let g3 = g 3 (omega arith) in let g4 = get_or_past bs 4 0 (omega arith) in let g5 = get_or_past bs 5 0 (omega arith) in let g6 = get_or_past bs 6 0 (omega arith) in let g7 = get_or_past bs 7 0 (omega arith) in omega arith
part_is (suc (suc zero)) (suc (suc (suc (suc (suc zero))))) w bs l h k e g = let g0 = g 0 (omega arith) in let g1 = g 1 (omega arith) in let g2 = g 2 (omega arith) in let g3 = g 3 (omega arith) in let g4 = g 4 (omega arith) in let g5 = get_or_past bs 5 0 (omega arith) in let g6 = get_or_past bs 6 0 (omega arith) in let g7 = get_or_past bs 7 0 (omega arith) in omega arith
part_is (suc (suc zero)) (suc (suc (suc (suc (suc (suc zero)))))) w bs l h k e g = let g0 = g 0 (omega arith) in let g1 = g 1 (omega arith) in let g2 = g 2 (omega arith) in let g3 = g 3 (omega arith) in let g4 = g 4 (omega arith) in let g5 = g 5 (omega arith) in let g6 = get_or_past bs 6 0 (omega arith) in let g7 = get_or_past bs 7 0 (omega arith) in omega arith
part_is (suc (suc zero)) (suc (suc (suc (suc (suc (suc (suc c))))))) w bs l h k e g = absurd (omega arith)
part_is (suc (suc (suc zero))) (suc zero) w bs l h k e g = let g0 = g 0 (omega arith) in let g1 = get_or_past bs 1 0 (omega arith) in let g2 = get_or_past bs 2 0 (omega arith) in let g3 = get_or_past bs 3 0 (omega arith) in let g4 = get_or_past bs 4 0 (omega arith) in let g5 = get_or_past bs 5 0 (omega arith) in let g6 = get_or_past bs 6 0 (omega arith) in let g7 = get_or_past bs 7 0 (omega arith) in omega arith
part_is (suc (suc (suc zero))) (suc (suc zero)) w bs l h k e g = let g0 = g 0 (omega arith) in let g1 = g 1 (omega arith) in let g2 = get_or_past bs 2 0 (omega arith) in let g3 = get_or_past bs 3 0 (omega arith) in let g4 = get_or_past bs 4 0 (omega arith) in let g5 = get_or_past bs 5 0 (omega arith) in let g6 = get_or_past bs 6 0 (omega arith) in let g7 = get_or_past bs 7 0 (omega arith) in omega arith
part_is (suc (suc (suc zero))) (suc (suc (suc zero))) w bs l h k e g = let g0 = g 0 (omega arith) in let g1 = g 1 (omega arith) in let g2 = g 2 (omega arith) in let g3 = get_or_past bs 3 0 (omega arith) in let g4 = get_or_past bs 4 0 (omega arith) in let g5 = get_or_past bs 5 0 (omega arith) in let g6 = get_or_past bs 6 0 (omega arith) in let g7 = get_or_past bs 7 0 (omega arith) in omega arith
part_is (suc (suc (suc zero))) (suc (suc (suc (suc zero)))) w bs l h k e g = let g0 = g 0 (omega arith) in let g1 = g 1 (omega arith) in let g2 = g 2 (omega arith) in let g3 = g 3 (omega arith) in let g4 = get_or_past bs 4 0 (omega arith) in let g5 = get_or_past bs 5 0 (omega arith) in let g6 = get_or_past bs 6 0 (omega arith) in let g7 = get_or_past bs 7 0 (omega arith) in omega arith
part_is (suc (suc (suc zero))) (suc (suc (suc (suc (suc zero))))) w bs l h k e g = let g0 = g 0 (omega arith) in let g1 = g 1 (omega arith) in let g2 = g 2 (omega arith) in let g3 = g 3 (omega arith) in let g4 = g 4 (omega arith) in let g5 = get_or_past bs 5 0 (omega arith) in let g6 = get_or_past bs 6 0 (omega arith) in let g7 = get_or_past bs 7 0 (omega arith) in omega arith
part_is (suc (suc (suc zero))) (suc (suc (suc (suc (suc (suc c)))))) w bs l h k e g = absurd (omega arith)
part_is (suc (suc (suc (suc zero)))) (suc zero) w bs l h k e g = let g0 = g 0 (omega arith) in let g1 = get_or_past bs 1 0 (omega arith) in let g2 = get_or_past bs 2 0 (omega arith) in let g3 = get_or_past bs 3 0 (omega arith) in let g4 = get_or_past bs 4 0 (omega arith) in let g5 = get_or_past bs 5 0 (omega arith) in let g6 = get_or_past bs 6 0 (omega arith) in let g7 = get_or_past bs 7 0 (omega arith) in omega arith
part_is (suc (suc (suc (suc zero)))) (suc (suc zero)) w bs l h k e g = let g0 = g 0 (omega arith) in let g1 = g 1 (omega arith) in let g2 = get_or_past bs 2 0 (omega arith) in let g3 = get_or_past bs 3 0 (omega arith) in let g4 = get_or_past bs 4 0 (omega arith) in let g5 = get_or_past bs 5 0 (omega arith) in let g6 = get_or_past bs 6 0 (omega arith) in let g7 = get_or_past bs 7 0 (omega arith) in omega arith
part_is (suc (suc (suc (suc zero)))) (suc (suc (suc zero))) w bs l h k e g = let g0 = g 0 (omega arith) in let g1 = g 1 (omega arith) in let g2 = g 2 (omega arith) in let g3 = get_or_past bs 3 0 (omega arith) in let g4 = get_or_past bs 4 0 (omega arith) in let g5 = get_or_past bs 5 0 (omega arith) in let g6 = get_or_past bs 6 0 (omega arith) in let g7 = get_or_past bs 7 0 (omega arith) in omega arith
part_is (suc (suc (suc (suc zero)))) (suc (suc (suc (suc zero)))) w bs l h k e g = let g0 = g 0 (omega arith) in let g1 = g 1 (omega arith) in let g2 = g 2 (omega arith) in let g3 = g 3 (omega arith) in let g4 = get_or_past bs 4 0 (omega arith) in let g5 = get_or_past bs 5 0 (omega arith) in let g6 = get_or_past bs 6 0 (omega arith) in let g7 = get_or_past bs 7 0 (omega arith) in omega arith
part_is (suc (suc (suc (suc zero)))) (suc (suc (suc (suc (suc c))))) w bs l h k e g = absurd (omega arith)
part_is (suc (suc (suc (suc (suc zero))))) (suc zero) w bs l h k e g = let g0 = g 0 (omega arith) in let g1 = get_or_past bs 1 0 (omega arith) in let g2 = get_or_past bs 2 0 (omega arith) in let g3 = get_or_past bs 3 0 (omega arith) in let g4 = get_or_past bs 4 0 (omega arith) in let g5 = get_or_past bs 5 0 (omega arith) in let g6 = get_or_past bs 6 0 (omega arith) in let g7 = get_or_past bs 7 0 (omega arith) in omega arith
part_is (suc (suc (suc (suc (suc zero))))) (suc (suc zero)) w bs l h k e g = let g0 = g 0 (omega arith) in let g1 = g 1 (omega arith) in let g2 = get_or_past bs 2 0 (omega arith) in let g3 = get_or_past bs 3 0 (omega arith) in let g4 = get_or_past bs 4 0 (omega arith) in let g5 = get_or_past bs 5 0 (omega arith) in let g6 = get_or_past bs 6 0 (omega arith) in let g7 = get_or_past bs 7 0 (omega arith) in omega arith
part_is (suc (suc (suc (suc (suc zero))))) (suc (suc (suc zero))) w bs l h k e g = let g0 = g 0 (omega arith) in let g1 = g 1 (omega arith) in let g2 = g 2 (omega arith) in let g3 = get_or_past bs 3 0 (omega arith) in let g4 = get_or_past bs 4 0 (omega arith) in let g5 = get_or_past bs 5 0 (omega arith) in let g6 = get_or_past bs 6 0 (omega arith) in let g7 = get_or_past bs 7 0 (omega arith) in omega arith
part_is (suc (suc (suc (suc (suc zero))))) (suc (suc (suc (suc c)))) w bs l h k e g = absurd (omega arith)
part_is (suc (suc (suc (suc (suc (suc zero)))))) (suc zero) w bs l h k e g = let g0 = g 0 (omega arith) in let g1 = get_or_past bs 1 0 (omega arith) in let g2 = get_or_past bs 2 0 (omega arith) in let g3 = get_or_past bs 3 0 (omega arith) in let g4 = get_or_past bs 4 0 (omega arith) in let g5 = get_or_past bs 5 0 (omega arith) in let g6 = get_or_past bs 6 0 (omega arith) in let g7 = get_or_past bs 7 0 (omega arith) in omega arith
part_is (suc (suc (suc (suc (suc (suc zero)))))) (suc (suc zero)) w bs l h k e g = let g0 = g 0 (omega arith) in let g1 = g 1 (omega arith) in let g2 = get_or_past bs 2 0 (omega arith) in let g3 = get_or_past bs 3 0 (omega arith) in let g4 = get_or_past bs 4 0 (omega arith) in let g5 = get_or_past bs 5 0 (omega arith) in let g6 = get_or_past bs 6 0 (omega arith) in let g7 = get_or_past bs 7 0 (omega arith) in omega arith
part_is (suc (suc (suc (suc (suc (suc zero)))))) (suc (suc (suc c))) w bs l h k e g = absurd (omega arith)
part_is (suc (suc (suc (suc (suc (suc (suc zero))))))) (suc zero) w bs l h k e g = let g0 = g 0 (omega arith) in let g1 = get_or_past bs 1 0 (omega arith) in let g2 = get_or_past bs 2 0 (omega arith) in let g3 = get_or_past bs 3 0 (omega arith) in let g4 = get_or_past bs 4 0 (omega arith) in let g5 = get_or_past bs 5 0 (omega arith) in let g6 = get_or_past bs 6 0 (omega arith) in let g7 = get_or_past bs 7 0 (omega arith) in omega arith
part_is (suc (suc (suc (suc (suc (suc (suc zero))))))) (suc (suc c)) w bs l h k e g = absurd (omega arith)
part_is (suc (suc (suc (suc (suc (suc (suc (suc f)))))))) (suc c) w bs l h k e g = absurd (omega arith)

-- bytes from a place on fit a word
pub added_fits : (i : ℕ) (bs : List ℕ) → i + length bs ≤ 8 → Small bs → added i bs + 2 ^ (8 * i) ≤ 2 ^ 64
added_fits i [] h k = let e : 2 ^ (8 * i) ≤ 2 ^ 64 = power i (omega arith) in omega arith
  where
    power : (i : ℕ) → i ≤ 8 → 2 ^ (8 * i) ≤ 2 ^ 64
    power zero h = omega arith
    power (suc zero) h = omega arith
    power (suc (suc zero)) h = omega arith
    power (suc (suc (suc zero))) h = omega arith
    power (suc (suc (suc (suc zero)))) h = omega arith
    power (suc (suc (suc (suc (suc zero))))) h = omega arith
    power (suc (suc (suc (suc (suc (suc zero)))))) h = omega arith
    power (suc (suc (suc (suc (suc (suc (suc zero))))))) h = omega arith
    power (suc (suc (suc (suc (suc (suc (suc (suc zero)))))))) h = omega arith
    power (suc (suc (suc (suc (suc (suc (suc (suc (suc i))))))))) h = absurd (omega arith)
added_fits zero (b ∷ bs) h k = let r = added_fits 1 bs (omega arith) k.1 in let l = k.0 in omega arith
added_fits (suc zero) (b ∷ bs) h k = let r = added_fits 2 bs (omega arith) k.1 in let l = k.0 in omega arith
added_fits (suc (suc zero)) (b ∷ bs) h k = let r = added_fits 3 bs (omega arith) k.1 in let l = k.0 in omega arith
added_fits (suc (suc (suc zero))) (b ∷ bs) h k = let r = added_fits 4 bs (omega arith) k.1 in let l = k.0 in omega arith
added_fits (suc (suc (suc (suc zero)))) (b ∷ bs) h k = let r = added_fits 5 bs (omega arith) k.1 in let l = k.0 in omega arith
added_fits (suc (suc (suc (suc (suc zero))))) (b ∷ bs) h k = let r = added_fits 6 bs (omega arith) k.1 in let l = k.0 in omega arith
added_fits (suc (suc (suc (suc (suc (suc zero)))))) (b ∷ bs) h k = let r = added_fits 7 bs (omega arith) k.1 in let l = k.0 in omega arith
added_fits (suc (suc (suc (suc (suc (suc (suc zero))))))) (b ∷ bs) h k = let r = added_fits 8 bs (omega arith) k.1 in let l = k.0 in omega arith
added_fits (suc (suc (suc (suc (suc (suc (suc (suc i)))))))) (b ∷ bs) h k = absurd (omega arith)

pub added_step : (bs : List ℕ) (f i : ℕ) → i < length bs → added (f + i) (drop i bs) ≡ lone (f + i) (get_or bs i 0) + added (f + (i + 1)) (drop (i + 1) bs)
added_step bs f i h = ap (added (f + i)) (drop_more bs i 0 h) ∙ ap (λ (n : ℕ). lone (f + i) (get_or bs i 0) + added n (drop (i + 1) bs)) (let e : f + i + 1 ≡ f + (i + 1) = omega arith in e)

pub added_done : (bs : List ℕ) (f i : ℕ) → length bs ≤ i → added (f + i) (drop i bs) ≡ 0
added_done bs f i h = ap (added (f + i)) (drop_none bs i h)
  where
    drop_none : (bs : List ℕ) (i : ℕ) → length bs ≤ i → drop i bs ≡ []
    drop_none [] zero h = refl
    drop_none [] (suc i) h = refl
    drop_none (x ∷ xs) zero h = absurd (omega arith)
    drop_none (x ∷ xs) (suc i) h = drop_none xs i (omega arith)

-- the next byte is laid in its place
pub lays : (bs : List ℕ) (f i n : ℕ) → i < length bs → f + length bs ≤ 8 → ((k : ℕ) → get_or bs k 0 < 256) → n + added (f + i) (drop i bs) ≡ added f bs → (n + (get_or bs i 0 * 2 ^ (8 * (f + i))) % 2 ^ 64) + added (f + (i + 1)) (drop (i + 1) bs) ≡ added f bs
lays bs f i n h l small e = let s = shifted (f + i) (get_or bs i 0) (omega arith) (small i) in let k = added_step bs f i h in omega arith

pub added_below : (i : ℕ) (bs : List ℕ) → i + length bs ≤ 8 → Small bs → added i bs < 2 ^ 64
added_below i bs h k = let r = added_fits i bs h k in let p = some i (omega arith) in omega arith
  where
    some : (i : ℕ) → i ≤ 8 → 0 < 2 ^ (8 * i)
    some zero h = omega arith
    some (suc zero) h = omega arith
    some (suc (suc zero)) h = omega arith
    some (suc (suc (suc zero))) h = omega arith
    some (suc (suc (suc (suc zero)))) h = omega arith
    some (suc (suc (suc (suc (suc zero))))) h = omega arith
    some (suc (suc (suc (suc (suc (suc zero)))))) h = omega arith
    some (suc (suc (suc (suc (suc (suc (suc zero))))))) h = omega arith
    some (suc (suc (suc (suc (suc (suc (suc (suc zero)))))))) h = omega arith
    some (suc (suc (suc (suc (suc (suc (suc (suc (suc i))))))))) h = absurd (omega arith)
