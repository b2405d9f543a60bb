-- Bytes that are put in parts.
use Rattle.std.proofs.Common.{◌≡◌, ℕ, ◌+◌, ◌*◌, ◌<◌, List, [], ◌∷◌, ◌++◌, length, drop, take, get_or, sym, ap, subst₂, ◌∙◌, arith, true, refl, add-one}
use Rattle.std.proofs.Math.Seq.{drop-cons}
use Rattle.gib_mem.specs.Memory.{Memory, after_put, after_puts}
use Rattle.gib_packed.specs.Head.{addresses}
use Rattle.gib_packed.proofs.HeadLemmas.{offset_bytes-length}

pub drop_next : (p : List ℕ) (at : ℕ) → at < length p → drop at p ≡ get_or p at 0 ∷ drop (at + 1) p
drop_next p at lt = rw add-one (drop-cons p at 0 lt)

-- bytes that are put in two parts
pub puts_append : (m : Memory) (at : ℕ) (xs ys : List ℕ) → after_puts (after_puts m at xs) (at + length xs) ys ≡ after_puts m at (xs ++ ys)
puts_append m at [] ys = let e : at + length {A = ℕ} [] ≡ at = omega arith in ap (λ (q : ℕ). after_puts m q ys) e
puts_append m at (x ∷ xs) ys =
    let e : at + length (x ∷ xs) ≡ at + 1 + length xs = omega arith in
    ap (λ (q : ℕ). after_puts (after_puts (after_put m at x) (at + 1) xs) q ys) e ∙ puts_append (after_put m at x) (at + 1) xs ys

pub addresses-long : (stored : List ℕ) → length (addresses stored) ≡ 8 * length stored
addresses-long stored = let e = offset_bytes-length true (0 ∷ stored) in omega (arith, e)

-- a head that is put in three parts
pub three_parts : (m : Memory) (at : ℕ) (tag stored scalars : List ℕ) → length tag ≡ 1
    → after_puts (after_puts (after_puts m at tag) (at + 1) (addresses stored)) (at + 1 + 8 * length stored) scalars ≡ after_puts m at (tag ++ (addresses stored ++ scalars))
three_parts m at tag stored scalars e =
    let a : at + 1 ≡ at + length tag = omega (arith, e) in
    let b : at + 1 + 8 * length stored ≡ at + length tag + length (addresses stored) = let l = addresses-long stored in omega (arith, e, l) in
    subst₂ (λ (p q : ℕ). after_puts (after_puts (after_puts m at tag) p (addresses stored)) q scalars ≡ after_puts m at (tag ++ (addresses stored ++ scalars))) (sym a) (sym b)
    (puts_append (after_puts m at tag) (at + length tag) (addresses stored) scalars ∙ puts_append m at tag (addresses stored ++ scalars))

-- a list that has a first one
pub tag_long : (item : List ℕ) → 0 < length item → length (take 1 item) ≡ 1
tag_long [] e = absurd (omega (arith, e))
tag_long (x ∷ xs) e = refl

pub rest_long : (item : List ℕ) → 0 < length item → length item ≡ 1 + length (drop 1 item)
rest_long [] e = absurd (omega (arith, e))
rest_long (x ∷ xs) e = omega arith
