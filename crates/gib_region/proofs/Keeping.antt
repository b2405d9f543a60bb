-- What the calls leave of the tails.
use Rattle.std.proofs.Common.{◌≡◌, ◌≢◌, ℕ, ◌+◌, ◌*◌, ◌/◌, ◌<◌, ◌≤◌, ◌^◌, Bool, true, false, List, [], ◌∷◌, ◌++◌, length, nat_lt, sym, refl, ◌∙◌, subst, arith, inl, inr}
use Rattle.std.specs.Prelude.{nat_le, ◌&&◌, if◌then◌else◌}
use Rattle.std.proofs.lemmas.Bool.Decides.{leb_tells}
use Rattle.gib_mem.specs.Memory.{Store, Memory, fresh, after_puts, after_draw, Owned}
use Rattle.gib_region.specs.Region.{rest, Behind, pointer, Placed, here, turned, IsApart, from_none, from_one, AreOwned, no_tails, one_more, Begins, at_tail, at_chunk, finished}
use Rattle.gib_region.specs.Leaving.{IsBounded, TailsKept, BeginsOwned}
use Rattle.gib_mem.proofs.Puts.{puts_before, puts_past, open_before, open_in}
use Rattle.gib_region.proofs.Bounds.{there_below, fresh_there}

-- two rests of chunks that are not the same chunk have no address in common
apart_rests : (t at q : ℕ) → t / 4096 ≢ at / 4096 → t ≤ q → q < t + rest t → at ≤ q → q < at + rest at → ⊥
apart_rests t at q ne a b c d = ne (omega arith)

-- bytes that are put behind one cursor leave the rest of another chunk as it was
puts_apart : (m : Memory) (at : ℕ) (bs : List ℕ) (t : ℕ) → t / 4096 ≢ at / 4096 → length bs ≤ rest at → Owned m.cells t (rest t) → Owned (after_puts m at bs).cells t (rest t)
puts_apart m at bs t ne fits own = record {
  all = λ q x y. elim (leb_tells at q) [
    | inl high ↦ elim (leb_tells (at + length bs) q) [
      | inl past ↦ puts_past m at bs q past.1 ∙ own.all q x y
      | inr inside ↦ absurd (apart_rests t at q ne x y high.1 (omega (arith, inside.1)))
    ]
    | inr low ↦ puts_before m at bs q low.1 ∙ own.all q x y
  ];
}

-- a chunk that is drawn has nothing to do with what is there
draw_apart : (m : Memory) (c t : ℕ) → IsBounded m → m.drawn ≤ c → Owned m.cells t (rest t) → Owned (after_draw m c).cells t (rest t)
draw_apart m c t bounded le own = record {
  all = λ q x y.
      let is = own.all q x y in
      let below = there_below m q fresh bounded is fresh_there in
      open_before m.cells c q (omega arith) ∙ is;
}

-- bytes put behind the cursor leave the tails
pub fill_tails : (m : Memory) (at : ℕ) (bs tails : List ℕ) → length bs ≤ rest at → AreOwned m.cells tails → IsApart at tails → AreOwned (after_puts m at bs).cells tails
fill_tails m at bs _ fits no_tails a = no_tails
fill_tails m at bs _ fits (one_more {t = t} own long p o) (from_one ne a) = one_more (puts_apart m at bs t ne fits own) long p (fill_tails m at bs _ fits o a)

draw_tails : (m : Memory) (c : ℕ) (tails : List ℕ) → IsBounded m → m.drawn ≤ c → AreOwned m.cells tails → AreOwned (after_draw m c).cells tails
draw_tails m c _ b le no_tails = no_tails
draw_tails m c _ b le (one_more {t = t} own long p o) = one_more (draw_apart m c t b le own) long p (draw_tails m c _ b le o)

-- a place in a chunk that was not yet drawn is apart from all tails
new_apart : (m : Memory) (c k : ℕ) (tails : List ℕ) → IsBounded m → m.drawn ≤ c → k < 4096 → AreOwned m.cells tails → IsApart (4096 * c + k) tails
new_apart m c k _ b le small no_tails = from_none
new_apart m c k _ b le small (one_more {t = t} own long p o) =
    let is = own.all t (omega arith) (omega arith) in
    let below = there_below m t fresh b is fresh_there in
    from_one (λ e. omega arith) (new_apart m c k _ b le small o)

same_apart : (at k : ℕ) (tails : List ℕ) → k < rest at → IsApart at tails → IsApart (at + k) tails
same_apart at k _ lt from_none = from_none
same_apart at k _ lt (from_one {t = t} ne a) = let same : (at + k) / 4096 ≡ at / 4096 = omega arith in from_one (λ e. ne (e ∙ same)) (same_apart at k _ lt a)

-- placing an item leaves the tails
pub placed_tails : (m : Memory) (at k : ℕ) (m' : Memory) (a : ℕ) (tails : List ℕ) → IsBounded m → Behind m.cells at → 9 ≤ rest at → k ≤ 65 → TailsKept m.cells tails at → Placed m at k m' a → TailsKept m'.cells tails (a + k)
placed_tails m at k _ _ tails bounded b nine le kept (here room) = record { owned = kept.owned; apart = same_apart at k tails (omega arith) kept.apart }
placed_tails m at k _ _ tails bounded b nine le kept (turned {c = c} full draws) = record {
  owned = fill_tails (after_draw m c) at (pointer 255 (4096 * c)) tails nine (draw_tails m c tails bounded draws.order kept.owned) kept.apart;
  apart = new_apart m c k tails bounded draws.order (omega arith) kept.owned;
}

split_tails : (s : Store) (ts : List ℕ) (t : ℕ) → AreOwned s (ts ++ t ∷ []) → BeginsOwned s ts t
split_tails s [] t (one_more own long p o) = record { behind = record { owned = own }; long = long; kept = record { owned = no_tails; apart = from_none } }
split_tails s (u ∷ ts) t (one_more own long p o) =
    let r = split_tails s ts t o in
    record { behind = r.behind; long = r.long; kept = record { owned = one_more own long (front_apart u ts t p) r.kept.owned; apart = from_one (λ e. last_apart u ts t p (sym e)) r.kept.apart } }
  where
    front_apart : (u : ℕ) (ts : List ℕ) (t : ℕ) → IsApart u (ts ++ t ∷ []) → IsApart u ts
    front_apart u [] t p = from_none
    front_apart u (x ∷ ts) t (from_one ne p) = from_one ne (front_apart u ts t p)

    last_apart : (u : ℕ) (ts : List ℕ) (t : ℕ) → IsApart u (ts ++ t ∷ []) → t / 4096 ≢ u / 4096
    last_apart u [] t (from_one ne p) = ne
    last_apart u (x ∷ ts) t (from_one ne p) = last_apart u ts t p

-- where a region begins, 74 bytes and more are owned, and the tails that are left are kept
pub begins_owned : (m : Memory) (old : List ℕ) (m' : Memory) (tails : List ℕ) (at : ℕ) → IsBounded m → AreOwned m.cells old → Begins m old m' tails at → BeginsOwned m'.cells tails at
begins_owned m old _ _ _ b o (at_tail {tails = ts} {t = t} e) = split_tails m.cells ts t (subst (λ (l : List ℕ). AreOwned m.cells l) e o)
begins_owned m old _ _ _ b o (at_chunk {c = c} e draws) = record {
  behind = record { owned = record { all = λ q x y. open_in m.cells c q x (omega arith) } };
  long = omega arith;
  kept = record { owned = no_tails; apart = from_none };
}

-- where a region ends, its rest is one tail more
pub finished_owned : (s : Store) (tails : List ℕ) (at : ℕ) → Behind s at → TailsKept s tails at → AreOwned s (finished tails at)
finished_owned s tails at b k = go (nat_le 74 (rest at) && nat_lt (length tails) 64) refl
  where
    long_of : (x y : Bool) → (x && y) ≡ true → x ≡ true
    long_of true y e = refl
    long_of false y e = e

    apart_more : (u : ℕ) (ts : List ℕ) → IsApart u ts → u / 4096 ≢ at / 4096 → IsApart u (ts ++ at ∷ [])
    apart_more u [] p ne = from_one (λ e. ne (sym e)) from_none
    apart_more u (x ∷ ts) (from_one n p) ne = from_one n (apart_more u ts p ne)

    add : (ts : List ℕ) → 74 ≤ rest at → AreOwned s ts → IsApart at ts → AreOwned s (ts ++ at ∷ [])
    add [] long no_tails a = one_more b.owned long from_none no_tails
    add (t ∷ ts) long (one_more own l p o) (from_one ne a) = one_more own l (apart_more t ts p ne) (add ts long o a)

    go : (c : Bool) → (nat_le 74 (rest at) && nat_lt (length tails) 64) ≡ c → AreOwned s (if c then tails ++ at ∷ [] else tails)
    go true e = let t : nat_le 74 (rest at) ≡ true = long_of _ _ e in add tails (elim (leb_tells 74 (rest at)) [ inl yes_long ↦ yes_long.1 | inr short ↦ absurd cc ]) k.owned k.apart
    go false e = k.owned
