-- The walk over what stands ends.
use Rattle.std.proofs.Common.{◌≡◌, ℕ, zero, suc, ◌+◌, ◌*◌, ◌-◌, ◌<◌, ◌≤◌, ◌^◌, max, List, length, refl, ap, subst, ◌∙◌, arith, mul-le-mul_left, false, inl, inr, eqb, ◌≢◌}
use Rattle.std.specs.Int.{w64, from_le_bytes}
use Rattle.std.proofs.lemmas.Nat.{from_le_bytes-to_le_bytes_8}
use Rattle.std.proofs.lemmas.Bool.Decides.{leb_tells, nat_tests}
use Rattle.gib_mem.specs.Memory.{Memory, IsBounded, Store, Cell, Holds, byte, look_of, none, more}
use Rattle.gib_types.specs.Layout.{LaidOut, head_size, packed_at}
use Rattle.gib_packed.specs.Head.{address}
use Rattle.gib_packed.specs.Decoding.{Points, Dec}
use Rattle.gib_packed.proofs.Spans.{Span, redirect, indirect, head, Spans, done, next, Few, Walk, end, turn, pass, enter, Walks, Goes, Below}
use Rattle.gib_packed.proofs.Steps.{most, steps, step, enter_at, target_at, bytes_at, Stand}
use Rattle.gib_packed.proofs.HoldsLemmas.{Holds-first, Holds-rest, same_byte}
use Rattle.gib_packed.proofs.SpanLemmas.{Dec-span, Span-height}
use Rattle.gib_types.specs.Tree.{Datum}

most_pos : (h : ℕ) → 1 ≤ most h
unfolding most
most_pos zero = omega arith
most_pos (suc h) = omega (arith, most_pos h)

most-step : (h : ℕ) → most (suc h) ≡ 9 * most h
unfolding most
most-step h = refl

most_mono : (g h : ℕ) → g ≤ h → most g ≤ most h
most_mono g zero le = let e : g ≡ 0 = omega arith in rw e (omega arith)
most_mono g (suc h) le =
    elim (leb_tells g h) [
      | inl low ↦ (let r = most_mono g h low.1 in let e = most-step h in omega arith)
      | inr high ↦ (let e : g ≡ suc h = omega arith in rw e (omega arith))
    ]

mutual
  pub Span-walk : {laid : LaidOut} {s : Store} {roof h a y n z c : ℕ} → Few laid → Span laid s h a y → n + 7 * h ≤ roof → Walk laid s roof c y n z → Walks laid s roof a (suc n) z (most h + c)
  Span-walk f (redirect {h = h} p d) le w =
      let r = Span-walk f d (omega arith) w in
      let up = most-step h in
      let one = most_pos h in
      record { count = suc r.count; walk = turn (omega arith) p r.walk; within = omega (arith, r.within) }
  Span-walk {laid = laid} {s = s} {roof = roof} {n = n} {z = z} {c = c} f (indirect {h = h} {y = y} p d e) le w =
      let one = most_pos (suc h) in
      record { count = suc c; walk = pass (omega arith) p (subst (λ (x : ℕ). Walk laid s roof c x n z) e w); within = omega arith }
  Span-walk {laid = laid} f (head {h = h} {k = k} b i e ds) le w =
      let few = f k in
      let r = Spans-walk f ds few (omega arith) w in
      let up = most-step h in
      let one = most_pos h in
      let size : most h * packed_at laid k ≤ most h * 8 = mul-le-mul_left (most h) few in
      record { count = suc r.count; walk = enter (omega arith) b i e r.walk; within = omega (arith, r.within) }

  -- m values one behind another, and then n more
  pub Spans-walk : {laid : LaidOut} {s : Store} {roof h a y m n z c : ℕ} → Few laid → Spans laid s h a m y → m ≤ 8 → n + 7 + 7 * h ≤ roof → Walk laid s roof c y n z → Walks laid s roof a (m + n) z (m * most h + c)
  Spans-walk {laid = laid} {s = s} {roof = roof} {n = n} {z = z} {c = c} f (done {a = a}) le fits w =
      let e : n ≡ 0 + n = omega arith in
      record { count = c; walk = subst (λ (x : ℕ). Walk laid s roof c a x z) e w; within = omega arith }
  Spans-walk {laid = laid} {s = s} {roof = roof} {a = a} {n = n} {z = z} f (next {g = g} {h = h} {n = m} d ds) le fits w =
      let r = Spans-walk f ds (omega arith) (omega arith) w in
      let q = Span-walk f d (omega arith) r.walk in
      let e : suc (m + n) ≡ suc m + n = omega arith in
      let high = most_mono g (max g h) (omega arith) in
      let low : most h ≤ most (max g h) = most_mono h (max g h) (omega arith) in
      let all : m * most h ≤ m * most (max g h) = mul-le-mul_left m low in
      record { count = q.count; walk = subst (λ (x : ℕ). Walk laid s roof q.count a x z) e q.walk; within = omega (arith, r.within, q.within) }

-- what a walk over one value needs
pub Dec-goes : {laid : LaidOut} {s : Store} {bound a t z : ℕ} {v : Datum} → Few laid → Below s bound → Dec laid s a t v z → Goes laid s bound a 1 z
Dec-goes {bound = bound} f w d =
    let r = Dec-span d in
    let high = Span-height w r.1 in
    let q = Span-walk f r.1 (omega arith) end in
    let up = most_mono r.0 bound high in
    record { walks = record { count = q.count; walk = q.walk; within = omega (arith, q.within) } }

-- ---- the measure

bytes_at-Holds : {s : Store} {a : ℕ} {bs : List ℕ} → Holds s a bs → bytes_at s a (length bs) ≡ bs
bytes_at-Holds none = refl
bytes_at-Holds {s = s} {a = a} (more {bs = bs} e h) = let f = ap look_of e in let r = bytes_at-Holds h in cc

pub target_at-Points : {s : Store} {a tag b : ℕ} → Points s a tag b → target_at s a ≡ b
unfolding target_at
target_at-Points {s = s} {a = a} {b = b} p =
    let e : bytes_at s (a + 1) 8 ≡ address b = bytes_at-Holds (Holds-rest p.bytes) in
    ap (from_le_bytes w64) e ∙ from_le_bytes-to_le_bytes_8 b p.fits

step-turn : (laid : LaidOut) {s : Store} {a b : ℕ} (n : ℕ) → Points s a 255 b → step laid s a n (look_of (s a)) ≡ record { at = b; due = suc n }
step-turn laid {s = s} {a = a} n p =
    ap (λ (x : Cell). step laid s a n (look_of x)) (Holds-first p.bytes) ∙ ap (λ (x : ℕ). record { at = x; due = suc n }) (target_at-Points p)

step-pass : (laid : LaidOut) {s : Store} {a b : ℕ} (n : ℕ) → Points s a 254 b → step laid s a n (look_of (s a)) ≡ record { at = a + 9; due = n }
step-pass laid {s = s} {a = a} n p = ap (λ (x : Cell). step laid s a n (look_of x)) (Holds-first p.bytes)

step-head : (laid : LaidOut) (s : Store) (a k n : ℕ) → k < 254 → step laid s a n k ≡ enter_at laid k a n
step-head laid s a k n lt =
    let x : eqb k 255 ≡ false = grind (arith, nat_tests) in
    let y : eqb k 254 ≡ false = grind (arith, nat_tests) in
    rw (x, y) refl

step-enter : (laid : LaidOut) (s : Store) {a k : ℕ} (n : ℕ) → k < 254 → s a ≡ byte k
    → step laid s a n (look_of (s a)) ≡ record { at = a + head_size laid k; due = packed_at laid k + n }
step-enter laid s {a = a} {k = k} n lt e =
    ap (λ (x : Cell). step laid s a n (look_of x)) e ∙ step-head laid s a k n lt

Walk-steps : {laid : LaidOut} {s : Store} {roof c a n z : ℕ} (f : ℕ) → Walk laid s roof c a n z → c ≤ f → steps f laid s a n ≡ c
unfolding steps
Walk-steps zero end le = refl
Walk-steps (suc f) end le = refl
Walk-steps zero (turn m p w) le = absurd (omega arith)
Walk-steps zero (pass m p w) le = absurd (omega arith)
Walk-steps zero (enter m b i e w) le = absurd (omega arith)
Walk-steps {laid = laid} {s = s} (suc f) (turn {c = c} {n = n} m p w) le = ap (λ (x : Stand). suc (steps f laid s x.at x.due)) (step-turn laid n p) ∙ ap suc (Walk-steps {c = c} f w (omega arith))
Walk-steps {laid = laid} {s = s} (suc f) (pass {c = c} {n = n} m p w) le = ap (λ (x : Stand). suc (steps f laid s x.at x.due)) (step-pass laid n p) ∙ ap suc (Walk-steps {c = c} f w (omega arith))
Walk-steps {laid = laid} {s = s} (suc f) (enter {c = c} {n = n} m b i e w) le = ap (λ (x : Stand). suc (steps f laid s x.at x.due)) (step-enter laid s n b e) ∙ ap suc (Walk-steps {c = c} f w (omega arith))

-- ---- one step of a walk

-- the walk goes on from another place, with fewer steps to go
pub record Onward (laid : LaidOut) (s : Store) (bound a n b m z : ℕ) : Type 0 where
  pub goes : Goes laid s bound b m z
  pub fewer : steps (most bound) laid s b m < steps (most bound) laid s a n

onward : {laid : LaidOut} {s : Store} {c bound a n b m z : ℕ} → Walk laid s (7 * bound) (suc c) a n z → Walk laid s (7 * bound) c b m z → suc c ≤ most bound → Onward laid s bound a n b m z
onward {bound = bound} w v le =
    let p = Walk-steps (most bound) w le in
    let q = Walk-steps (most bound) v (omega arith) in
    record { goes = record { walks = record { count = _; walk = v; within = omega arith } }; fewer = omega arith }

pub record Turned (laid : LaidOut) (s : Store) (bound a n z : ℕ) : Type 0 where
  pub target : ℕ
  pub points : Points s a 255 target
  pub on : Onward laid s bound a (suc n) target (suc n) z

go_turn : {laid : LaidOut} {s : Store} {count bound a n z : ℕ} → Walk laid s (7 * bound) count a (suc n) z → count ≤ most bound → s a ≡ byte 255 → Turned laid s bound a n z
go_turn (turn m p w) le e = record { target = _; points = p; on = onward (turn m p w) w le }
go_turn {s = s} {a = a} (pass m p w) le e = let tag = same_byte s a _ _ (Holds-first p.bytes) e in absurd (omega arith)
go_turn {s = s} {a = a} (enter m b i o w) le e = let tag = same_byte s a _ _ o e in absurd (omega arith)

go_pass : {laid : LaidOut} {s : Store} {count bound a n z : ℕ} → Walk laid s (7 * bound) count a (suc n) z → count ≤ most bound → s a ≡ byte 254 → Onward laid s bound a (suc n) (a + 9) n z
go_pass {s = s} {a = a} (turn m p w) le e = let tag = same_byte s a _ _ (Holds-first p.bytes) e in absurd (omega arith)
go_pass (pass m p w) le e = onward (pass m p w) w le
go_pass {s = s} {a = a} (enter m b i o w) le e = let tag = same_byte s a _ _ o e in absurd (omega arith)

pub record Entered (laid : LaidOut) (s : Store) (bound a n z k : ℕ) : Type 0 where
  pub is : k < length laid.table.rows
  pub on : Onward laid s bound a (suc n) (a + head_size laid k) (packed_at laid k + n) z

go_enter : {laid : LaidOut} {s : Store} {count bound a n z k : ℕ} → Walk laid s (7 * bound) count a (suc n) z → count ≤ most bound → s a ≡ byte k → k ≢ 255 → k ≢ 254 → Entered laid s bound a n z k
go_enter {s = s} {a = a} (turn m p w) le e x y = let tag = same_byte s a _ _ (Holds-first p.bytes) e in absurd (omega arith)
go_enter {s = s} {a = a} (pass m p w) le e x y = let tag = same_byte s a _ _ (Holds-first p.bytes) e in absurd (omega arith)
go_enter {laid = laid} {s = s} {bound = bound} {a = a} {n = n} {z = z} {k = k} (enter {k = j} m b i o w) le e x y =
    let tag : j ≡ k = same_byte s a j k o e in
    record {
      is = subst (λ (i : ℕ). i < length laid.table.rows) tag i;
      on = subst (λ (i : ℕ). Onward laid s bound a (suc n) (a + head_size laid i) (packed_at laid i + n) z) tag (onward (enter m b i o w) w le);
    }

go_stands : {laid : LaidOut} {s : Store} {roof count a n z : ℕ} → Walk laid s roof count a (suc n) z → (b : ℕ) × (s a ≡ byte b) × (n ≤ roof)
go_stands (turn m p w) = (255, Holds-first p.bytes, m)
go_stands (pass m p w) = (254, Holds-first p.bytes, m)
go_stands (enter {k = k} m b i o w) = (k, o, m)

go_end : {laid : LaidOut} {s : Store} {roof count a z : ℕ} → Walk laid s roof count a 0 z → a ≡ z
go_end end = refl

-- ---- the same at a number of values that is not 0

module _ (laid : LaidOut) (s : Store) (bound a left z : ℕ) (w : Goes laid s bound a left z) (some : 0 < left) where
  at_suc : Walk laid s (7 * bound) w.walks.count a (suc (left - 1)) z
  at_suc = let e : left ≡ suc (left - 1) = omega arith in subst (λ (x : ℕ). Walk laid s (7 * bound) w.walks.count a x z) e w.walks.walk

  pub stands : (b : ℕ) × (s a ≡ byte b) × (left - 1 ≤ 7 * bound)
  stands = go_stands at_suc

  same_left : suc (left - 1) ≡ left
  same_left = omega arith

  pub turned : s a ≡ byte 255 → (b : ℕ) × Points s a 255 b × Onward laid s bound a left b left z
  turned e = let r = go_turn at_suc w.walks.within e in (r.target, r.points, subst (λ (x : ℕ). Onward laid s bound a x r.target x z) same_left r.on)

  pub passed : s a ≡ byte 254 → Onward laid s bound a left (a + 9) (left - 1) z
  passed e = subst (λ (x : ℕ). Onward laid s bound a x (a + 9) (left - 1) z) same_left (go_pass at_suc w.walks.within e)

  pub entered : (k : ℕ) → s a ≡ byte k → k ≢ 255 → k ≢ 254 → (k < length laid.table.rows) × Onward laid s bound a left (a + head_size laid k) (packed_at laid k + (left - 1)) z
  entered k e x y = let r = go_enter at_suc w.walks.within e x y in (r.is, subst (λ (i : ℕ). Onward laid s bound a i (a + head_size laid k) (packed_at laid k + (left - 1)) z) same_left r.on)

pub ended : (laid : LaidOut) (s : Store) (bound a left z : ℕ) → Goes laid s bound a left z → left ≡ 0 → a ≡ z
ended laid s bound a left z w empty = go_end (subst (λ (x : ℕ). Walk laid s (7 * bound) w.walks.count a x z) empty w.walks.walk)

-- what a memory knows stands below 2 ^ 44
pub known_below : (m : Memory) → IsBounded m → Below m.cells (2 ^ 44)
known_below m bounded = record {
  below = λ q b e. elim (leb_tells (2 ^ 44) q) [
    | inl high ↦ (let none_there = bounded.above q (omega (arith, high.1, bounded.order, bounded.small)) in absurd cc)
    | inr low ↦ low.1
  ];
}
