-- Redirects and indirections lead to a head.
use Rattle.std.proofs.Common.{◌≡◌, ℕ, zero, suc, ◌<◌, ◌≤◌, refl, ap, subst, ◌∙◌, arith, Bool, true, false, cond, ltb}
use Rattle.std.proofs.lemmas.Bool.Decides.{nat_tests}
use Rattle.gib_types.specs.Tree.{Datum}
use Rattle.gib_mem.specs.Memory.{Store, Cell, byte, look_of}
use Rattle.gib_types.specs.Layout.{LaidOut}
use Rattle.gib_packed.specs.Decoding.{Points, Dec}
use Rattle.gib_packed.specs.Decoding as dec
use Rattle.gib_packed.proofs.Spans.{Span, redirect, indirect, head, Below}
use Rattle.gib_packed.proofs.Steps.{hops, target_at, Reaches, there, hop}
use Rattle.gib_packed.proofs.HoldsLemmas.{Holds-first, same_byte, Points-same}
use Rattle.gib_packed.proofs.SpanLemmas.{Dec-span, Span-height}
use Rattle.gib_packed.proofs.WalkLemmas.{target_at-Points}

-- so many hops at most
pub record ReachesWithin (s : Store) (bound a : ℕ) : Type 0 where
  pub count : ℕ
  pub within : count ≤ bound
  pub reaches : Reaches s count a

Span-reaches : {laid : LaidOut} {s : Store} {h a z : ℕ} → Span laid s h a z → ReachesWithin s h a
Span-reaches (redirect p d) = let r = Span-reaches d in record { count = suc r.count; within = omega (arith, r.within); reaches = hop p (omega arith) r.reaches }
Span-reaches (indirect p d e) = let r = Span-reaches d in record { count = suc r.count; within = omega (arith, r.within); reaches = hop p (omega arith) r.reaches }
Span-reaches (head b i e ds) = record { count = 0; within = omega arith; reaches = there e b }

pub Dec-reaches : {laid : LaidOut} {s : Store} {bound a t z : ℕ} {v : Datum} → Below s bound → Dec laid s a t v z → ReachesWithin s bound a
Dec-reaches w d = let r = Dec-span d in let q = Span-reaches r.1 in let le = Span-height w r.1 in record { count = q.count; within = omega (arith, q.within); reaches = q.reaches }

Reaches-hops : {s : Store} {n a : ℕ} (f : ℕ) → Reaches s n a → n ≤ f → hops f s a ≡ n
unfolding hops
Reaches-hops zero (there e lt) le = refl
Reaches-hops {s = s} (suc f) (there {a = a} {k = k} e lt) le =
    let low : ltb k 254 ≡ true = grind (arith, nat_tests) in
    ap (λ (x : Cell). cond (ltb (look_of x) 254) 0 (suc (hops f s (target_at s a)))) e ∙ ap (λ (b : Bool). cond b 0 (suc (hops f s (target_at s a)))) low
Reaches-hops zero (hop p lt d) le = absurd (omega arith)
Reaches-hops {s = s} (suc f) (hop {n = n} {a = a} {b = b} {tag = k} p lt d) le =
    let high : ltb k 254 ≡ false = grind (arith, nat_tests) in
    ap (λ (x : Cell). cond (ltb (look_of x) 254) 0 (suc (hops f s (target_at s a)))) (Holds-first p.bytes)
    ∙ ap (λ (b : Bool). cond b 0 (suc (hops f s (target_at s a)))) high
    ∙ ap (λ (x : ℕ). suc (hops f s x)) (target_at-Points p) ∙ ap suc (Reaches-hops {n = n} f d (omega arith))

-- one hop
pub record Hops (s : Store) (bound a tag : ℕ) : Type 0 where
  pub target : ℕ
  pub points : Points s a tag target
  pub reaches : ReachesWithin s bound target
  pub fewer : hops bound s target < hops bound s a

hop_on : {s : Store} {n bound a : ℕ} (tag : ℕ) → Reaches s n a → n ≤ bound → s a ≡ byte tag → 254 ≤ tag → Hops s bound a tag
hop_on {s = s} {a = a} tag (there e lt) le is high = let same = same_byte s a _ _ e is in absurd (omega arith)
hop_on {s = s} {bound = bound} {a = a} tag (hop {b = b} {tag = k} p lt d) le is high =
    let same = same_byte s a _ _ (Holds-first p.bytes) is in
    let before = Reaches-hops bound (hop p lt d) le in
    let after = Reaches-hops bound d (omega arith) in
    record { target = b; points = subst (λ (x : ℕ). Points s a x b) same p; reaches = record { count = _; within = omega arith; reaches = d }; fewer = omega arith }

pub hop_within : {s : Store} {bound a : ℕ} (tag : ℕ) → ReachesWithin s bound a → s a ≡ byte tag → 254 ≤ tag → Hops s bound a tag
hop_within tag l is high = hop_on tag l.reaches l.within is high

-- the value stands where its place leads
pub Dec-hop : {laid : LaidOut} {s : Store} {a b t z : ℕ} {v : Datum} (tag : ℕ) → Dec laid s a t v z → Points s a tag b → 254 ≤ tag → (y : ℕ) × Dec laid s b t v y
Dec-hop {laid = laid} {s = s} {t = t} {z = z} {v = v} tag (dec.redirect p d) q high = let e = Points-same p q in (z, subst (λ (x : ℕ). Dec laid s x t v z) e.target d)
Dec-hop {laid = laid} {s = s} {t = t} {z = z} {v = v} tag (dec.indirect {y = y} p d f) q high = let e = Points-same p q in (y, subst (λ (x : ℕ). Dec laid s x t v y) e.target d)
Dec-hop {s = s} {a = a} tag (dec.head b i h ds) q high = let same = same_byte s a _ _ (Holds-first h) (Holds-first q.bytes) in absurd (omega arith)

pub Reaches-known : {s : Store} {bound a : ℕ} → ReachesWithin s bound a → (b : ℕ) × (s a ≡ byte b)
Reaches-known l = go l.reaches
  where
    go : {s : Store} {n a : ℕ} → Reaches s n a → (b : ℕ) × (s a ≡ byte b)
    go (there {k = k} e lt) = (k, e)
    go (hop {tag = tag} p lt d) = (tag, Holds-first p.bytes)

-- the value stands where a redirect leads, and ends there
pub Dec-redirect : {laid : LaidOut} {s : Store} {a b t z : ℕ} {v : Datum} → Dec laid s a t v z → Points s a 255 b → Dec laid s b t v z
Dec-redirect {laid = laid} {s = s} {t = t} {z = z} {v = v} (dec.redirect p d) q = let e = Points-same p q in subst (λ (x : ℕ). Dec laid s x t v z) e.target d
Dec-redirect (dec.indirect p d f) q = let e = Points-same p q in absurd (omega arith)
Dec-redirect {s = s} {a = a} (dec.head b i h ds) q = let same = same_byte s a _ _ (Holds-first h) (Holds-first q.bytes) in absurd (omega arith)
