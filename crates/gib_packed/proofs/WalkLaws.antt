-- What holds of each walk, and one step of it.
use Rattle.std.proofs.Common.{◌≡◌, ℕ, suc, ◌+◌, ◌*◌, ◌<◌, ◌≤◌, length, refl, subst, arith}
use Rattle.gib_types.specs.Layout.{LaidOut, head_size, packed_at}
use Rattle.gib_types.specs.Tree.{Datum}
use Rattle.gib_mem.specs.Memory.{Store, Grows, byte}
use Rattle.gib_packed.specs.Decoding.{Dec, Points}
use Rattle.gib_packed.specs.Reaching.{Leads, here, on, Turns}
use Rattle.gib_packed.specs.Reaching as reaching
use Rattle.gib_packed.specs.Walking.{Walk, end, turn, pass, enter, Below, Reaches, there, hop}
use Rattle.gib_packed.proofs.Grow.{Points-grows}
use Rattle.gib_packed.proofs.HoldsLemmas.{Holds-first, same_byte}
use Rattle.gib_packed.proofs.WalkLemmas.{Dec-goes}
use Rattle.gib_packed.proofs.FollowLemmas.{Dec-reaches}

pub Turns-grows : {s r : Store} {a b : ℕ} → Grows s r → Turns s a b → Turns r a b
Turns-grows g reaching.there = reaching.there
Turns-grows g (reaching.turn p t) = reaching.turn (Points-grows g p) (Turns-grows g t)

pub Leads-grows : {s r : Store} {a h : ℕ} → Grows s r → Leads s a h → Leads r a h
Leads-grows g (here e lt) = here (g.kept _ _ e) lt
Leads-grows g (on p le l) = on (Points-grows g p) le (Leads-grows g l)

pub Reaches-grows : {s r : Store} {n a : ℕ} → Grows s r → Reaches s n a → Reaches r n a
Reaches-grows g (there e lt) = there (g.kept _ _ e) lt
Reaches-grows g (hop p le d) = hop (Points-grows g p) le (Reaches-grows g d)

pub Walk-grows : {laid : LaidOut} {s r : Store} {roof c a n z : ℕ} → Grows s r → Walk laid s roof c a n z → Walk laid r roof c a n z
Walk-grows g end = end
Walk-grows g (turn m p w) = turn m (Points-grows g p) (Walk-grows g w)
Walk-grows g (pass m p w) = pass m (Points-grows g p) (Walk-grows g w)
Walk-grows g (enter m b i e w) = enter m b i (g.kept _ _ e) (Walk-grows g w)

pub Walk-ended : {laid : LaidOut} {s : Store} {roof c a z : ℕ} → Walk laid s roof c a 0 z → a ≡ z
Walk-ended end = refl

pub Walk-stands : {laid : LaidOut} {s : Store} {roof c a n z : ℕ} → Walk laid s roof c a (suc n) z → (b : ℕ) × (s a ≡ byte b) × (n ≤ roof)
Walk-stands (turn m p w) = (255, Holds-first p.bytes, m)
Walk-stands (pass m p w) = (254, Holds-first p.bytes, m)
Walk-stands (enter {k = k} m b i o w) = (k, o, m)

pub Walk-turned : {laid : LaidOut} {s : Store} {roof c a n z : ℕ} → Walk laid s roof c a (suc n) z → s a ≡ byte 255 → (b : ℕ) × (d : ℕ) × Points s a 255 b × Walk laid s roof d b (suc n) z
Walk-turned (turn m p w) e = (_, _, p, w)
Walk-turned {s = s} {a = a} (pass m p w) e = let tag = same_byte s a _ _ (Holds-first p.bytes) e in absurd (omega arith)
Walk-turned {s = s} {a = a} (enter m b i o w) e = let tag = same_byte s a _ _ o e in absurd (omega arith)

pub Walk-passed : {laid : LaidOut} {s : Store} {roof c a n z : ℕ} → Walk laid s roof c a (suc n) z → s a ≡ byte 254 → (d : ℕ) × Walk laid s roof d (a + 9) n z
Walk-passed {s = s} {a = a} (turn m p w) e = let tag = same_byte s a _ _ (Holds-first p.bytes) e in absurd (omega arith)
Walk-passed (pass m p w) e = (_, w)
Walk-passed {s = s} {a = a} (enter m b i o w) e = let tag = same_byte s a _ _ o e in absurd (omega arith)

pub Walk-entered : {laid : LaidOut} {s : Store} {roof c a n z : ℕ} (k : ℕ) → Walk laid s roof c a (suc n) z → s a ≡ byte k → k < 254 → (d : ℕ) × (k < length laid.table.rows) × Walk laid s roof d (a + head_size laid k) (packed_at laid k + n) z
Walk-entered {s = s} {a = a} k (turn m p w) e lt = let tag = same_byte s a _ _ (Holds-first p.bytes) e in absurd (omega arith)
Walk-entered {s = s} {a = a} k (pass m p w) e lt = let tag = same_byte s a _ _ (Holds-first p.bytes) e in absurd (omega arith)
Walk-entered {laid = laid} {s = s} {roof = roof} {a = a} {n = n} {z = z} k (enter {c = c} {k = j} m b i o w) e lt =
    let tag : j ≡ k = same_byte s a j k o e in
    (c, subst (λ (x : ℕ). x < length laid.table.rows) tag i, subst (λ (x : ℕ). Walk laid s roof c (a + head_size laid x) (packed_at laid x + n) z) tag w)

-- each value is walked over
pub value-walked : {laid : LaidOut} {s : Store} {bound a t z : ℕ} {v : Datum} → ((k : ℕ) → packed_at laid k ≤ 8) → Below s bound → Dec laid s a t v z → (c : ℕ) × Walk laid s (7 * bound) c a 1 z
value-walked few w d = let g = Dec-goes few w d in (g.walks.count, g.walks.walk)

-- redirects and indirections lead from each value to a head
pub value-reaches : {laid : LaidOut} {s : Store} {bound a t z : ℕ} {v : Datum} → Below s bound → Dec laid s a t v z → (n : ℕ) × (n ≤ bound) × Reaches s n a
value-reaches w d = let r = Dec-reaches w d in (r.count, r.within, r.reaches)
