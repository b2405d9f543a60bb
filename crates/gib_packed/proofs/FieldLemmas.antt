-- The packed fields of a value, one by one.
use Rattle.std.proofs.Common.{◌≡◌, ℕ, zero, suc, ◌<◌, List, length, refl, subst, arith}
use Rattle.std.specs.Prelude.{slice_get, Option, Some}
use Rattle.gib_types.specs.declared.table.Ty.{Ty}
use Rattle.gib_types.specs.Layout.{LaidOut}
use Rattle.gib_types.specs.Tree.{Datum, Data}
use Rattle.gib_mem.specs.Memory.{Store, Grows}
use Rattle.gib_packed.specs.Decoding.{Dec, Decs, done, whole_field, truth_field, tree_field}
use Rattle.gib_packed.specs.Fields.{Field, this, later, past_whole, past_truth}
use Rattle.gib_packed.specs.Walking.{Below}
use Rattle.gib_packed.proofs.Grow.{Dec-grows}
use Rattle.gib_packed.proofs.Unique.{Dec-same}
use Rattle.gib_packed.proofs.SpanLemmas.{Dec-known}

pub Field-grows : {laid : LaidOut} {s r : Store} {a n p z : ℕ} {ts : List Ty} {vs : Data} {v : Datum} → Grows s r → Field laid s a ts vs n v p z → Field laid r a ts vs n v p z
Field-grows g (this d) = this (Dec-grows g d)
Field-grows g (later d f) = later (Dec-grows g d) (Field-grows g f)
Field-grows g (past_whole f) = past_whole (Field-grows g f)
Field-grows g (past_truth f) = past_truth (Field-grows g f)

-- it stands at its place
pub Field-stands : {laid : LaidOut} {s : Store} {a n p z : ℕ} {ts : List Ty} {vs : Data} {v : Datum} → Field laid s a ts vs n v p z → (t : ℕ) × Dec laid s p t v z
Field-stands (this {t = t} d) = (t.0, d)
Field-stands (later d f) = Field-stands f
Field-stands (past_whole f) = Field-stands f
Field-stands (past_truth f) = Field-stands f

-- there is one of each number
pub Field-there : {laid : LaidOut} {s : Store} {a z : ℕ} {ts : List Ty} {vs : Data} {places : List ℕ} (n : ℕ) → Decs laid s a ts vs places z → n < length places → (v : Datum) × (p : ℕ) × (y : ℕ) × Field laid s a ts vs n v p y
Field-there n done lt = absurd (omega (arith, lt))
Field-there n (whole_field b ds) lt = let r = Field-there n ds lt in (r.0, r.1, r.2, past_whole r.3)
Field-there n (truth_field ds) lt = let r = Field-there n ds lt in (r.0, r.1, r.2, past_truth r.3)
Field-there zero (tree_field {a = a} {y = y} {v = v} d ds) lt = (v, a, y, this d)
Field-there (suc n) (tree_field d ds) lt = let r = Field-there n ds (omega (arith, lt)) in (r.0, r.1, r.2, later d r.3)

-- its place is the one that the head may store
pub Field-placed : {laid : LaidOut} {s : Store} {a n p y z : ℕ} {ts : List Ty} {vs : Data} {v : Datum} {places : List ℕ} → Decs laid s a ts vs places z → Field laid s a ts vs n v p y → slice_get places n ≡ Some p
Field-placed done f = elim f [ ]
Field-placed (whole_field b ds) (past_whole f) = Field-placed ds f
Field-placed (truth_field ds) (past_truth f) = Field-placed ds f
Field-placed (tree_field e ds) (this d) = refl
Field-placed {laid = laid} {s = s} {z = z} (tree_field {ts = ts} {vs = vs} {places = places} e ds) (later d f) =
    let r = Dec-same e d in
    Field-placed (subst (λ (x : ℕ). Decs laid s x ts vs places z) r.end ds) f

pub record SameField (v w : Datum) (p q y z : ℕ) : Type 0 where
  pub value : v ≡ w
  pub place : p ≡ q
  pub end : y ≡ z

-- and no other one
pub Field-same : {laid : LaidOut} {s : Store} {a n p q y z : ℕ} {ts : List Ty} {vs : Data} {v w : Datum} → Field laid s a ts vs n v p y → Field laid s a ts vs n w q z → SameField v w p q y z
Field-same (this d) (this e) = let r = Dec-same d e in record { value = refl; place = refl; end = r.end }
Field-same {laid = laid} {s = s} {q = q} {z = z} {w = w} (later {n = n} {ts = ts} {vs = vs} d f) (later e g) =
    let r = Dec-same e d in
    Field-same f (subst (λ (x : ℕ). Field laid s x ts vs n w q z) r.end g)
Field-same (past_whole f) (past_whole g) = Field-same f g
Field-same (past_truth f) (past_truth g) = Field-same f g

-- each place is one at which a byte stands
pub places-below : {laid : LaidOut} {s : Store} {bound a z : ℕ} {ts : List Ty} {vs : Data} {places : List ℕ} → Below s bound → Decs laid s a ts vs places z → (n p : ℕ) → slice_get places n ≡ Some p → p < bound
places-below w done n p e = absurd cc
places-below w (whole_field b ds) n p e = places-below w ds n p e
places-below w (truth_field ds) n p e = places-below w ds n p e
places-below {bound = bound} w (tree_field {a = a} d ds) zero p e = let k = Dec-known d in subst (λ (x : ℕ). x < bound) (same_some a p e) (w.below _ _ k.1)
  where
    same_some : (a p : ℕ) → ◌≡◌ {A = Option ℕ} (Some a) (Some p) → a ≡ p
    same_some a p e = cc
places-below w (tree_field d ds) (suc n) p e = places-below w ds n p e
