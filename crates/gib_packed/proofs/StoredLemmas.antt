-- The places that a head stores.
use Rattle.std.proofs.Common.{◌≡◌, ℕ, zero, suc, ◌+◌, ◌-◌, ◌*◌, ◌<◌, ◌≤◌, ◌^◌, List, [], ◌∷◌, ◌++◌, length, refl, sym, ap, subst, ◌∙◌, arith, append_assoc, Bool, true}
use Rattle.std.specs.Prelude.{slice_get, Some}
use Rattle.gib_types.specs.Table.{fields_at}
use Rattle.gib_types.specs.Layout.{LaidOut, head_size, is_among, packed_at}
use Rattle.gib_types.specs.Tree.{Datum, con, Data}
use Rattle.gib_mem.specs.Memory.{Store, Holds, none, more}
use Rattle.gib_packed.specs.Scalars.{scalars}
use Rattle.gib_packed.specs.Head.{address, addresses, offset_bytes, head_bytes}
use Rattle.gib_packed.specs.Decoding.{Dec, redirect, indirect, head, Decs}
use Rattle.gib_packed.specs.Fields.{Field, IsStored}
use Rattle.gib_packed.specs.Walking.{Below}
use Rattle.gib_packed.proofs.HoldsLemmas.{Holds-first, Holds-rest, same_byte}
use Rattle.gib_packed.proofs.HeadLemmas.{Decs-places}
use Rattle.gib_packed.proofs.FieldLemmas.{Field-there, Field-placed, Field-same, places-below}

-- bytes in front of others, and behind others
pub Holds-front : {s : Store} (a : ℕ) (xs ys : List ℕ) → Holds s a (xs ++ ys) → Holds s a xs
Holds-front a [] ys h = none
Holds-front a (x ∷ xs) ys (more e h) = more e (Holds-front (a + 1) xs ys h)

pub Holds-behind : {s : Store} (a : ℕ) (xs ys : List ℕ) → Holds s a (xs ++ ys) → Holds s (a + length xs) ys
Holds-behind {s = s} a [] ys h = let e : a ≡ a + length {A = ℕ} [] = omega arith in subst (λ (q : ℕ). Holds s q ys) e h
Holds-behind {s = s} a (x ∷ xs) ys (more e h) =
    let q : a + 1 + length xs ≡ a + length (x ∷ xs) = omega arith in
    subst (λ (r : ℕ). Holds s r ys) q (Holds-behind (a + 1) xs ys h)

-- the address with number i of some that stand one after another
pub nth_address : {s : Store} (a : ℕ) (ps xs : List ℕ) (i p : ℕ) → Holds s a (addresses ps ++ xs) → slice_get ps i ≡ Some p → Holds s (a + 8 * i) (address p)
nth_address a [] xs i p h e = absurd cc
nth_address {s = s} a (b ∷ ps) xs zero p h e =
    let same : b ≡ p = cc in
    let q : a ≡ a + 8 * 0 = omega arith in
    subst (λ (r : ℕ). Holds s r (address p)) q (subst (λ (x : ℕ). Holds s a (address x)) same (Holds-front a (address b) (addresses ps ++ xs) (subst (Holds s a) (append_assoc (address b) (addresses ps) xs) h)))
nth_address {s = s} a (b ∷ ps) xs (suc i) p h e =
    let q : a + 8 + 8 * i ≡ a + 8 * suc i = omega arith in
    subst (λ (r : ℕ). Holds s r (address p)) q
    (nth_address (a + 8) ps xs i p (Holds-behind a (address b) (addresses ps ++ xs) (subst (Holds s a) (append_assoc (address b) (addresses ps) xs) h)) e)

-- a place from the second one on, in the bytes of a head
offset_at : {s : Store} (a : ℕ) (ps xs : List ℕ) (i p : ℕ) → Holds s a (offset_bytes true ps ++ xs) → slice_get ps (suc i) ≡ Some p → Holds s (a + 8 * i) (address p)
offset_at a [] xs i p h e = absurd cc
offset_at a (b ∷ ps) xs i p h e = nth_address a ps xs i p h e

-- the field that a head stores: where it stands, and what stands in the head
pub record Stored (laid : LaidOut) (s : Store) (a k field : ℕ) (vs : Data) : Type 0 where
  pub value : Datum
  pub place : ℕ
  pub end : ℕ
  pub is : Field laid s (a + head_size laid k) (fields_at laid.table k) vs (field - 1) value place end
  pub holds : Holds s (a + 1 + 8 * (field - 2)) (address place)
  pub small : place < 2 ^ 64

stored_in : {laid : LaidOut} {s : Store} {a k field z : ℕ} {vs : Data} {places : List ℕ} → Below s (2 ^ 44) → is_among laid.with_offsets k ≡ true → 2 ≤ field → field ≤ packed_at laid k
    → Holds s a (head_bytes laid k places vs) → Decs laid s (a + head_size laid k) (fields_at laid.table k) vs places z → Stored laid s a k field vs
stored_in {laid = laid} {s = s} {a = a} {k = k} {field = field} {vs = vs} {places = places} below o later few h ds =
    let count = Decs-places ds in
    let r = Field-there (field - 1) ds (omega (arith, later, few, count)) in
    let e = Field-placed ds r.3 in
    let n : field - 1 ≡ suc (field - 2) = omega (arith, later) in
    let low = places-below below ds (field - 1) r.1 e in
    record {
      value = r.0;
      place = r.1;
      end = r.2;
      is = r.3;
      holds = offset_at (a + 1) places (scalars vs) (field - 2) r.1
          (subst (λ (x : Bool). Holds s (a + 1) (offset_bytes x places ++ scalars vs)) o (Holds-rest h))
          (ap (λ (x : ℕ). slice_get places x) (sym n) ∙ e);
      small = omega (arith, low);
    }

-- what stands at a head's place with these fields
pub stored_of : {laid : LaidOut} {s : Store} {a t z field : ℕ} {v : Datum} → Below s (2 ^ 44) → IsStored laid s a field → Dec laid s a t v z → (k : ℕ) × (vs : Data) × (v ≡ con k vs) × Stored laid s a k field vs
stored_of {s = s} {a = a} below is (redirect p d) = let tag = same_byte s a _ _ is.tag (Holds-first p.bytes) in absurd (omega (arith, tag, is.below))
stored_of {s = s} {a = a} below is (indirect p d e) = let tag = same_byte s a _ _ is.tag (Holds-first p.bytes) in absurd (omega (arith, tag, is.below))
stored_of {laid = laid} {s = s} {a = a} {field = field} below is (head {k = k} {vs = vs} b o h ds) =
    let tag = same_byte s a _ _ is.tag (Holds-first h) in
    (k, vs, refl, stored_in below (subst (λ (x : ℕ). is_among laid.with_offsets x ≡ true) tag is.offsets) is.later (subst (λ (x : ℕ). field ≤ packed_at laid x) tag is.packed) h ds)

-- where its field stands is what is stored
pub stored_is : {laid : LaidOut} {s : Store} {a t k z field p y : ℕ} {vs : Data} {v : Datum} → Below s (2 ^ 44) → IsStored laid s a field → Dec laid s a t (con k vs) z
    → Field laid s (a + head_size laid k) (fields_at laid.table k) vs (field - 1) v p y → Holds s (a + 1 + 8 * (field - 2)) (address p) × (p < 2 ^ 64)
stored_is {s = s} {a = a} below is (redirect q d) f = let tag = same_byte s a _ _ is.tag (Holds-first q.bytes) in absurd (omega (arith, tag, is.below))
stored_is {s = s} {a = a} below is (indirect q d e) f = let tag = same_byte s a _ _ is.tag (Holds-first q.bytes) in absurd (omega (arith, tag, is.below))
stored_is {laid = laid} {s = s} {a = a} {field = field} {p = p} below is (head {k = k} {vs = vs} b o h ds) f =
    let tag = same_byte s a _ _ is.tag (Holds-first h) in
    let r = stored_in below (subst (λ (x : ℕ). is_among laid.with_offsets x ≡ true) tag is.offsets) is.later (subst (λ (x : ℕ). field ≤ packed_at laid x) tag is.packed) h ds in
    let same = (Field-same r.is f).place in
    (subst (λ (x : ℕ). Holds s (a + 1 + 8 * (field - 2)) (address x)) same r.holds, subst (λ (x : ℕ). x < 2 ^ 64) same r.small)
