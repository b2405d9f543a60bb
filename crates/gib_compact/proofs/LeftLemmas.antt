-- What a walk has left.
use Rattle.std.proofs.Common.{◌≡◌, ◌≢◌, ℕ, zero, suc, ◌+◌, ◌-◌, ◌<◌, ◌≤◌, List, [], ◌∷◌, ◌++◌, length, take, drop, get_or, Bool, true, false, refl, sym, ap, subst, arith, append_assoc}
use Rattle.std.specs.Int.{w64, to_le_bytes, from_le_bytes, cast_unsigned}
use Rattle.std.proofs.lemmas.List.{length-take-le, length-drop, take-append-drop}
use Rattle.std.proofs.lemmas.Nat.{le_bytes_8}
use Rattle.gib_types.specs.declared.table.Ty.{Ty}
use Rattle.gib_types.specs.Layout.{LaidOut, is_among, head_size, packed_at, packed_count}
use Rattle.gib_types.specs.Tree.{Datum, Data}
use Rattle.gib_mem.specs.Memory.{Store, Holds, byte}
use Rattle.gib_file.specs.Packed.{tree, trees}
use Rattle.gib_packed.specs.Scalars.{scalars, number, bit}
use Rattle.gib_packed.specs.Head.{offset_bytes}
use Rattle.gib_packed.specs.Decoding.{Dec, redirect, indirect, head, Decs, done, whole_field, truth_field, tree_field}
use Rattle.gib_packed.specs.Reaching.{Leads, here, on}
use Rattle.gib_packed.proofs.HoldsLemmas.{Holds-first, Holds-rest, same_byte}
use Rattle.gib_packed.proofs.HeadLemmas.{Dec-no_scalar, Decs-scalars, offsets-length}
use Rattle.gib_packed.proofs.StoredLemmas.{Holds-front, Holds-behind}
use Rattle.gib_packed.proofs.SpanLemmas.{con_within}
use Rattle.gib_packed.proofs.Typed.{Leads-same}
use Rattle.gib_compact.specs.declared.walk.Back.{Back}
use Rattle.gib_compact.specs.Left.{Left, over, back, value, scalars_at, IsHead}

-- where nothing is due, a walk stands anywhere
pub Left-anywhere : {laid : LaidOut} {s : Store} {a : ℕ} {bs : List Back} {rest : List ℕ} (b : ℕ) → Left laid s a 0 bs rest → Left laid s b 0 bs rest
Left-anywhere b over = over
Left-anywhere b (back l) = back l

-- the next value, and what is left behind it
pub record Next (laid : LaidOut) (s : Store) (a n : ℕ) (bs : List Back) (rest : List ℕ) : Type 0 where
  pub t : ℕ
  pub v : Datum
  pub end : ℕ
  pub later : List ℕ
  pub stands : Dec laid s a t v end
  pub left : Left laid s end n bs later
  pub whole : rest ≡ tree v ++ later

next_suc : {laid : LaidOut} {s : Store} {a n : ℕ} {bs : List Back} {rest : List ℕ} → Left laid s a (suc n) bs rest → Next laid s a n bs rest
next_suc (value d l) = record { t = _; v = _; end = _; later = _; stands = d; left = l; whole = refl }

pub next_value : {laid : LaidOut} {s : Store} {a n : ℕ} {bs : List Back} {rest : List ℕ} → 0 < n → Left laid s a n bs rest → Next laid s a (n - 1) bs rest
next_value {laid = laid} {s = s} {a = a} {n = n} {bs = bs} {rest = rest} some l =
    let e : n ≡ suc (n - 1) = omega arith in
    next_suc (subst (λ (x : ℕ). Left laid s a x bs rest) e l)

-- no value, no way back: nothing is left
pub left_nothing : {laid : LaidOut} {s : Store} {a : ℕ} {rest : List ℕ} → Left laid s a 0 [] rest → rest ≡ []
left_nothing over = refl

-- a value that does not stand at its place's head ends behind an indirection
pub ends_behind : {laid : LaidOut} {s : Store} {p h t z : ℕ} {v : Datum} → (s p ≡ byte 255 → ⊥) → Leads s p h → h ≢ p → Dec laid s p t v z → z ≡ p + 9
ends_behind past l apart (redirect p d) = absurd (past (Holds-first p.bytes))
ends_behind past l apart (indirect p d e) = e
ends_behind past l apart (head lt i o ds) = absurd (apart (Leads-same l (here (Holds-first o) lt)))

-- the packed fields of a head are due first
pub fields_left : {laid : LaidOut} {s : Store} {a z n : ℕ} {ts : List Ty} {vs : Data} {places : List ℕ} {bs : List Back} {rest : List ℕ} → Decs laid s a ts vs places z → Left laid s z n bs rest
    → Left laid s a (packed_count ts + n) bs (trees vs ++ rest)
fields_left {laid = laid} {s = s} {n = n} {bs = bs} {rest = rest} (done {a = a}) l = let e : n ≡ 0 + n = omega arith in subst (λ (x : ℕ). Left laid s a x bs rest) e l
fields_left (whole_field f ds) l = fields_left ds l
fields_left (truth_field ds) l = fields_left ds l
fields_left {laid = laid} {s = s} {a = a} {n = n} {bs = bs} {rest = rest} (tree_field {v = v} {ts = ts} {vs = vs} d ds) l =
    let e : suc (packed_count ts + n) ≡ packed_count ts + 1 + n = omega arith in
    subst (λ (x : ℕ). Left laid s a x bs ((tree v ++ trees vs) ++ rest)) e
    (subst (λ (x : List ℕ). Left laid s a (suc (packed_count ts + n)) bs x) (sym (append_assoc (tree v) (trees vs) rest)) (value d (fields_left ds l)))

-- the scalars of a head are bytes
abbrev AreSmall : List ℕ → Type 0
AreSmall bs = (i : ℕ) → get_or bs i 0 < 256

pub append_small : (xs ys : List ℕ) → AreSmall xs → AreSmall ys → AreSmall (xs ++ ys)
append_small [] ys a b i = b i
append_small (x ∷ xs) ys a b zero = a 0
append_small (x ∷ xs) ys a b (suc i) = append_small xs ys (λ j. a (suc j)) b i

take_small : (n : ℕ) (xs : List ℕ) → AreSmall xs → AreSmall (take n xs)
take_small zero xs a i = omega arith
take_small (suc n) [] a i = omega arith
take_small (suc n) (x ∷ xs) a zero = a 0
take_small (suc n) (x ∷ xs) a (suc i) = take_small n xs (λ j. a (suc j)) i

drop_small : (n : ℕ) (xs : List ℕ) → AreSmall xs → AreSmall (drop n xs)
drop_small zero xs a i = a i
drop_small (suc n) [] a i = omega arith
drop_small (suc n) (x ∷ xs) a i = drop_small n xs (λ j. a (suc j)) i

-- eight of some bytes that stand one after another
pub record Eight (s : Store) (a : ℕ) (bs : List ℕ) (i : ℕ) : Type 0 where
  pub holds : Holds s (a + i) (take 8 (drop i bs))
  pub long : length (take 8 (drop i bs)) ≡ 8
  pub is : (n : ℕ) → n ≡ from_le_bytes w64 (take 8 (drop i bs)) → to_le_bytes w64 n ≡ take 8 (drop i bs)

pub eight : {s : Store} (a : ℕ) (bs : List ℕ) (i : ℕ) → i + 8 ≤ length bs → Holds s a bs → ((j : ℕ) → get_or bs j 0 < 256) → Eight s a bs i
eight {s = s} a bs i le h small =
    let first = length-take-le i bs (omega (arith, le)) in
    let at : a + length (take i bs) ≡ a + i = omega (arith, first) in
    let behind = subst (λ (x : ℕ). Holds s x (drop i bs)) at (Holds-behind a (take i bs) (drop i bs) (subst (Holds s a) (sym (take-append-drop i bs)) h)) in
    let long = let n = length-drop i bs in length-take-le 8 (drop i bs) (omega (arith, n, le)) in
    record {
      holds = Holds-front (a + i) (take 8 (drop i bs)) (drop 8 (drop i bs)) (subst (Holds s (a + i)) (sym (take-append-drop 8 (drop i bs))) behind);
      long = long;
      is = λ n e. le_bytes_8 (take 8 (drop i bs)) n long (take_small 8 (drop i bs) (drop_small i bs small)) e;
    }

eight_small : (n : ℕ) → AreSmall (to_le_bytes w64 n)
eight_small n zero = omega arith
eight_small n (suc zero) = omega arith
eight_small n (suc (suc zero)) = omega arith
eight_small n (suc (suc (suc zero))) = omega arith
eight_small n (suc (suc (suc (suc zero)))) = omega arith
eight_small n (suc (suc (suc (suc (suc zero))))) = omega arith
eight_small n (suc (suc (suc (suc (suc (suc zero)))))) = omega arith
eight_small n (suc (suc (suc (suc (suc (suc (suc zero))))))) = omega arith
eight_small n (suc (suc (suc (suc (suc (suc (suc (suc i)))))))) = omega arith

bit_small : (b : Bool) (i : ℕ) → get_or (bit b ∷ []) i 0 < 256
bit_small true zero = omega arith
bit_small false zero = omega arith
bit_small b (suc i) = omega arith

scalars_small : {laid : LaidOut} {s : Store} {a z : ℕ} {ts : List Ty} {vs : Data} {places : List ℕ} → Decs laid s a ts vs places z → AreSmall (scalars vs)
scalars_small done = λ i. omega arith
scalars_small (whole_field {i = z} {vs = vs} f ds) = append_small (number z) (scalars vs) (eight_small (cast_unsigned w64 z)) (scalars_small ds)
scalars_small (truth_field {b = b} {vs = vs} ds) = append_small (bit b ∷ []) (scalars vs) (bit_small b) (scalars_small ds)
scalars_small (tree_field {v = v} {vs = vs} d ds) = subst (λ (l : List ℕ). AreSmall (l ++ scalars vs)) (sym (Dec-no_scalar d)) (scalars_small ds)

-- the head of a value, and its fields
pub record Opened (laid : LaidOut) (s : Store) (h k n : ℕ) (bs : List Back) (rest : List ℕ) : Type 0 where
  pub scalars : List ℕ
  pub later : List ℕ
  pub is : IsHead laid s h k scalars
  pub left : Left laid s (h + head_size laid k) (packed_at laid k + n) bs later
  pub whole : rest ≡ k ∷ (scalars ++ later)

pub head_opens : {laid : LaidOut} {s : Store} {h t z n : ℕ} {v : Datum} {bs : List Back} {rest : List ℕ} (k : ℕ) → Dec laid s h t v z → s h ≡ byte k → k < 254 → Left laid s z n bs rest → Opened laid s h k n bs (tree v ++ rest)
head_opens {s = s} {h = h} k (redirect p d) e lt l = let same = same_byte s h _ _ e (Holds-first p.bytes) in absurd (omega arith)
head_opens {s = s} {h = h} k (indirect p d f) e lt l = let same = same_byte s h _ _ e (Holds-first p.bytes) in absurd (omega arith)
head_opens {laid = laid} {s = s} {h = h} {t = t} {n = n} {bs = bs} {rest = rest} k (head {k = j} {vs = vs} {places = places} b i o ds) e lt l =
    let same : j ≡ k = same_byte s h j k (Holds-first o) e in
    let long = offsets-length j ds in
    let at : h + 1 + length (offset_bytes (is_among laid.with_offsets j) places) ≡ scalars_at laid h j = omega (arith, long) in
    subst (λ (x : ℕ). Opened laid s h x n bs (j ∷ ((scalars vs ++ trees vs) ++ rest))) same (record {
      scalars = scalars vs;
      later = trees vs ++ rest;
      is = record {
        tag = Holds-first o;
        small = b;
        known = con_within laid.table t j i;
        holds = subst (λ (x : ℕ). Holds s x (scalars vs)) at (Holds-behind (h + 1) (offset_bytes (is_among laid.with_offsets j) places) (scalars vs) (Holds-rest o));
        long = Decs-scalars ds;
        small_bytes = scalars_small ds;
      };
      left = fields_left ds l;
      whole = ap (λ (x : List ℕ). j ∷ x) (append_assoc (scalars vs) (trees vs) rest);
    })

-- a head stands where redirects and indirections lead
pub leads_tag : {s : Store} {a h : ℕ} → Leads s a h → (k : ℕ) × (s h ≡ byte k) × (k < 254)
leads_tag (here {k = k} e lt) = (k, e, lt)
leads_tag (on p le l) = leads_tag l
