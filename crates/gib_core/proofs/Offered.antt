-- The offsets that reach the packed fields of an arm.
use Rattle.std.proofs.Common.{◌≡◌, ◌⊎◌, inl, inr, ⊎_elim, Bool, true, false, not, ◌&&◌, ◌==◌, ◌||◌, if◌then◌else◌, List, [], ◌∷◌, ◌++◌, Option, Some, None, refl, ap, ◌∙◌}
use Rattle.std.proofs.lemmas.Bool.{eq-eqb, both_ways, or_parts, or_cases, or_left, or_right, false_from_ne_true}
use Rattle.gib_types.specs.declared.table.ConId.{ConId}
use Rattle.gib_core.specs.declared.atom.Variable.{Variable}
use Rattle.gib_core.specs.declared.atom.Access.TheVariants.{Offset}
use Rattle.gib_core.specs.declared.atom.AccessMode.{AccessMode}
use Rattle.gib_core.specs.declared.atom.AccessMode.TheVariants.{Skips, Offsets, Ends}
use Rattle.gib_core.specs.Tree.{Term, Reach, prepend, CoreTree}
use Rattle.gib_core.specs.Met.{Known, Setting, ReachLine, known, reached_too, packed_field, met}
use Rattle.gib_core.specs.Reaching.{uses, uses_any, Later, told_first, ends_from, untold_from, laters, untold, offsets_from, in_par, reaches, offset_of, all_offsets, offsets_by}
use Rattle.gib_core.specs.Ending.{Ended}
use Rattle.gib_core.specs.Rules.{Before, is_among, is_one_of, is_reached, further, may_reach, one_tells, rules, least, LinesAreBuilt}
use Rattle.gib_core.proofs.Along.{same_variable, apart, differ_back, AreDistinct, least_none}
use Rattle.gib_core.proofs.Cased.{has}
use Rattle.gib_core.proofs.Skipped.{known_first, known_past, Chained, Started, ReachedOr, Serves, inside, now_reached, stays_reached, skips_built}
use Rattle.gib_core.proofs.Awaits.{is_later, but, AreApart, AreFirst}

-- Packed fields stand behind others, and none of them is reached.
abbrev ArePending : ConId → List Known → List Variable → Type 0
ArePending k ks [] = Unit {0}
ArePending k ks (y ∷ ys) = ((z : Variable) × (known ks y ≡ Some (packed_field k y (Some z)))) × ArePending k ks ys

pending : (k : ConId) (ks : List Known) (z : Variable) (ys : List Variable) → Chained k ks z ys → ArePending k ks ys
pending k ks z [] h = tt
pending k ks z (y ∷ ys) h = ((z, h.0), pending k ks y ys h.1)

pending_past : (k : ConId) (new : Known) (ys : List Variable) (ks ks' : List Known) → ((x : Variable) → known ks' x ≡ known (new ∷ ks) x) → is_among ys new.variable ≡ false → ArePending k ks ys → ArePending k ks' ys
pending_past k new [] ks ks' q n h = tt
pending_past k new (x ∷ ys) ks ks' q n h =
    let parts = or_parts (x.0 == new.variable.0) (is_among ys new.variable) n in
    ((h.0.0, q x ∙ known_past new ks x (differ_back x new.variable parts.0) ∙ h.0.1), pending_past k new ys ks ks' q parts.1 h.1)

-- What holds before offsets in the term of an arm of this constructor: none of these fields is reached, and what is used is
-- reached or among these.
record AreLeft (k : ConId) (used : Variable → Bool) (s : Setting) (from : List Known) (ys : List Variable) (ks : List Known) : Type 0 where
  pub pending : ArePending k ks ys
  pub distinct : AreDistinct ys
  pub others : (y : Variable) → is_among ys y ≡ true → is_among s.others y ≡ false
  pub served : (x : Variable) → used x ≡ true → has from x ≡ true → ReachedOr ks ys x

-- After an offset the next fields come.
next_left : (k : ConId) (used : Variable → Bool) (s : Setting) (from : List Known) (y : Variable) (ys : List Variable) (ks : List Known) → AreLeft k used s from (y ∷ ys) ks → AreLeft k used s from ys (reached_too (known ks y) ks)
next_left k used s from y ys ks h = record {
  pending = pending_past k new ys ks ks' q h.distinct.0 h.pending.1;
  distinct = h.distinct.1;
  others = λ x m. h.others x (or_right (y.0 == x.0) (is_among ys x) m);
  served = λ x u m. go x (h.served x u m);
}
  where
    new : Known
    new = now_reached k y h.pending.0.0

    ks' : List Known
    ks' = reached_too (known ks y) ks

    q : (x : Variable) → known ks' x ≡ known (new ∷ ks) x
    q x = ap (λ (o : Option Known). known (reached_too o ks) x) h.pending.0.1

    go : (x : Variable) → ReachedOr ks (y ∷ ys) x → ReachedOr ks' ys x
    go x (inl r) = inl (stays_reached new ks ks' x q refl r)
    go x (inr m) = ⊎_elim (λ same. inl (ap is_reached (q x ∙ known_first new ks x same))) (λ l. inr l) (or_cases (y.0 == x.0) (is_among ys x) m)

-- A field that is not used is left out.
next_unused : (k : ConId) (used : Variable → Bool) (s : Setting) (from : List Known) (y : Variable) (ys : List Variable) (ks : List Known) → used y ≡ false → AreLeft k used s from (y ∷ ys) ks → AreLeft k used s from ys ks
next_unused k used s from y ys ks e h = record {
  pending = h.pending.1;
  distinct = h.distinct.1;
  others = λ x m. h.others x (or_right (y.0 == x.0) (is_among ys x) m);
  served = λ x u m. go x u (h.served x u m);
}
  where
    go : (x : Variable) → used x ≡ true → ReachedOr ks (y ∷ ys) x → ReachedOr ks ys x
    go x u (inl r) = inl r
    go x u (inr m) = ⊎_elim (λ same. absurd (both_ways (used y) e (ap used (same_variable y x same) ∙ u))) (λ l. inr l) (or_cases (y.0 == x.0) (is_among ys x) m)

-- Where fields are reached by offsets, the constructor is listed if a packed field of its arm but the first is used that no end
-- reaches.
abbrev pub IsOffered : AccessMode → List Ended → List ConId → ConId → Term → List Variable → Type 0
IsOffered Skips es listed k t ps = Unit {0}
IsOffered Offsets es listed k t ps = uses_any t (untold Offsets es t ps) ≡ true → is_one_of listed k ≡ true
IsOffered Ends es listed k t ps = uses_any t (untold Ends es t ps) ≡ true → is_one_of listed k ≡ true

-- Where fields are reached by offsets, all of these constructors are listed.
abbrev pub AreListed : AccessMode → List ConId → List ConId → Type 0
AreListed Skips listed ks = Unit {0}
AreListed Offsets listed ks = (k : ConId) → is_one_of ks k ≡ true → is_one_of listed k ≡ true
AreListed Ends listed ks = (k : ConId) → is_one_of ks k ≡ true → is_one_of listed k ≡ true

one_append : (xs ys : List ConId) (k : ConId) → is_one_of (xs ++ ys) k ≡ (is_one_of xs k || is_one_of ys k)
one_append [] ys k = refl
one_append (x ∷ xs) ys k = go (x.0 == k.0) (one_append xs ys k)
  where
    go : (b : Bool) → is_one_of (xs ++ ys) k ≡ (is_one_of xs k || is_one_of ys k) → (b || is_one_of (xs ++ ys) k) ≡ ((b || is_one_of xs k) || is_one_of ys k)
    go true e = refl
    go false e = e

pub listed_left : (mode : AccessMode) (listed xs ys : List ConId) → AreListed mode listed (xs ++ ys) → AreListed mode listed xs
listed_left Skips listed xs ys h = tt
listed_left Offsets listed xs ys h = λ k m. h k (one_append xs ys k ∙ or_left (is_one_of xs k) (is_one_of ys k) m)
listed_left Ends listed xs ys h = λ k m. h k (one_append xs ys k ∙ or_left (is_one_of xs k) (is_one_of ys k) m)

pub listed_right : (mode : AccessMode) (listed xs ys : List ConId) → AreListed mode listed (xs ++ ys) → AreListed mode listed ys
listed_right Skips listed xs ys h = tt
listed_right Offsets listed xs ys h = λ k m. h k (one_append xs ys k ∙ or_right (is_one_of xs k) (is_one_of ys k) m)
listed_right Ends listed xs ys h = λ k m. h k (one_append xs ys k ∙ or_right (is_one_of xs k) (is_one_of ys k) m)

pub listed_all : (mode : AccessMode) (listed : List ConId) → AreListed mode listed listed
listed_all Skips listed = tt
listed_all Offsets listed = λ k m. m
listed_all Ends listed = λ k m. m

pub listed_par : (mode : AccessMode) (listed ks : List ConId) → AreListed mode listed ks → AreListed (in_par mode) listed ks
listed_par Skips listed ks h = h
listed_par Offsets listed ks h = h
listed_par Ends listed ks h = h

-- A term of a core is reached by its mode, or stands in a side of a par.
abbrev pub IsWithin : AccessMode → AccessMode → Type 0
IsWithin Skips Skips = Unit {0}
IsWithin Skips Offsets = ⊥
IsWithin Skips Ends = ⊥
IsWithin Offsets Skips = ⊥
IsWithin Offsets Offsets = Unit {0}
IsWithin Offsets Ends = ⊥
IsWithin Ends Skips = ⊥
IsWithin Ends Offsets = Unit {0}
IsWithin Ends Ends = Unit {0}

pub within_self : (mode : AccessMode) → IsWithin mode mode
within_self Skips = tt
within_self Offsets = tt
within_self Ends = tt

pub within_par : (mode m : AccessMode) → IsWithin mode m → IsWithin mode (in_par m)
within_par Skips Skips w = tt
within_par Skips Offsets w = absurd w
within_par Skips Ends w = absurd w
within_par Offsets Skips w = absurd w
within_par Offsets Offsets w = tt
within_par Offsets Ends w = absurd w
within_par Ends Skips w = absurd w
within_par Ends Offsets w = tt
within_par Ends Ends w = tt

listed_one : (listed : List ConId) (k : ConId) (c : Bool) → ((j : ConId) → is_one_of (if c then k ∷ [] else []) j ≡ true → is_one_of listed j ≡ true) → c ≡ true → is_one_of listed k ≡ true
listed_one listed k c h u = h k (ap (λ b. is_one_of (if b then k ∷ [] else []) k) u ∙ ap (λ b. b || false) (eq-eqb k.0 k.0 refl))

pub offered : (mode m : AccessMode) → IsWithin mode m → (core : CoreTree) (es : List Ended) (k : ConId) (t : Term) (ps : List Variable) → AreListed m (all_offsets mode core) (offset_of m es k t ps) → IsOffered m es (offsets_by mode core) k t ps
offered Skips Skips w core es k t ps h = tt
offered Skips Offsets w core es k t ps h = absurd w
offered Skips Ends w core es k t ps h = absurd w
offered Offsets Skips w core es k t ps h = absurd w
offered Offsets Offsets w core es k t ps h = listed_one (all_offsets Offsets core) k (uses_any t (untold Offsets es t ps)) h
offered Offsets Ends w core es k t ps h = absurd w
offered Ends Skips w core es k t ps h = absurd w
offered Ends Offsets w core es k t ps h = listed_one (all_offsets Ends core) k (uses_any t (untold Offsets es t ps)) h
offered Ends Ends w core es k t ps h = listed_one (all_offsets Ends core) k (uses_any t (untold Ends es t ps)) h

-- An arm's start: the first of the packed fields is reached, the others stand behind it, and what is used is reached or among these.
pub record ArmStands (k : ConId) (t : Term) (s : Setting) (b : Before) (from : List Known) (ps : List Variable) (ks : List Known) : Type 0 where
  pub started : Started k ks ps
  pub distinct : AreDistinct ps
  pub others : (y : Variable) → is_among ps y ≡ true → is_among s.others y ≡ false
  pub uncased : (y : Variable) → is_among ps y ≡ true → is_among b.cased y ≡ false
  pub served : (x : Variable) → uses t x ≡ true → has from x ≡ true → ReachedOr ks (further ps) x

-- Fields stand behind those before them, and are not reached.
abbrev pub AreBehind : ConId → List Known → List Later → Type 0
AreBehind k ks [] = Unit {0}
AreBehind k ks (f ∷ fs) = (known ks f.field ≡ Some (packed_field k f.field (Some f.before))) × AreBehind k ks fs

later_behind : (k : ConId) (new : Known) (fs : List Later) (ks ks' : List Known) → ((x : Variable) → known ks' x ≡ known (new ∷ ks) x) → is_later fs new.variable ≡ false → AreBehind k ks fs → AreBehind k ks' fs
later_behind k new [] ks ks' q n h = tt
later_behind k new (f ∷ fs) ks ks' q n h =
    let parts = or_parts (f.field.0 == new.variable.0) (is_later fs new.variable) n in
    (q f.field ∙ known_past new ks f.field (differ_back f.field new.variable parts.0) ∙ h.0, later_behind k new fs ks ks' q parts.1 h.1)

-- The fields that ends reach, and the others.

untold_among : (es : List Ended) (t : Term) (z : Variable) (ys : List Variable) (x : Variable) → is_among (untold_from es t z ys) x ≡ true → is_among ys x ≡ true
untold_among es t z [] x m = m
untold_among es t z (y ∷ ys) x m = go (told_first es false z y t) m (untold_among es t y ys x)
  where
    go : (c : Bool) → is_among (if c then untold_from es t y ys else y ∷ untold_from es t y ys) x ≡ true → (is_among (untold_from es t y ys) x ≡ true → is_among ys x ≡ true) → is_among (y ∷ ys) x ≡ true
    go true n more' = or_right (y.0 == x.0) (is_among ys x) (more' n)
    go false n more' = ⊎_elim (λ same. or_left (y.0 == x.0) (is_among ys x) same) (λ l. or_right (y.0 == x.0) (is_among ys x) (more' l)) (or_cases (y.0 == x.0) (is_among (untold_from es t y ys) x) n)

later_among : (es : List Ended) (t : Term) (z : Variable) (ys : List Variable) (x : Variable) → is_later (ends_from es t z ys) x ≡ true → is_among ys x ≡ true
later_among es t z [] x m = m
later_among es t z (y ∷ ys) x m = go (uses t y && told_first es false z y t) m (later_among es t y ys x)
  where
    go : (c : Bool) → is_later (if c then record { field = y; before = z } ∷ ends_from es t y ys else ends_from es t y ys) x ≡ true → (is_later (ends_from es t y ys) x ≡ true → is_among ys x ≡ true) → is_among (y ∷ ys) x ≡ true
    go true n more' = ⊎_elim (λ same. or_left (y.0 == x.0) (is_among ys x) same) (λ l. or_right (y.0 == x.0) (is_among ys x) (more' l)) (or_cases (y.0 == x.0) (is_later (ends_from es t y ys) x) n)
    go false n more' = or_right (y.0 == x.0) (is_among ys x) (more' n)

untold_distinct : (es : List Ended) (t : Term) (z : Variable) (ys : List Variable) → AreDistinct ys → AreDistinct (untold_from es t z ys)
untold_distinct es t z [] h = tt
untold_distinct es t z (y ∷ ys) h = go (told_first es false z y t) (untold_distinct es t y ys h.1)
  where
    go : (c : Bool) → AreDistinct (untold_from es t y ys) → AreDistinct (if c then untold_from es t y ys else y ∷ untold_from es t y ys)
    go true d = d
    go false d = (false_from_ne_true (is_among (untold_from es t y ys) y) (λ m. both_ways (is_among ys y) h.0 (untold_among es t y ys y m)), d)

pub later_apart : (es : List Ended) (t : Term) (z : Variable) (ys : List Variable) → AreDistinct ys → AreApart (ends_from es t z ys)
later_apart es t z [] h = tt
later_apart es t z (y ∷ ys) h = go (uses t y && told_first es false z y t) (later_apart es t y ys h.1)
  where
    go : (c : Bool) → AreApart (ends_from es t y ys) → AreApart (if c then record { field = y; before = z } ∷ ends_from es t y ys else ends_from es t y ys)
    go true d = (false_from_ne_true (is_later (ends_from es t y ys) y) (λ m. both_ways (is_among ys y) h.0 (later_among es t y ys y m)), d)
    go false d = d

untold_pending : (es : List Ended) (t : Term) (k : ConId) (ks : List Known) (z : Variable) (ys : List Variable) → Chained k ks z ys → ArePending k ks (untold_from es t z ys)
untold_pending es t k ks z [] h = tt
untold_pending es t k ks z (y ∷ ys) h = go (told_first es false z y t) (untold_pending es t k ks y ys h.1)
  where
    go : (c : Bool) → ArePending k ks (untold_from es t y ys) → ArePending k ks (if c then untold_from es t y ys else y ∷ untold_from es t y ys)
    go true d = d
    go false d = ((z, h.0), d)

later_pending : (es : List Ended) (t : Term) (k : ConId) (ks : List Known) (z : Variable) (ys : List Variable) → Chained k ks z ys → AreBehind k ks (ends_from es t z ys)
later_pending es t k ks z [] h = tt
later_pending es t k ks z (y ∷ ys) h = go (uses t y && told_first es false z y t) (later_pending es t k ks y ys h.1)
  where
    go : (c : Bool) → AreBehind k ks (ends_from es t y ys) → AreBehind k ks (if c then record { field = y; before = z } ∷ ends_from es t y ys else ends_from es t y ys)
    go true d = (h.0, d)
    go false d = d

-- No field is both.
untold_none : (es : List Ended) (t : Term) (z : Variable) (ys : List Variable) (x : Variable) → AreDistinct ys → is_among (untold_from es t z ys) x ≡ true → is_later (ends_from es t z ys) x ≡ false
untold_none es t z [] x h m = absurd cc
untold_none es t z (y ∷ ys) x h m = go (told_first es false z y t) (uses t y) m (λ n. untold_none es t y ys x h.1 n)
  where
    not_first : is_among (untold_from es t y ys) x ≡ true → (y.0 == x.0) ≡ false
    not_first n = apart (is_among ys) y x h.0 (untold_among es t y ys x n)

    first_none : (y.0 == x.0) ≡ true → is_later (ends_from es t y ys) x ≡ false
    first_none same = false_from_ne_true (is_later (ends_from es t y ys) x) (λ l. both_ways (is_among ys y) h.0 (ap (is_among ys) (same_variable y x same) ∙ later_among es t y ys x l))

    go : (c u : Bool) → is_among (if c then untold_from es t y ys else y ∷ untold_from es t y ys) x ≡ true → (is_among (untold_from es t y ys) x ≡ true → is_later (ends_from es t y ys) x ≡ false)
        → is_later (if u && c then record { field = y; before = z } ∷ ends_from es t y ys else ends_from es t y ys) x ≡ false
    go true true n inner = ap (λ b. b || is_later (ends_from es t y ys) x) (not_first n) ∙ inner n
    go true false n inner = inner n
    go false true n inner = ⊎_elim first_none inner (or_cases (y.0 == x.0) (is_among (untold_from es t y ys) x) n)
    go false false n inner = ⊎_elim first_none inner (or_cases (y.0 == x.0) (is_among (untold_from es t y ys) x) n)

-- Each field that is used is one or the other.
untold_or : (es : List Ended) (t : Term) (z : Variable) (ys : List Variable) (x : Variable) → uses t x ≡ true → is_among ys x ≡ true → is_later (ends_from es t z ys) x ≡ false → is_among (untold_from es t z ys) x ≡ true
untold_or es t z [] x u m n = m
untold_or es t z (y ∷ ys) x u m n = go (told_first es false z y t) (uses t y) refl n (or_cases (y.0 == x.0) (is_among ys x) m) (λ r l. untold_or es t y ys x u r l)
  where
    go : (c d : Bool) → uses t y ≡ d → is_later (if d && c then record { field = y; before = z } ∷ ends_from es t y ys else ends_from es t y ys) x ≡ false → ((y.0 == x.0) ≡ true) ⊎ (is_among ys x ≡ true)
        → (is_among ys x ≡ true → is_later (ends_from es t y ys) x ≡ false → is_among (untold_from es t y ys) x ≡ true) → is_among (if c then untold_from es t y ys else y ∷ untold_from es t y ys) x ≡ true
    go true true e l (inl same) more' = absurd (both_ways (y.0 == x.0) (or_parts (y.0 == x.0) (is_later (ends_from es t y ys) x) l).0 same)
    go true true e l (inr r) more' = more' r (or_parts (y.0 == x.0) (is_later (ends_from es t y ys) x) l).1
    go true false e l (inl same) more' = absurd (both_ways (uses t y) e (ap (uses t) (same_variable y x same) ∙ u))
    go true false e l (inr r) more' = more' r l
    go false true e l (inl same) more' = or_left (y.0 == x.0) (is_among (untold_from es t y ys) x) same
    go false true e l (inr r) more' = or_right (y.0 == x.0) (is_among (untold_from es t y ys) x) (more' r l)
    go false false e l (inl same) more' = or_left (y.0 == x.0) (is_among (untold_from es t y ys) x) same
    go false false e l (inr r) more' = or_right (y.0 == x.0) (is_among (untold_from es t y ys) x) (more' r l)

module _ (core : CoreTree) (k : ConId) (t rest : Term) (s : Setting) (b : Before) (from : List Known) where
  -- What comes behind the lines that reach fields at the start: what is used is reached, but for the fields that ends reach, which
  -- stand as they did.
  abbrev GoesOn : List Later → Type 0
  GoesOn fs = (new : List Known) → Serves (but (uses t) fs) from new → AreBehind k new fs → LinesAreBuilt core b (met core.table (inside s new) rest)

  -- To reach a field by its offset breaks no rule.
  offset_fine : (used : Variable → Bool) (y : Variable) (ys : List Variable) (ks : List Known) → is_one_of core.offsets k ≡ true → AreLeft k used s from (y ∷ ys) ks → least (rules core b (inside s ks) (ReachLine y Offset)) ≡ None
  offset_fine used y ys ks listed h =
      least_none (rules core b (inside s ks) (ReachLine y Offset))
      (h.others y (ap (λ c. c || is_among ys y) (eq-eqb y.0 y.0 refl)), (ap not (ap (λ (o : Option Known). may_reach core b (inside s ks) o Offset) h.pending.0.1 ∙ listed), tt))

  none_left : (used : Variable → Bool) (ks : List Known) → ((x : Variable) → used x ≡ true → has from x ≡ true → ReachedOr ks [] x) → Serves used from ks
  none_left used ks h x u m = ⊎_elim (λ r. r) (λ r. absurd (both_ways false refl r)) (h x u m)

  unused : (fs : List Later) (y : Variable) → uses t y ≡ false → but (uses t) fs y ≡ false
  unused fs y e = go (is_later fs y)
    where
      go : (c : Bool) → (if c then false else uses t y) ≡ false
      go true = refl
      go false = e

  offsets_built : (fs : List Later) (ys : List Variable) (ks : List Known) → AreLeft k (but (uses t) fs) s from ys ks → ((y : Variable) → is_among ys y ≡ true → is_later fs y ≡ false) → AreBehind k ks fs
      → (uses_any t ys ≡ true → is_one_of core.offsets k ≡ true) → GoesOn fs
      → LinesAreBuilt core b (met core.table (inside s ks) (prepend (offsets_from t ys) rest))
  offsets_built fs [] ks h n a listed go = go ks (none_left (but (uses t) fs) ks h.served) a
  offsets_built fs (y ∷ ys) ks h n a listed go = cases (uses t y) refl
      (λ ks' h' a'. offsets_built fs ys ks' h' (λ x m. n x (or_right (y.0 == x.0) (is_among ys x) m)) a' (λ u. listed (or_right (uses t y) (uses_any t ys) u)) go)
    where
      cases : (c : Bool) → uses t y ≡ c → ((ks' : List Known) → AreLeft k (but (uses t) fs) s from ys ks' → AreBehind k ks' fs → LinesAreBuilt core b (met core.table (inside s ks') (prepend (offsets_from t ys) rest)))
          → LinesAreBuilt core b (met core.table (inside s ks) (prepend (if c then Reach y Offset ∷ offsets_from t ys else offsets_from t ys) rest))
      cases true e built =
          let new = now_reached k y h.pending.0.0 in (
            offset_fine (but (uses t) fs) y ys ks (listed (or_left (uses t y) (uses_any t ys) e)) h,
            built (reached_too (known ks y) ks) (next_left k (but (uses t) fs) s from y ys ks h)
                (later_behind k new fs ks (reached_too (known ks y) ks) (λ x. ap (λ (o : Option Known). known (reached_too o ks) x) h.pending.0.1)
                (n y (or_left (y.0 == y.0) (is_among ys y) (eq-eqb y.0 y.0 refl))) a),
          )
      cases false e built = built ks (next_unused k (but (uses t) fs) s from y ys ks (unused fs y e) h) a

  -- What reaches the fields of an arm at its start breaks no rule, and behind it what its term uses is reached, but for the fields
  -- that ends reach.
  pub reaches_built : (m : AccessMode) (es : List Ended) (ps : List Variable) (ks : List Known) → ArmStands k t s b from ps ks → IsOffered m es core.offsets k t ps → GoesOn (laters m es t ps)
      → LinesAreBuilt core b (met core.table (inside s ks) (prepend (reaches m es t ps) rest))
  reaches_built Skips es [] ks h offered go = go ks (none_left (uses t) ks h.served) tt
  reaches_built Offsets es [] ks h offered go = go ks (none_left (uses t) ks h.served) tt
  reaches_built Ends es [] ks h offered go = go ks (none_left (uses t) ks h.served) tt
  reaches_built Skips es (z ∷ ys) ks h offered go = skips_built core k t rest s b from z ys ks (record {
    first = h.started.0;
    chained = h.started.1;
    distinct = h.distinct.1;
    others = λ y m. h.others y (or_right (z.0 == y.0) (is_among ys y) m);
    uncased = h.uncased;
    served = h.served;
  }) (λ new serves. go new serves tt)
  reaches_built Offsets es (z ∷ ys) ks h offered go = offsets_built [] ys ks (record {
    pending = pending k ks z ys h.started.1;
    distinct = h.distinct.1;
    others = λ y m. h.others y (or_right (z.0 == y.0) (is_among ys y) m);
    served = h.served;
  }) (λ y m. refl) tt offered go
  reaches_built Ends es (z ∷ ys) ks h offered go = offsets_built (ends_from es t z ys) (untold_from es t z ys) ks (record {
    pending = untold_pending es t k ks z ys h.started.1;
    distinct = untold_distinct es t z ys h.distinct.1;
    others = λ y m. h.others y (or_right (z.0 == y.0) (is_among ys y) (untold_among es t z ys y m));
    served = λ x u m. served x (is_later (ends_from es t z ys) x) refl u m;
  }) (λ y m. untold_none es t z ys y h.distinct.1 m) (later_pending es t k ks z ys h.started.1) offered go
    where
      served : (x : Variable) (c : Bool) → is_later (ends_from es t z ys) x ≡ c → (if c then false else uses t x) ≡ true → has from x ≡ true → ReachedOr ks (untold_from es t z ys) x
      served x true l u m = absurd cc
      served x false l u m = ⊎_elim (λ r. inl r) (λ n. inr (untold_or es t z ys x u n l)) (h.served x u m)

-- The fields that ends reach are told before they are used.
pub ends_first : (es : List Ended) (t : Term) (s : Setting) → s.calls ≡ [] → (z : Variable) (ys : List Variable) → AreFirst es s t (ends_from es t z ys)
ends_first es t s none z [] = tt
ends_first es t s none z (y ∷ ys) = go (uses t y) (told_first es false z y t) refl (ends_first es t s none y ys)
  where
    go : (u c : Bool) → told_first es false z y t ≡ c → AreFirst es s t (ends_from es t y ys) → AreFirst es s t (if u && c then record { field = y; before = z } ∷ ends_from es t y ys else ends_from es t y ys)
    go true true e r = (ap (λ cs. told_first es (one_tells es cs z) z y t) none ∙ e, r)
    go true false e r = r
    go false true e r = r
    go false false e r = r
