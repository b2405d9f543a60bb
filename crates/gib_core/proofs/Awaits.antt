-- The fields that a line reaches by ends: each directly before the first term that uses it.
use Rattle.std.proofs.Common.{◌≡◌, ◌⊎◌, inl, inr, ⊎_elim, Bool, true, false, not, ◌&&◌, ◌==◌, ◌||◌, if◌then◌else◌, List, [], ◌∷◌, Option, Some, None, refl, sym, ap, ◌∙◌, subst}
use Rattle.std.proofs.lemmas.Bool.{eq-eqb, both_ways, and_from, or_parts, or_cases}
use Rattle.std.proofs.Math.Bool.{and-false}
use Rattle.gib_types.specs.declared.table.ConId.{ConId}
use Rattle.gib_core.specs.declared.atom.Variable.{Variable}
use Rattle.gib_core.specs.declared.atom.Access.TheVariants.{End}
use Rattle.gib_core.specs.Tree.{Term, Then, Bind, Prim, Reach, prepend, CoreTree}
use Rattle.gib_core.specs.Met.{Known, Setting, ReachLine, known, reached_too, packed_field, met}
use Rattle.gib_core.specs.Ending.{Ended, ended, is_telling}
use Rattle.gib_core.specs.Reaching.{Later, told_first, ends_now, not_now, bind_uses}
use Rattle.gib_core.specs.Rules.{Before, is_among, is_outside, is_reached, may_reach, one_tells, rules, least, LinesAreBuilt}
use Rattle.gib_core.proofs.Along.{same_variable, differ_back, least_none}
use Rattle.gib_core.proofs.Cased.{has}
use Rattle.gib_core.proofs.Skipped.{known_first, known_past, now_reached}
use Rattle.gib_core.proofs.Kept.{scoped}

-- A variable is one of the fields.
abbrev pub is_later : List Later → Variable → Bool
is_later [] x = false
is_later (f ∷ fs) x = f.field.0 == x.0 || is_later fs x

-- What is used of the variables but these fields.
abbrev pub but : (Variable → Bool) → List Later → Variable → Bool
but used fs x = if is_later fs x then false else used x

-- A field of an arm that is not reached: once the end of the field before it is told, that one is reached.
pub record Awaited (es : List Ended) (s : Setting) (ks : List Known) (f : Later) : Type 0 where
  pub constructor : ConId
  pub pending : known ks f.field ≡ Some (packed_field constructor f.field (Some f.before))
  pub told : one_tells es s.calls f.before ≡ true → is_reached (known ks f.before) ≡ true
  pub there : has s.scope f.field ≡ true
  pub beside : has s.scope f.before ≡ true
  pub out : is_outside s.others ≡ true
  pub whole : s.whole ≡ false

abbrev pub AreAwaited : List Ended → Setting → List Known → List Later → Type 0
AreAwaited es s ks [] = Unit {0}
AreAwaited es s ks (f ∷ fs) = Awaited es s ks f × AreAwaited es s ks fs

abbrev pub AreApart : List Later → Type 0
AreApart [] = Unit {0}
AreApart (f ∷ fs) = (is_later fs f.field ≡ false) × AreApart fs

-- Before the first term of a line that uses such a field, the end of the field before it is told.
abbrev pub AreFirst : List Ended → Setting → Term → List Later → Type 0
AreFirst es s t [] = Unit {0}
AreFirst es s t (f ∷ fs) = (told_first es (one_tells es s.calls f.before) f.before f.field t ≡ true) × AreFirst es s t fs

-- Where such a field is used, the end of the field before it is told.
abbrev pub AreTold : List Ended → Setting → (Variable → Bool) → List Later → Type 0
AreTold es s used [] = Unit {0}
AreTold es s used (f ∷ fs) = (used f.field ≡ true → one_tells es s.calls f.before ≡ true) × AreTold es s used fs

-- A line reaches these fields by ends.
pub record Awaits (es : List Ended) (t : Term) (s : Setting) (ks : List Known) (fs : List Later) : Type 0 where
  pub each : AreAwaited es s ks fs
  pub first : AreFirst es s t fs
  pub apart : AreApart fs

pub awaits_none : (es : List Ended) (t : Term) (s : Setting) (ks : List Known) → Awaits es t s ks []
awaits_none es t s ks = record { each = tt; first = tt; apart = tt }

-- The next term of the line uses a field: its end is told.
pub told_then : (es : List Ended) (s : Setting) (b : Bind) (u : Term) (fs : List Later) → AreFirst es s (Then b u) fs → AreTold es s (bind_uses b) fs
told_then es s b u [] h = tt
told_then es s b u (f ∷ fs) h =
    (λ e. sym (ap (λ c. if c then one_tells es s.calls f.before else told_first es (is_telling es b f.before || one_tells es s.calls f.before) f.before f.field u) e) ∙ h.0, told_then es s b u fs h.1)

pub told_end : (es : List Ended) (s : Setting) (t : Term) (used : Variable → Bool) (fs : List Later) → ((told : Bool) (z y : Variable) → told_first es told z y t ≡ told) → AreFirst es s t fs → AreTold es s used fs
told_end es s t used [] is h = tt
told_end es s t used (f ∷ fs) is h = (λ e. sym (is (one_tells es s.calls f.before) f.before f.field) ∙ h.0, told_end es s t used fs is h.1)

-- What the fields that were used made of a scope: they are reached, and all else is as it was.
pub record Stepped (used : Variable → Bool) (fs : List Later) (ks new : List Known) : Type 0 where
  pub same : (v : Variable) → (is_later fs v && used v) ≡ false → known new v ≡ known ks v
  pub more : (v : Variable) → is_reached (known ks v) ≡ true → is_reached (known new v) ≡ true
  pub served : (v : Variable) → is_later fs v ≡ true → used v ≡ true → is_reached (known new v) ≡ true

module _ (core : CoreTree) (s : Setting) (b : Before) (used : Variable → Bool) where
  abbrev pub es : List Ended
  es = ended core

  -- To reach a field by the end of the one before it breaks no rule.
  end_fine : (f : Later) (ks : List Known) (h : Awaited es s ks f) → one_tells es s.calls f.before ≡ true → least (rules core b (scoped s ks) (ReachLine f.field (End f.before))) ≡ None
  end_fine f ks h t =
      least_none (rules core b (scoped s ks) (ReachLine f.field (End f.before))) (
        none_other s.others h.out,
        (
          ap not (ap (λ (o : Option Known). may_reach core b (scoped s ks) o (End f.before)) h.pending
              ∙ and_from (f.before.0 == f.before.0) (is_reached (known ks f.before) && (is_outside s.others && one_tells es s.calls f.before)) (eq-eqb f.before.0 f.before.0 refl)
              (and_from (is_reached (known ks f.before)) (is_outside s.others && one_tells es s.calls f.before) (h.told t) (and_from (is_outside s.others) (one_tells es s.calls f.before) h.out t))),
          tt,
        ),
      )
    where
      none_other : (xs : List Variable) → is_outside xs ≡ true → is_among xs f.field ≡ false
      none_other [] e = refl
      none_other (x ∷ xs) e = absurd cc

  -- The scope behind it.
  abbrev after : Later → List Known → List Known
  after f ks = reached_too (known ks f.field) ks

  after_is : (f : Later) (ks : List Known) (h : Awaited es s ks f) (v : Variable) → known (after f ks) v ≡ known (now_reached h.constructor f.field f.before ∷ ks) v
  after_is f ks h v = ap (λ (o : Option Known). known (reached_too o ks) v) h.pending

  after_past : (f : Later) (ks : List Known) (h : Awaited es s ks f) (v : Variable) → (f.field.0 == v.0) ≡ false → known (after f ks) v ≡ known ks v
  after_past f ks h v e = after_is f ks h v ∙ known_past (now_reached h.constructor f.field f.before) ks v e

  after_more : (f : Later) (ks : List Known) (h : Awaited es s ks f) (v : Variable) → is_reached (known ks v) ≡ true → is_reached (known (after f ks) v) ≡ true
  after_more f ks h v r = ap is_reached (after_is f ks h v) ∙ go (f.field.0 == v.0)
    where
      go : (c : Bool) → is_reached (if c then Some (now_reached h.constructor f.field f.before) else known ks v) ≡ true
      go true = refl
      go false = r

  still : (f : Later) (ks : List Known) (h : Awaited es s ks f) (gs : List Later) → is_later gs f.field ≡ false → AreAwaited es s ks gs → AreAwaited es s (after f ks) gs
  still f ks h [] n a = tt
  still f ks h (g ∷ gs) n a =
      let parts = or_parts (g.field.0 == f.field.0) (is_later gs f.field) n in (
        record {
          constructor = a.0.constructor;
          pending = after_past f ks h g.field (differ_back g.field f.field parts.0) ∙ a.0.pending;
          told = λ t. after_more f ks h g.before (a.0.told t);
          there = a.0.there;
          beside = a.0.beside;
          out = a.0.out;
          whole = a.0.whole;
        },
        still f ks h gs parts.1 a.1,
      )

  unwhole : (ks : List Known) → s.whole ≡ false → scoped s ks ≡ record s { scope = ks; whole = false }
  unwhole ks e = λ i. record s { scope = ks; whole = e i }

  -- What comes behind fields, and with them in front.
  abbrev Goes : List Later → List Known → Term → Type 0
  Goes fs ks rest = AreAwaited es s ks fs → AreTold es s used fs → ((new : List Known) → Stepped used fs ks new → LinesAreBuilt core b (met core.table (scoped s new) rest)) → LinesAreBuilt core b (met core.table (scoped s ks) (prepend (ends_now used fs) rest))

  pub step : (fs : List Later) (ks : List Known) (rest : Term) → AreAwaited es s ks fs → AreApart fs → AreTold es s used fs
      → ((new : List Known) → Stepped used fs ks new → LinesAreBuilt core b (met core.table (scoped s new) rest))
      → LinesAreBuilt core b (met core.table (scoped s ks) (prepend (ends_now used fs) rest))
  step [] ks rest a p t go = go ks (record { same = λ v e. refl; more = λ v r. r; served = λ v l u. absurd (both_ways false refl l) })
  step (f ∷ fs) ks rest a p t go = cases (used f.field) refl (λ a' t' go'. step fs (after f ks) rest a' p.1 t' go') (λ a' t' go'. step fs ks rest a' p.1 t' go')
    where
      taken : used f.field ≡ true → (new : List Known) → Stepped used fs (after f ks) new → Stepped used (f ∷ fs) ks new
      taken u new q = record {
        same = λ v e. q.same v (tail v e) ∙ after_past f ks a.0 v (other v e);
        more = λ v r. q.more v (after_more f ks a.0 v r);
        served = λ v l w. ⊎_elim (λ e. q.more v (ap is_reached (after_is f ks a.0 v ∙ known_first (now_reached a.0.constructor f.field f.before) ks v e))) (λ m. q.served v m w) (or_cases (f.field.0 == v.0) (is_later fs v) l);
      }
        where
          tail : (v : Variable) → ((f.field.0 == v.0 || is_later fs v) && used v) ≡ false → (is_later fs v && used v) ≡ false
          tail v e = split (f.field.0 == v.0) e
            where
              split : (c : Bool) → ((c || is_later fs v) && used v) ≡ false → (is_later fs v && used v) ≡ false
              split false h = h
              split true h = ap (λ d. is_later fs v && d) h ∙ and-false (is_later fs v)

          other : (v : Variable) → ((f.field.0 == v.0 || is_later fs v) && used v) ≡ false → (f.field.0 == v.0) ≡ false
          other v e = split (f.field.0 == v.0) refl
            where
              split : (c : Bool) → (f.field.0 == v.0) ≡ c → (f.field.0 == v.0) ≡ false
              split false h = h
              split true h = absurd (both_ways (used v) (sym (ap (λ c. (c || is_later fs v) && used v) h) ∙ e) (ap used (sym (same_variable f.field v h)) ∙ u))

      left : used f.field ≡ false → (new : List Known) → Stepped used fs ks new → Stepped used (f ∷ fs) ks new
      left u new q = record {
        same = λ v e. q.same v (tail v e);
        more = q.more;
        served = λ v l w. ⊎_elim (λ e. absurd (both_ways (used f.field) u (ap used (same_variable f.field v e) ∙ w))) (λ m. q.served v m w) (or_cases (f.field.0 == v.0) (is_later fs v) l);
      }
        where
          tail : (v : Variable) → ((f.field.0 == v.0 || is_later fs v) && used v) ≡ false → (is_later fs v && used v) ≡ false
          tail v e = split (f.field.0 == v.0) e
            where
              split : (c : Bool) → ((c || is_later fs v) && used v) ≡ false → (is_later fs v && used v) ≡ false
              split false h = h
              split true h = ap (λ d. is_later fs v && d) h ∙ and-false (is_later fs v)

      cases : (c : Bool) → used f.field ≡ c → Goes fs (after f ks) rest → Goes fs ks rest → LinesAreBuilt core b (met core.table (scoped s ks) (prepend (if c then Reach f.field (End f.before) ∷ ends_now used fs else ends_now used fs) rest))
      cases true u behind' here = (
        end_fine f ks a.0 (t.0 u),
        subst (λ (z : Setting). LinesAreBuilt core b (met core.table z (prepend (ends_now used fs) rest))) (unwhole (after f ks) a.0.whole) (behind' (still f ks a.0 fs p.0 a.1) t.1 (λ new q. go new (taken u new q))),
      )
      cases false u behind' here = here a.1 t.1 (λ new q. go new (left u new q))

-- The fields that were not used are still awaited.
pub waiting : (es : List Ended) (s : Setting) (used : Variable → Bool) (fs : List Later) (all : List Later) (ks new : List Known) → Stepped used all ks new → AreAwaited es s ks fs → AreAwaited es s new (not_now used fs)
waiting _ s used [] all ks new q a = tt
waiting es s used (f ∷ fs) all ks new q a = cases (used f.field) refl (waiting es s used fs all ks new q a.1)
  where
    cases : (c : Bool) → used f.field ≡ c → AreAwaited es s new (not_now used fs) → AreAwaited es s new (if c then not_now used fs else f ∷ not_now used fs)
    cases true u rest = rest
    cases false u rest = (
      record {
        constructor = a.0.constructor;
        pending = q.same f.field (ap (λ c. is_later all f.field && c) u ∙ and-false (is_later all f.field)) ∙ a.0.pending;
        told = λ t. q.more f.before (a.0.told t);
        there = a.0.there;
        beside = a.0.beside;
        out = a.0.out;
        whole = a.0.whole;
      },
      rest,
    )

left_later : (used : Variable → Bool) (fs : List Later) (x : Variable) → is_later fs x ≡ false → is_later (not_now used fs) x ≡ false
left_later used [] x e = refl
left_later used (f ∷ fs) x e = cases (used f.field) (left_later used fs x parts.1)
  where
    parts : ((f.field.0 == x.0) ≡ false) × (is_later fs x ≡ false)
    parts = or_parts (f.field.0 == x.0) (is_later fs x) e

    cases : (c : Bool) → is_later (not_now used fs) x ≡ false → is_later (if c then not_now used fs else f ∷ not_now used fs) x ≡ false
    cases true h = h
    cases false h = ap (λ c. c || is_later (not_now used fs) x) parts.0 ∙ h

pub left_apart : (used : Variable → Bool) (fs : List Later) → AreApart fs → AreApart (not_now used fs)
left_apart used [] p = tt
left_apart used (f ∷ fs) p = cases (used f.field) (left_apart used fs p.1)
  where
    cases : (c : Bool) → AreApart (not_now used fs) → AreApart (if c then not_now used fs else f ∷ not_now used fs)
    cases true h = h
    cases false h = (left_later used fs f.field p.0, h)

-- A field that is used later and not yet is one of those that are left.
pub left_there : (used : Variable → Bool) (fs : List Later) (x : Variable) → is_later fs x ≡ true → is_later (not_now used fs) x ≡ false → used x ≡ true
left_there used [] x l n = absurd cc
left_there used (f ∷ fs) x l n = cases (used f.field) refl n (or_cases (f.field.0 == x.0) (is_later fs x) l) (λ m h. left_there used fs x m h)
  where
    cases : (c : Bool) → used f.field ≡ c → is_later (if c then not_now used fs else f ∷ not_now used fs) x ≡ false → ((f.field.0 == x.0) ≡ true) ⊎ (is_later fs x ≡ true)
        → (is_later fs x ≡ true → is_later (not_now used fs) x ≡ false → used x ≡ true) → used x ≡ true
    cases true u h (inl e) more' = ap used (sym (same_variable f.field x e)) ∙ u
    cases true u h (inr m) more' = more' m h
    cases false u h (inl e) more' = absurd (both_ways (f.field.0 == x.0) (or_parts (f.field.0 == x.0) (is_later (not_now used fs) x) h).0 e)
    cases false u h (inr m) more' = more' m (or_parts (f.field.0 == x.0) (is_later (not_now used fs) x) h).1
