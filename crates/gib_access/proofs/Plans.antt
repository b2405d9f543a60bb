-- Plans of arms' lines.
use Rattle.std.proofs.Common.{◌≡◌, ℕ, zero, suc, ◌+◌, ◌-◌, ◌<◌, ◌≤◌, ◌==◌, Bool, true, false, ◌||◌, ◌&&◌, if◌then◌else◌, cond, nat_le, slice_index_or, take, drop, List, [], ◌∷◌, map, length, get_or, refl, sym, ap, subst, ◌∙◌, arith}
use Rattle.std.proofs.lemmas.Bool.{both_ways, eq-eqb, eqb-true, false_from_ne_true}
use Rattle.std.proofs.lemmas.Bool.Decides.{nat_tests}
use Rattle.gib_core.specs.declared.atom.Variable.{Variable}
use Rattle.gib_core.specs.declared.atom.AccessMode.{AccessMode}
use Rattle.gib_core.specs.declared.atom.AccessMode.TheVariants.{Skips, Offsets, Ends}
use Rattle.gib_core.specs.declared.atom.Access.TheVariants.{End}
use Rattle.gib_core.specs.Tree.{Term, Then, Write, Point, CallTerm, Give, CaseTerm, IfTerm, Tuple, Bind, Reach, prepend}
use Rattle.std.proofs.Math.Seq.{take-length}
use Rattle.std.proofs.lemmas.List.{drop_more}
use Rattle.gib_core.specs.declared.node.Binding.{Binding}
use Rattle.gib_core.specs.Arena.{IsEnd, bind_from, binds_from}
use Rattle.gib_core.specs.declared.atom.Ended.{Ended}
use Rattle.gib_core.specs.Ending.{is_telling}
use Rattle.gib_core.specs.Reaching.{Later, uses, bind_uses, told_first, ends_from, untold_from, laters, untold, ends_now, not_now}
use Rattle.gib_access.specs.declared.planning.Planned.{Planned}
use Rattle.gib_access.specs.Planned.{first_use, any_tells, later_of, ends_at, left_from, ArePlanned, is_told_first, planned_from, others_from, behind_first, IsPlan}

-- At the end of a line what was told stays.
pub told_end : (es : List Ended) (told : Bool) (z y : Variable) (t : Term) → IsEnd t → told_first es told z y t ≡ told
told_end es told z y (Then b u) e = absurd e
told_end es told z y (Write h k ss ps) e = refl
told_end es told z y (Point x) e = refl
told_end es told z y (CallTerm f xs) e = refl
told_end es told z y (Give x) e = refl
told_end es told z y (CaseTerm x bs) e = refl
told_end es told z y (IfTerm x u v) e = refl
told_end es told z y (Tuple tys ss ps) e = refl

or_turn : (a b c : Bool) → ((a || b) || c) ≡ (b || (a || c))
or_turn true true c = refl
or_turn true false c = refl
or_turn false true c = refl
or_turn false false c = refl

none_told : (b : Bool) → b ≡ (b || false)
none_told true = refl
none_told false = refl

told_line : (es : List Ended) (told : Bool) (z y : Variable) (bs : List Bind) (t : Term) → IsEnd t → told_first es told z y (prepend bs t) ≡ (told || any_tells es (take (first_use bs y) bs) z)
told_line es told z y [] t e = told_end es told z y t e ∙ none_told told
told_line es told z y (b ∷ bs) t e = go (bind_uses b y) (told_line es (is_telling es b z || told) z y bs t e)
  where
    go : (c : Bool) → told_first es (is_telling es b z || told) z y (prepend bs t) ≡ ((is_telling es b z || told) || any_tells es (take (first_use bs y) bs) z) → (if c then told else told_first es (is_telling es b z || told) z y (prepend bs t)) ≡ (told || any_tells es (take (if c then zero else suc (first_use bs y)) (b ∷ bs)) z)
    go true r = none_told told
    go false r = r ∙ or_turn (is_telling es b z) told (any_tells es (take (first_use bs y) bs) z)

pub told_is : (es : List Ended) (z y : Variable) (bs : List Bind) (t : Term) → IsEnd t → told_first es false z y (prepend bs t) ≡ is_told_first es bs z y
told_is es z y bs t e = told_line es false z y bs t e

ends_are : (es : List Ended) (bs : List Bind) (t : Term) (z : Variable) (ys : List Variable) → IsEnd t → map later_of (planned_from es bs t z ys) ≡ ends_from es (prepend bs t) z ys
ends_are es bs t z [] e = refl
ends_are es bs t z (y ∷ ys) e =
    go (uses (prepend bs t) y && is_told_first es bs z y) (ends_are es bs t y ys e)
    ∙ ap (λ (c : Bool). if uses (prepend bs t) y && c then record { field = y; before = z } ∷ ends_from es (prepend bs t) y ys else ends_from es (prepend bs t) y ys) (sym (told_is es z y bs t e))
  where
    go : (c : Bool) → map later_of (planned_from es bs t y ys) ≡ ends_from es (prepend bs t) y ys → map later_of (if c then record { field = y; before = z; place = first_use bs y } ∷ planned_from es bs t y ys else planned_from es bs t y ys) ≡ (if c then record { field = y; before = z } ∷ ends_from es (prepend bs t) y ys else ends_from es (prepend bs t) y ys)
    go true r = ap (λ (fs : List Later). record { field = y; before = z } ∷ fs) r
    go false r = r

others_are : (es : List Ended) (bs : List Bind) (t : Term) (z : Variable) (ys : List Variable) → IsEnd t → others_from es bs z ys ≡ untold_from es (prepend bs t) z ys
others_are es bs t z [] e = refl
others_are es bs t z (y ∷ ys) e =
    go (is_told_first es bs z y) (others_are es bs t y ys e)
    ∙ ap (λ (c : Bool). if c then untold_from es (prepend bs t) y ys else y ∷ untold_from es (prepend bs t) y ys) (sym (told_is es z y bs t e))
  where
    go : (c : Bool) → others_from es bs y ys ≡ untold_from es (prepend bs t) y ys → (if c then others_from es bs y ys else y ∷ others_from es bs y ys) ≡ (if c then untold_from es (prepend bs t) y ys else y ∷ untold_from es (prepend bs t) y ys)
    go true r = r
    go false r = ap (λ (xs : List Variable). y ∷ xs) r

are_planned : (es : List Ended) (bs : List Bind) (t : Term) (z : Variable) (ys : List Variable) → ArePlanned bs t (planned_from es bs t z ys)
are_planned es bs t z [] = tt
are_planned es bs t z (y ∷ ys) = go (uses (prepend bs t) y) refl (is_told_first es bs z y) (are_planned es bs t y ys)
  where
    go : (u : Bool) → uses (prepend bs t) y ≡ u → (c : Bool) → ArePlanned bs t (planned_from es bs t y ys) → ArePlanned bs t (if u && c then record { field = y; before = z; place = first_use bs y } ∷ planned_from es bs t y ys else planned_from es bs t y ys)
    go true e true r = ((refl, e), r)
    go true e false r = r
    go false e c r = r

pub plan_told : (es : List Ended) (bs : List Bind) (t : Term) (z : Variable) (ys : List Variable) (ps : List Planned) (others : List Variable) → IsEnd t → ps ≡ planned_from es bs t z ys → others ≡ others_from es bs z ys → IsPlan Ends es bs t (z ∷ ys) ps others
plan_told es bs t z ys ps others e a b = record {
  planned = subst (ArePlanned bs t) (sym a) (are_planned es bs t z ys);
  laters = ap (map later_of) a ∙ ends_are es bs t z ys e;
  others = b ∙ others_are es bs t z ys e;
}

plan_rest : (mode : AccessMode) (es : List Ended) (bs : List Bind) (t : Term) (packed : List Variable) (ps : List Planned) (others : List Variable) → laters mode es (prepend bs t) packed ≡ [] → untold mode es (prepend bs t) packed ≡ behind_first packed
    → ps ≡ [] → others ≡ behind_first packed → IsPlan mode es bs t packed ps others
plan_rest mode es bs t packed ps others l u a b = record {
  planned = subst (ArePlanned bs t) (sym a) tt;
  laters = ap (map later_of) a ∙ sym l;
  others = b ∙ sym u;
}

pub plan_skips : (es : List Ended) (bs : List Bind) (t : Term) (packed : List Variable) (ps : List Planned) (others : List Variable) → ps ≡ [] → others ≡ behind_first packed → IsPlan Skips es bs t packed ps others
plan_skips es bs t [] ps others a b = plan_rest Skips es bs t [] ps others refl refl a b
plan_skips es bs t (z ∷ ys) ps others a b = plan_rest Skips es bs t (z ∷ ys) ps others refl refl a b

pub plan_offsets : (es : List Ended) (bs : List Bind) (t : Term) (packed : List Variable) (ps : List Planned) (others : List Variable) → ps ≡ [] → others ≡ behind_first packed → IsPlan Offsets es bs t packed ps others
plan_offsets es bs t [] ps others a b = plan_rest Offsets es bs t [] ps others refl refl a b
plan_offsets es bs t (z ∷ ys) ps others a b = plan_rest Offsets es bs t (z ∷ ys) ps others refl refl a b

pub plan_none : (es : List Ended) (bs : List Bind) (t : Term) (ps : List Planned) (others : List Variable) → ps ≡ [] → others ≡ [] → IsPlan Ends es bs t [] ps others
plan_none es bs t ps others a b = plan_rest Ends es bs t [] ps others refl refl a b

-- Where a line goes on.

uses_line : (bs : List Bind) (t : Term) (y : Variable) → first_use bs y ≡ length bs → uses (prepend bs t) y ≡ uses t y
uses_line [] t y e = refl
uses_line (b ∷ bs) t y e = go (bind_uses b y) e (λ h. uses_line bs t y h)
  where
    go : (c : Bool) → (if c then zero else suc (first_use bs y)) ≡ suc (length bs) → (first_use bs y ≡ length bs → uses (prepend bs t) y ≡ uses t y) → (c || uses (prepend bs t) y) ≡ uses t y
    go true h r = absurd (omega (arith, h))
    go false h r = r (omega (arith, h))

first_within : (bs : List Bind) (y : Variable) → first_use bs y ≤ length bs
first_within [] y = omega arith
first_within (b ∷ bs) y = go (bind_uses b y) (first_within bs y)
  where
    go : (c : Bool) → first_use bs y ≤ length bs → (if c then zero else suc (first_use bs y)) ≤ suc (length bs)
    go true h = omega (arith, h)
    go false h = omega (arith, h)

next_same : (m n : ℕ) → (m == n) ≡ (suc m == suc n)
next_same m n = by (m == n) refl
  where
    by : (c : Bool) → (m == n) ≡ c → c ≡ (suc m == suc n)
    by true e = sym (eq-eqb (suc m) (suc n) (ap suc (eqb-true m n e)))
    by false e = sym (false_from_ne_true (suc m == suc n) (λ s. both_ways (m == n) e (eq-eqb m n (let q = eqb-true (suc m) (suc n) s in omega (arith, q)))))

-- A binding uses a field that is not reached before it exactly where the field's place is there.
used_there : (bs : List Bind) (i : ℕ) (d : Bind) (y : Variable) → i < length bs → i ≤ first_use bs y → bind_uses (get_or bs i d) y ≡ (first_use bs y == i)
used_there [] i d y lt le = absurd (omega (arith, lt))
used_there (b ∷ bs) zero d y lt le = go (bind_uses b y) refl
  where
    go : (c : Bool) → bind_uses b y ≡ c → bind_uses b y ≡ ((if c then zero else suc (first_use bs y)) == zero)
    go true e = e
    go false e = e ∙ sym (false_from_ne_true (suc (first_use bs y) == zero) (λ s. let q = eqb-true (suc (first_use bs y)) zero s in omega (arith, q)))
used_there (b ∷ bs) (suc i) d y lt le = go (bind_uses b y) le (λ h. used_there bs i d y (omega (arith, lt)) h)
  where
    go : (c : Bool) → suc i ≤ (if c then zero else suc (first_use bs y)) → (i ≤ first_use bs y → bind_uses (get_or bs i d) y ≡ (first_use bs y == i)) → bind_uses (get_or bs i d) y ≡ ((if c then zero else suc (first_use bs y)) == suc i)
    go true h r = absurd (omega (arith, h))
    go false h r = r (omega (arith, h)) ∙ next_same (first_use bs y) i

-- Whether a term uses a field that is not reached before it, of each of these.
abbrev AreSo : ℕ → (Variable → Bool) → List Planned → Type 0
AreSo i used [] = Unit {0}
AreSo i used (p ∷ ps) = (nat_le i p.place ≡ true → used p.field ≡ (p.place == i)) × AreSo i used ps

-- The fields that are reached before a binding, and those that are left behind it.
at_there : (i : ℕ) (ps : List Planned) (used : Variable → Bool) → AreSo i used ps → ends_now used (left_from i ps) ≡ ends_at i ps
at_there i [] used h = refl
at_there i (p ∷ ps) used h = go (at_there i ps used h.1) (nat_le i p.place) refl (p.place == i) refl
  where
    go : ends_now used (left_from i ps) ≡ ends_at i ps → (c : Bool) → nat_le i p.place ≡ c → (d : Bool) → (p.place == i) ≡ d → ends_now used (if c then later_of p ∷ left_from i ps else left_from i ps) ≡ (if d then Reach p.field (End p.before) ∷ ends_at i ps else ends_at i ps)
    go r true le true e = ap (λ (c : Bool). if c then Reach p.field (End p.before) ∷ ends_now used (left_from i ps) else ends_now used (left_from i ps)) (h.0 le ∙ e) ∙ ap (λ (bs : List Bind). Reach p.field (End p.before) ∷ bs) r
    go r true le false e = ap (λ (c : Bool). if c then Reach p.field (End p.before) ∷ ends_now used (left_from i ps) else ends_now used (left_from i ps)) (h.0 le ∙ e) ∙ r
    go r false le true e = absurd (let q = eqb-true p.place i e in grind (arith, nat_tests))
    go r false le false e = r

behind_there : (i : ℕ) (ps : List Planned) (used : Variable → Bool) → AreSo i used ps → not_now used (left_from i ps) ≡ left_from (suc i) ps
behind_there i [] used h = refl
behind_there i (p ∷ ps) used h = go (behind_there i ps used h.1) (nat_le i p.place) refl (p.place == i) refl (nat_le (suc i) p.place) refl
  where
    go : not_now used (left_from i ps) ≡ left_from (suc i) ps → (c : Bool) → nat_le i p.place ≡ c → (d : Bool) → (p.place == i) ≡ d → (f : Bool) → nat_le (suc i) p.place ≡ f
        → not_now used (if c then later_of p ∷ left_from i ps else left_from i ps) ≡ (if f then later_of p ∷ left_from (suc i) ps else left_from (suc i) ps)
    go r true le true e true g = absurd (let q = eqb-true p.place i e in grind (arith, nat_tests))
    go r true le true e false g = ap (λ (c : Bool). if c then not_now used (left_from i ps) else later_of p ∷ not_now used (left_from i ps)) (h.0 le ∙ e) ∙ r
    go r true le false e true g = ap (λ (c : Bool). if c then not_now used (left_from i ps) else later_of p ∷ not_now used (left_from i ps)) (h.0 le ∙ e) ∙ ap (λ (fs : List Later). later_of p ∷ fs) r
    go r true le false e false g = absurd (both_ways (p.place == i) e (eq-eqb p.place i (grind (arith, nat_tests))))
    go r false le d e true g = absurd (grind (arith, nat_tests))
    go r false le d e false g = r

so_binding : (bs : List Bind) (t : Term) (i : ℕ) (d : Bind) (ps : List Planned) → i < length bs → ArePlanned bs t ps → AreSo i (bind_uses (get_or bs i d)) ps
so_binding bs t i d [] lt h = tt
so_binding bs t i d (p ∷ ps) lt h =
    (λ le. used_there bs i d p.field lt (let q = h.0.0 in grind (arith, nat_tests)) ∙ ap (λ (k : ℕ). k == i) (sym h.0.0), so_binding bs t i d ps lt h.1)

so_end : (bs : List Bind) (t : Term) (ps : List Planned) → ArePlanned bs t ps → AreSo (length bs) (uses t) ps
so_end bs t [] h = tt
so_end bs t (p ∷ ps) h = (
  λ le. (
      let w = first_within bs p.field in
      let q = h.0.0 in
      let all : first_use bs p.field ≡ length bs = grind (arith, nat_tests) in
      sym (uses_line bs t p.field all) ∙ h.0.1 ∙ sym (eq-eqb p.place (length bs) (h.0.0 ∙ all))),
  so_end bs t ps h.1,
)

-- Before a binding just those fields are reached that have their place there, and behind it the later ones are left.
pub at_binding : (bs : List Bind) (t : Term) (i : ℕ) (d : Bind) (ps : List Planned) → i < length bs → ArePlanned bs t ps
    → (ends_now (bind_uses (get_or bs i d)) (left_from i ps) ≡ ends_at i ps) × (not_now (bind_uses (get_or bs i d)) (left_from i ps) ≡ left_from (suc i) ps)
at_binding bs t i d ps lt h =
    let so = so_binding bs t i d ps lt h in
    (at_there i ps (bind_uses (get_or bs i d)) so, behind_there i ps (bind_uses (get_or bs i d)) so)

pub at_end : (bs : List Bind) (t : Term) (ps : List Planned) → ArePlanned bs t ps → ends_now (uses t) (left_from (length bs) ps) ≡ ends_at (length bs) ps
at_end bs t ps h = at_there (length bs) ps (uses t) (so_end bs t ps h)

pub all_left : (ps : List Planned) → left_from 0 ps ≡ map later_of ps
all_left [] = refl
all_left (p ∷ ps) = ap (λ (c : Bool). if c then later_of p ∷ left_from 0 ps else left_from 0 ps) (from_zero p.place) ∙ ap (λ (fs : List Later). later_of p ∷ fs) (all_left ps)
  where
    from_zero : (n : ℕ) → nat_le 0 n ≡ true
    from_zero n = grind (arith, nat_tests)

-- The next of the first bindings.
pub told_step : (es : List Ended) (f : ℕ → Term) (bs : List Binding) (many i : ℕ) (d : Binding) (z : Variable) → i < many → many ≤ length bs
    → any_tells es (take (many - i) (binds_from f (drop i bs))) z ≡ (is_telling es (bind_from f (get_or bs i d)) z || any_tells es (take (many - (i + 1)) (binds_from f (drop (i + 1) bs))) z)
told_step es f bs many i d z lt le =
    let more : many - i ≡ suc (many - (i + 1)) = omega (arith, lt) in
    ap (λ ks. any_tells es (take (many - i) (binds_from f ks)) z) (drop_more bs i d (omega (arith, lt, le))) ∙ ap (λ n. any_tells es (take n (bind_from f (get_or bs i d) ∷ binds_from f (drop (i + 1) bs))) z) more

-- The next field.
pub planned_told : (es : List Ended) (bs : List Bind) (t : Term) (z y : Variable) (ys : List Variable) → is_told_first es bs z y ≡ true → uses (prepend bs t) y ≡ true
    → planned_from es bs t z (y ∷ ys) ≡ record { field = y; before = z; place = first_use bs y } ∷ planned_from es bs t y ys
planned_told es bs t z y ys e u = (λ i. if u i && e i then record { field = y; before = z; place = first_use bs y } ∷ planned_from es bs t y ys else planned_from es bs t y ys)

pub planned_unused : (es : List Ended) (bs : List Bind) (t : Term) (z y : Variable) (ys : List Variable) → uses (prepend bs t) y ≡ false → planned_from es bs t z (y ∷ ys) ≡ planned_from es bs t y ys
planned_unused es bs t z y ys u = (λ i. if u i && is_told_first es bs z y then record { field = y; before = z; place = first_use bs y } ∷ planned_from es bs t y ys else planned_from es bs t y ys)

pub planned_untold : (es : List Ended) (bs : List Bind) (t : Term) (z y : Variable) (ys : List Variable) → is_told_first es bs z y ≡ false → planned_from es bs t z (y ∷ ys) ≡ planned_from es bs t y ys
planned_untold es bs t z y ys e = ap (λ c. if uses (prepend bs t) y && c then record { field = y; before = z; place = first_use bs y } ∷ planned_from es bs t y ys else planned_from es bs t y ys) e ∙ none_there (uses (prepend bs t) y)
  where
    none_there : (c : Bool) → (if c && false then record { field = y; before = z; place = first_use bs y } ∷ planned_from es bs t y ys else planned_from es bs t y ys) ≡ planned_from es bs t y ys
    none_there true = refl
    none_there false = refl

-- Where a line uses a variable: in its bindings or at its end.
pub used_at : (bs : List Bind) (t : Term) (y : Variable) → first_use bs y < length bs → uses (prepend bs t) y ≡ true
used_at [] t y lt = absurd (omega (arith, lt))
used_at (b ∷ bs) t y lt = go (bind_uses b y) lt (λ h. used_at bs t y h)
  where
    go : (c : Bool) → (if c then zero else suc (first_use bs y)) < suc (length bs) → (first_use bs y < length bs → uses (prepend bs t) y ≡ true) → (c || uses (prepend bs t) y) ≡ true
    go true h r = refl
    go false h r = r (omega (arith, h))

pub used_end : (bs : List Bind) (t : Term) (y : Variable) → first_use bs y ≡ length bs → uses (prepend bs t) y ≡ uses t y
used_end bs t y e = uses_line bs t y e

pub binds_long : (f : ℕ → Term) (bs : List Binding) → length (binds_from f bs) ≡ length bs
binds_long f [] = refl
binds_long f (b ∷ bs) = ap suc (binds_long f bs)

pub split_first : (xs : List Variable) (d : Variable) → 1 ≤ length xs → xs ≡ slice_index_or xs 0 d ∷ take (length xs - 1) (drop 1 xs)
split_first [] d h = absurd (omega (arith, h))
split_first (x ∷ xs) d h = let n : length (x ∷ xs) - 1 ≡ length xs = omega arith in ap (λ zs. x ∷ zs) (sym (ap (λ k. take k xs) n ∙ take-length xs))

pub plan_mode : (mode : AccessMode) (es : List Ended) (bs : List Bind) (t : Term) (packed : List Variable) (z : Variable) (ys : List Variable) (ps : List Planned) (others : List Variable) → mode ≡ Ends → packed ≡ z ∷ ys → IsEnd t
    → ps ≡ planned_from es bs t z ys → others ≡ others_from es bs z ys → IsPlan mode es bs t packed ps others
plan_mode mode es bs t packed z ys ps others e s en a b =
    subst (λ (m : AccessMode). IsPlan m es bs t packed ps others) (sym e) (subst (λ (q : List Variable). IsPlan Ends es bs t q ps others) (sym s) (plan_told es bs t z ys ps others en a b))
