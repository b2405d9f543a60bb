-- What is found by numbers, as more comes and the newest leaves.
use Rattle.std.proofs.Common.{◌≡◌, ℕ, zero, suc, ◌+◌, ◌-◌, ◌<◌, ◌++◌, Bool, true, false, ◌==◌, ◌||◌, if◌then◌else◌, List, [], ◌∷◌, map, reverse, take, get_or, length, Option, Some, refl, sym, ap, subst, ◌∙◌, arith}
use Rattle.std.proofs.lemmas.Bool.Decides.{nat_tests}
use Rattle.std.proofs.lemmas.List.{map-append, reverse-append}
use Rattle.gib_base.specs.Entries.{entry_at}
use Rattle.gib_types.specs.declared.table.Ty.{Ty}
use Rattle.gib_core.specs.declared.atom.Variable.{Variable}
use Rattle.gib_core.specs.declared.scope.Bound.{Bound}
use Rattle.gib_core.specs.declared.scope.Known.{Known}
use Rattle.gib_core.specs.Met.{known}
use Rattle.gib_core.specs.Rules.{is_bound, type_bound}
use Rattle.gib_loccheck.specs.declared.index.scope.InScope.{InScope}
use Rattle.gib_loccheck.specs.Found.{AreTypes, AreMarked, AreKnown, known_of, is_found}

pub types_put : (bound : List Bound) (old new : List (Option Ty)) (b : Bound) → AreTypes bound old
    → ((other : ℕ) → entry_at new other ≡ (if b.variable.0 == other then Some b.ty else entry_at old other)) → AreTypes (b ∷ bound) new
types_put bound old new b h set = record { each = λ x. set x.0 ∙ ap (λ (o : Option Ty). if b.variable.0 == x.0 then Some b.ty else o) (h.each x) }

pub bound_found : (bound : List Bound) (x : Variable) → is_bound bound x ≡ is_found (type_bound bound x)
bound_found [] x = refl
bound_found (b ∷ bound) x = go (b.variable.0 == x.0) (bound_found bound x)
  where
    go : (c : Bool) → is_bound bound x ≡ is_found (type_bound bound x) → c || is_bound bound x ≡ is_found (if c then Some b.ty else type_bound bound x)
    go true e = refl
    go false e = e

found_or : (c : Bool) (o : Option Bool) → is_found (if c then Some true else o) ≡ (c || is_found o)
found_or true o = refl
found_or false o = refl

pub flag_put : (old new : List (Option Bool)) (n : ℕ)
    → ((other : ℕ) → entry_at new other ≡ (if n == other then Some true else entry_at old other)) → (other : ℕ) → is_found (entry_at new other) ≡ (n == other || is_found (entry_at old other))
flag_put old new n set other = ap is_found (set other) ∙ found_or (n == other) (entry_at old other)

pub marks_put : (variables : List Variable) (old new : List (Option Bool)) (v : Variable) → AreMarked variables old
    → ((other : ℕ) → entry_at new other ≡ (if v.0 == other then Some true else entry_at old other)) → AreMarked (v ∷ variables) new
marks_put variables old new v h set = record { each = λ x. flag_put old new v.0 set x.0 ∙ ap (λ (p : Bool). (v.0 == x.0) || p) (h.each x) }

pub known_put : (es : List InScope) (old new : List (Option Known)) (e : InScope) → AreKnown es old → e.before ≡ entry_at old e.known.variable.0
    → ((other : ℕ) → entry_at new other ≡ (if e.known.variable.0 == other then Some e.known else entry_at old other)) → AreKnown (e ∷ es) new
known_put es old new e h was set = record {
  each = λ x. set x.0 ∙ ap (λ (o : Option Known). if e.known.variable.0 == x.0 then Some e.known else o) (h.each x);
  kept = (was ∙ h.each e.known.variable, h.kept);
}

pub known_left : (es : List InScope) (old new : List (Option Known)) (e : InScope) → AreKnown (e ∷ es) old
    → ((other : ℕ) → entry_at new other ≡ (if e.known.variable.0 == other then e.before else entry_at old other)) → AreKnown es new
known_left es old new e h set = record { each = λ x. set x.0 ∙ go x (e.known.variable.0 == x.0) refl (h.each x); kept = h.kept.1 }
  where
    go : (x : Variable) (c : Bool) → e.known.variable.0 == x.0 ≡ c → entry_at old x.0 ≡ (if c then Some e.known else known (map known_of es) x)
        → (if c then e.before else entry_at old x.0) ≡ known (map known_of es) x
    go x true q k = let same : e.known.variable.0 ≡ x.0 = grind (arith, nat_tests) in h.kept.0 ∙ (λ i. known (map known_of es) (record { 0 = same i }))
    go x false q k = k

split_last : (xs : List InScope) (e : InScope) (n : ℕ) → n + 1 ≡ length xs → xs ≡ take n xs ++ get_or xs n e ∷ []
split_last [] e n h = absurd (omega (arith, h))
split_last (x ∷ []) e zero h = refl
split_last (x ∷ y ∷ xs) e zero h = absurd (omega (arith, h))
split_last (x ∷ xs) e (suc n) h = ap (λ (z : List InScope). x ∷ z) (split_last xs e n (omega (arith, h)))

pub known_popped : (xs zs ys : List InScope) (v : ℕ) (old new : List (Option Known)) (e : InScope) → AreKnown (reverse xs) old → zs ≡ xs → v ≡ length xs → 0 < length zs → e ≡ get_or zs (length zs - 1) e → ys ≡ take (v - 1) xs
    → ((other : ℕ) → entry_at new other ≡ (if e.known.variable.0 == other then e.before else entry_at old other)) → AreKnown (reverse ys) new
known_popped xs zs ys v old new e h same long positive at cut set =
    let n = length xs - 1 in
    let many : length zs ≡ length xs = ap length same in
    let last : e ≡ get_or xs n e = at ∙ (λ i. get_or (same i) (many i - 1) e) in
    let split : xs ≡ take n xs ++ e ∷ [] = split_last xs e n (omega (arith, positive, many)) ∙ ap (λ (z : InScope). take n xs ++ z ∷ []) (sym last) in
    let turned : reverse xs ≡ e ∷ reverse (take n xs) = ap reverse split ∙ reverse-append (take n xs) (e ∷ []) in
    let left = known_left (reverse (take n xs)) old new e (subst (λ (z : List InScope). AreKnown z old) turned h) set in
    subst (λ (z : List InScope). AreKnown (reverse z) new) (sym (cut ∙ ap (λ (k : ℕ). take (k - 1) xs) long)) left

turned_known : (es : List InScope) → map known_of (reverse es) ≡ reverse (map known_of es)
turned_known [] = refl
turned_known (e ∷ es) = turned e es (turned_known es)
  where
    turned : (e : InScope) (es : List InScope) → map known_of (reverse es) ≡ reverse (map known_of es) → map known_of (reverse (e ∷ es)) ≡ reverse (map known_of (e ∷ es))
    turned e es h = ap (map known_of) (reverse-append (e ∷ []) es) ∙ map-append known_of (reverse es) (e ∷ []) ∙ ap (λ (z : List Known). z ++ e.known ∷ []) h ∙ sym (reverse-append (e.known ∷ []) (map known_of es))

pub known_found : (es : List InScope) (entries : List (Option Known)) (x : Variable) → AreKnown (reverse es) entries → entry_at entries x.0 ≡ known (reverse (map known_of es)) x
known_found es entries x h = h.each x ∙ ap (λ (ks : List Known). known ks x) (turned_known es)
