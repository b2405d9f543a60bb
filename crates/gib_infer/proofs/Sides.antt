-- A side that is bound: what stands inside it, and behind it.
use Rattle.std.proofs.Common.{◌≡◌, ℕ, ◌+◌, ◌<◌, ◌≤◌, Bool, true, false, ◌==◌, ◌||◌, if◌then◌else◌, List, [], ◌∷◌, ◌++◌, map, Some, None, refl, sym, ap, ◌∙◌, subst, arith}
use Rattle.std.specs.List.{AllByRecursion}
use Rattle.std.proofs.lemmas.Bool.{eq-eqb, ne_eqb}
use Rattle.gib_types.specs.declared.table.Ty.{Ty}
use Rattle.gib_types.specs.declared.table.Ty.TheVariants.{Whole, Truth, Tree}
use Rattle.gib_syntax.specs.Meaning.{is_scalar}
use Rattle.gib_syntax.specs.Results as results
use Rattle.gib_syntax.specs.Typing as typing
use Rattle.gib_core.specs.declared.atom.Variable.{Variable}
use Rattle.gib_core.specs.declared.atom.Atom.{Atom}
use Rattle.gib_core.specs.declared.atom.Atom.TheVariants as atomic
use Rattle.gib_core.specs.Tree.{Term, One, Side, On, variables_of, var, CoreTree}
use Rattle.gib_core.specs.Inferring.{Scope, kind_of, atom_at}
use Rattle.gib_core.specs.declared.scope.Known.{Known}
use Rattle.gib_core.specs.Met.{Setting, SideLine, reached, known, in_side, behind, behind_side, with_variables, left_of, right_of, met, met_side}
use Rattle.gib_core.specs.declared.scope.Bound.{Bound}
use Rattle.gib_core.specs.Rules.{Before, same_type, is_among, is_bound, type_bound, is_reached, is_usable, side_rules, least, bound_too, next, next_all}
use Rattle.gib_core.specs.Reachable.{as_reached, all_reached}
use Rattle.gib_core.specs.Ordered.{IsFit}
use Rattle.gib_infer.proofs.Fits.{scope_more, at_fit}
use Rattle.gib_infer.proofs.Ready.{CanUse, Alike, Ready, PlaceFor, Clean, Runs, then_all, clean_nothing, clean_then}
use Rattle.gib_core.proofs.Along.{next_append, behind_all}

pub same_type-refl : (ty : Ty) → same_type ty ty ≡ true
same_type-refl Whole = refl
same_type-refl Truth = refl
same_type-refl (Tree t) = eq-eqb t.0 t.0 refl

-- What was bound.

pub bound_past : (bound : List Bound) (x y : Variable) (ty : Ty) → (x.0 ≡ y.0 → ⊥) → type_bound (bound_too x ty bound) y ≡ type_bound bound y
bound_past bound x y ty ne = ap (λ (t : Bool). if t then Some ty else type_bound bound y) (ne_eqb x.0 y.0 ne)

pub bound_here : (bound : List Bound) (x y : Variable) (ty : Ty) → x.0 ≡ y.0 → type_bound (bound_too x ty bound) y ≡ Some ty
bound_here bound x y ty e = ap (λ (t : Bool). if t then Some ty else type_bound bound y) (eq-eqb x.0 y.0 e)

-- What has no type was not bound.
pub not_bound : (bound : List Bound) (x : Variable) → type_bound bound x ≡ None → is_bound bound x ≡ false
not_bound [] x e = refl
not_bound (b ∷ bs) x e = go (b.variable.0 == x.0) (not_bound bs x) e
  where
    go : (t : Bool) → (type_bound bs x ≡ None → is_bound bs x ≡ false) → (if t then Some b.ty else type_bound bs x) ≡ None → (t || is_bound bs x) ≡ false
    go true more e = absurd cc
    go false more e = more e

pub among_past : (xs : List Variable) (x y : Variable) → (x.0 ≡ y.0 → ⊥) → is_among (x ∷ xs) y ≡ is_among xs y
among_past xs x y ne = ap (λ (t : Bool). t || is_among xs y) (ne_eqb x.0 y.0 ne)

-- What is in scope.

pub usable_past : (s new : Setting) (x y : Variable) → new.scope ≡ reached x ∷ s.scope → (x.0 ≡ y.0 → ⊥) → is_usable (all_reached new) (atomic.Variable y) ≡ is_usable (all_reached s) (atomic.Variable y)
usable_past s new x y e ne =
    ap (λ (ks : List Known). is_reached (known (map as_reached ks) y)) e
    ∙ ap (λ (t : Bool). is_reached (if t then Some (as_reached (reached x)) else known (map as_reached s.scope) y)) (ne_eqb x.0 y.0 ne)

pub usable_here : (s new : Setting) (x : Variable) → new.scope ≡ reached x ∷ s.scope → is_usable (all_reached new) (atomic.Variable x) ≡ true
usable_here s new x e =
    ap (λ (ks : List Known). is_reached (known (map as_reached ks) x)) e
    ∙ ap (λ (t : Bool). is_reached (if t then Some (as_reached (reached x)) else known (map as_reached s.scope) x)) (eq-eqb x.0 x.0 refl)

-- Variables that are as before can be used as before.
pub alike_by : (n : ℕ) (s new : Setting) (b after : Before)
    → ((x : Variable) → x.0 < n → is_usable (all_reached new) (atomic.Variable x) ≡ is_usable (all_reached s) (atomic.Variable x))
    → ((x : Variable) → x.0 < n → is_among new.others x ≡ is_among s.others x)
    → ((x : Variable) → x.0 < n → type_bound after.bound x ≡ type_bound b.bound x)
    → Alike n s new b after
alike_by n s new b after use_same other_same type_same = record { can = go }
  where
    go : (x : Atom) (ty : Ty) → IsFit n x → CanUse s b x ty → CanUse new after x ty
    go (atomic.Variable x) ty f h = record { usable = use_same x f ∙ h.usable; of_type = type_same x f ∙ h.of_type; other = other_same x f ∙ h.other }
    go (atomic.Whole z) ty f h = record { usable = refl; of_type = h.of_type; other = refl }
    go (atomic.Truth t) ty f h = record { usable = refl; of_type = h.of_type; other = refl }

-- The same variables are in scope.
pub alike_scope : (n : ℕ) (s new : Setting) (b after : Before) → new.scope ≡ s.scope
    → ((x : Variable) → x.0 < n → is_among new.others x ≡ is_among s.others x)
    → ((x : Variable) → x.0 < n → type_bound after.bound x ≡ type_bound b.bound x)
    → Alike n s new b after
alike_scope n s new b after e other_same type_same =
    alike_by n s new b after (λ x h. ap (λ (ks : List Known). is_reached (known (map as_reached ks) x)) e) other_same type_same

-- One more variable is in scope.
pub alike_bound : (n : ℕ) (x : Variable) (s new : Setting) (b after : Before) → n ≤ x.0 → new.scope ≡ reached x ∷ s.scope → new.others ≡ s.others
    → ((y : Variable) → y.0 < n → type_bound after.bound y ≡ type_bound b.bound y)
    → Alike n s new b after
alike_bound n x s new b after le e o type_same =
    alike_by n s new b after (λ y h. usable_past s new x y e (λ z. omega (arith, le, h, z))) (λ y h. ap (λ z. is_among z y) o) type_same

-- A variable that came into scope can be used.
pub can_bound : (x : Variable) (ty : Ty) (s new : Setting) (after : Before) → new.scope ≡ reached x ∷ s.scope → new.others ≡ s.others → is_among s.others x ≡ false
    → type_bound after.bound x ≡ Some ty → CanUse new after (atomic.Variable x) ty
can_bound x ty s new after e o apart t = record { usable = usable_here s new x e; of_type = t; other = ap (λ z. is_among z x) o ∙ apart }

-- The two sides of a par.

-- Variables from k on, and those before k.
abbrev pub AreFrom : ℕ → List Variable → Type 0
AreFrom k xs = AllByRecursion (λ (x : Variable). k ≤ x.0) xs

abbrev pub AreBefore : ℕ → List Variable → Type 0
AreBefore k xs = AllByRecursion (λ (x : Variable). x.0 < k) xs

among_from : (k : ℕ) (xs ys : List Variable) (y : Variable) → AreFrom k xs → y.0 < k → is_among (xs ++ ys) y ≡ is_among ys y
among_from k [] ys y h lt = refl
among_from k (x ∷ xs) ys y h lt = among_past (xs ++ ys) x y (let f = h.0 in λ e. omega (arith, e, f, lt)) ∙ among_from k xs ys y h.1 lt

among_before : (k : ℕ) (xs ys : List Variable) (y : Variable) → AreBefore k xs → k ≤ y.0 → is_among (xs ++ ys) y ≡ is_among ys y
among_before k [] ys y h le = refl
among_before k (x ∷ xs) ys y h le = among_past (xs ++ ys) x y (let f = h.0 in λ e. omega (arith, e, f, le)) ∙ among_before k xs ys y h.1 le

-- The left side is ready, up to the right one's variables.
pub ready_left : (n m k : ℕ) (known : typing.Scope) (sc : Scope) (s : Setting) (b : Before) (r : Side) → AreFrom k (variables_of r) → Ready n m known sc s b → n ≤ k → k ≤ m → Ready n k known sc (left_of s r) b
ready_left n m k known sc s b r e h lo hi = record {
  names = λ x ty f. (alike_scope n s (left_of s r) b b refl (λ y lt. among_from k (variables_of r) s.others y e (omega (arith, lt, lo))) (λ y lt. refl)).can (atom_at sc x) ty (at_fit n sc x h.fits) (h.names x ty f);
  fits = h.fits;
  new = λ x le lt. h.new x le (omega (arith, lt, hi));
  uncased = h.uncased;
  apart = λ x le lt. among_from k (variables_of r) s.others x e lt ∙ h.apart x le (omega (arith, lt, hi));
}

-- The right side is ready, behind what the left one binds from its variables on.
pub ready_right : (n m k : ℕ) (known : typing.Scope) (sc : Scope) (s : Setting) (b after : Before) (l : Side) → AreFrom n (variables_of l) → AreBefore k (variables_of l) → Ready n m known sc s b → n ≤ k
    → ((x : Variable) → x.0 < n → type_bound after.bound x ≡ type_bound b.bound x)
    → ((x : Variable) → k ≤ x.0 → type_bound after.bound x ≡ type_bound b.bound x)
    → ((x : Variable) → k ≤ x.0 → is_among after.cased x ≡ is_among b.cased x)
    → Ready k m known sc (right_of s l) after
ready_right n m k known sc s b after l from before h le below above uncased = record {
  names = λ x ty f. (alike_scope n s (right_of s l) b after refl
      (λ y lo. among_from n (variables_of l) s.others y from lo) below).can (atom_at sc x) ty (at_fit n sc x h.fits) (h.names x ty f);
  fits = scope_more n k sc le h.fits;
  new = λ x lo hi. above x lo ∙ h.new x (omega (arith, lo, le)) hi;
  uncased = λ x lo. uncased x lo ∙ h.uncased x (omega (arith, lo, le));
  apart = λ x lo hi. among_before k (variables_of l) s.others x before lo ∙ h.apart x (omega (arith, lo, le)) hi;
}

-- Behind a side.

pub side_others : (s : Setting) (side : Side) → (behind_side s side).others ≡ s.others
side_others s side = refl

pub side_scope : (s : Setting) (side : Side) → (behind_side s side).scope ≡ with_variables (variables_of side) s.scope
side_scope s side = refl

pub side_due : (s : Setting) (side : Side) → (behind_side s side).due ≡ s.due
side_due s side = refl

pub side_destination : (s : Setting) (x : Variable) (ty : Ty) (t : Term) → (behind_side s (On (kind_of ty) x ty t)).destination ≡ s.destination
side_destination s x Whole t = refl
side_destination s x Truth t = refl
side_destination s x (Tree i) t = refl

module _ (core : CoreTree) where
  -- The side's own rules.
  pub side_least : (s : Setting) (b : Before) (ty : Ty) (x : Variable) → type_bound b.bound x ≡ None → least (side_rules core.table b s (kind_of ty) x ty) ≡ None
  side_least s b Whole x e = rw (not_bound b.bound x e) refl
  side_least s b Truth x e = rw (not_bound b.bound x e) refl
  side_least s b (Tree t) x e = rw (not_bound b.bound x e) refl

  inside_scope : (s : Setting) (ty : Ty) → (in_side core.table s (kind_of ty) ty).scope ≡ s.scope
  inside_scope s Whole = refl
  inside_scope s Truth = refl
  inside_scope s (Tree t) = refl

  inside_others : (s : Setting) (ty : Ty) → (in_side core.table s (kind_of ty) ty).others ≡ s.others
  inside_others s Whole = refl
  inside_others s Truth = refl
  inside_others s (Tree t) = refl

  -- Inside a side stands a value of its type.
  pub place_inside : (s : Setting) (ty : Ty) → PlaceFor (results.One ty) (in_side core.table s (kind_of ty) ty)
  place_inside s Whole = record { destination = refl; due = refl }
  place_inside s Truth = record { destination = refl; due = refl }
  place_inside s (Tree t) = record { destination = refl; due = refl }

  -- A scalar side's term is the whole one.
  pub whole_inside : (s : Setting) (ty : Ty) → (in_side core.table s (kind_of ty) ty).whole ≡ is_scalar ty
  whole_inside s Whole = refl
  whole_inside s Truth = refl
  whole_inside s (Tree t) = refl

  -- What could be used below a side's variable can be used inside it.
  pub alike_inside : (n : ℕ) (ty : Ty) (s : Setting) (b : Before) → Alike n s (in_side core.table s (kind_of ty) ty) b (next core.table b (SideLine (kind_of ty) (record { 0 = n }) ty))
  alike_inside n ty s b =
      alike_scope n s (in_side core.table s (kind_of ty) ty) b (next core.table b (SideLine (kind_of ty) (record { 0 = n }) ty))
      (inside_scope s ty) (λ y lt. ap (λ z. is_among z y) (inside_others s ty)) (λ y lt. bound_past b.bound (record { 0 = n }) y ty (λ z. omega (arith, lt, z)))

  -- Inside a side all is ready, behind its variable.
  pub ready_inside : (n m : ℕ) (ty : Ty) (known : typing.Scope) (sc : Scope) (s : Setting) (b : Before) → Ready n m known sc s b
      → Ready (n + 1) m known sc (in_side core.table s (kind_of ty) ty) (next core.table b (SideLine (kind_of ty) (record { 0 = n }) ty))
  ready_inside n m ty known sc s b h = record {
    names = λ x t f. (alike_inside n ty s b).can (atom_at sc x) t (at_fit n sc x h.fits) (h.names x t f);
    fits = scope_more n (n + 1) sc (omega arith) h.fits;
    new = λ x lo hi. bound_past b.bound (record { 0 = n }) x ty (λ z. omega (arith, lo, z)) ∙ h.new x (omega (arith, lo)) hi;
    uncased = λ x lo. h.uncased x (omega (arith, lo));
    apart = λ x lo hi. ap (λ z. is_among z x) (inside_others s ty) ∙ h.apart x (omega (arith, lo)) hi;
  }

  -- A side breaks no rule where its term breaks none.
  pub side_clean : (n m k : ℕ) (ty : Ty) (t : Term) (known : typing.Scope) (sc : Scope) (s : Setting) (b : Before) → Ready n m known sc s b → n < m → n < k
      → Clean core (n + 1) k (next core.table b (SideLine (kind_of ty) (record { 0 = n }) ty)) (met core.table (in_side core.table s (kind_of ty) ty) t)
      → Clean core n k b (met_side core.table s (On (kind_of ty) (record { 0 = n }) ty t))
  side_clean n m k ty t known sc s b h up lt c = record {
    reachable = (side_least (all_reached s) b ty (record { 0 = n }) (h.new (record { 0 = n }) (omega arith) up), c.reachable);
    below = λ x lo. c.below x (omega (arith, lo)) ∙ bound_past b.bound (record { 0 = n }) x ty (λ z. omega (arith, lo, z));
    above = λ x hi. c.above x hi ∙ bound_past b.bound (record { 0 = n }) x ty (λ z. omega (arith, hi, lt, z));
    uncased = λ x hi. c.uncased x hi;
  }

  -- Behind a side its variable has its type.
  pub side_type : (n k : ℕ) (ty : Ty) (t : Term) (s : Setting) (b : Before)
      → Clean core (n + 1) k (next core.table b (SideLine (kind_of ty) (record { 0 = n }) ty)) (met core.table (in_side core.table s (kind_of ty) ty) t)
      → type_bound (next_all core.table b (met_side core.table s (On (kind_of ty) (record { 0 = n }) ty t))).bound (record { 0 = n }) ≡ Some ty
  side_type n k ty t s b c = c.below (record { 0 = n }) (omega arith) ∙ bound_here b.bound (record { 0 = n }) (record { 0 = n }) ty refl

  -- A side that is bound by itself.
  pub side_runs : (n m k : ℕ) (ty : Ty) (t : Term) (known : typing.Scope) (sc : Scope) (s : Setting) (b : Before) → Ready n m known sc s b → n < m → n < k
      → Clean core (n + 1) k (next core.table b (SideLine (kind_of ty) (record { 0 = n }) ty)) (met core.table (in_side core.table s (kind_of ty) ty) t)
      → Runs core n k s b (One (On (kind_of ty) (record { 0 = n }) ty t) ∷ [])
  side_runs n m k ty t known sc s b h up lt c =
      let x : Variable = record { 0 = n } in
      let side = On (kind_of ty) x ty t in
      let ms = met_side core.table s side in
      let clean = side_clean n m k ty t known sc s b h up lt c in
      let all = clean_nothing core k (next_all core.table b ms) in
      record {
        clean = clean_then core n k k k b ms [] clean all (omega (arith, lt)) (omega arith);
        alike = subst (λ (z : Before). Alike n s (behind s (One side)) b z) (sym (next_append core.table b ms [])) (alike_bound n x s (behind s (One side)) b (next_all core.table b ms) (omega arith) (side_scope s side) (side_others s side) clean.below);
        others = side_others s side;
        destination = side_destination s x ty t;
        due = side_due s side;
      }

  -- The variable of a side that is bound by itself can be used.
  pub side_can : (n k : ℕ) (ty : Ty) (t : Term) (s : Setting) (b : Before) → is_among s.others (record { 0 = n }) ≡ false
      → Clean core (n + 1) k (next core.table b (SideLine (kind_of ty) (record { 0 = n }) ty)) (met core.table (in_side core.table s (kind_of ty) ty) t)
      → CanUse (behind_all s (One (On (kind_of ty) (record { 0 = n }) ty t) ∷ [])) (then_all core s b (One (On (kind_of ty) (record { 0 = n }) ty t) ∷ [])) (var n) ty
  side_can n k ty t s b apart c =
      let x : Variable = record { 0 = n } in
      let side = On (kind_of ty) x ty t in
      let ms = met_side core.table s side in
      subst (λ (z : Before). CanUse (behind s (One side)) z (var n) ty) (sym (next_append core.table b ms []))
      (can_bound x ty s (behind s (One side)) (next_all core.table b ms) (side_scope s side) (side_others s side) apart (side_type n k ty t s b c))
