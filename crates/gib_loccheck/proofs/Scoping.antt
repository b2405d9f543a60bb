-- What can be used depends on what is in scope alone, and of atoms together on each.
use Rattle.std.proofs.Common.{◌≡◌, Bool, true, false, List, [], ◌∷◌, ◌++◌, Option, Some, None, refl, sym, ap, ◌∙◌}
use Rattle.std.specs.Prelude.{◌&&◌, ◌||◌}
use Rattle.gib_core.specs.declared.atom.Atom.{Atom}
use Rattle.gib_core.specs.declared.atom.Atom.TheVariants as a
use Rattle.gib_core.specs.declared.atom.Access.{Access}
use Rattle.gib_core.specs.declared.atom.Access.TheVariants.{Offset, Skip, End}
use Rattle.gib_core.specs.declared.scope.Behind.{Behind}
use Rattle.gib_core.specs.declared.scope.Known.{Known}
use Rattle.gib_core.specs.Tree.{CoreTree}
use Rattle.gib_core.specs.Met.{Setting}
use Rattle.gib_core.specs.Rules.{Before, is_usable, is_other, all_usable, any_other, may_reach, by_access}
use Rattle.gib_loccheck.specs.declared.state.Walk.{Walk}
use Rattle.gib_loccheck.specs.declared.target.Target.{Target}
use Rattle.gib_loccheck.specs.Views.{in_scope, setting_of}

pub usable_same : (w : Walk) (t : Target) (x : Atom) → is_usable (in_scope w) x ≡ is_usable (setting_of w t) x
usable_same w t (a.Variable x) = refl
usable_same w t (a.Whole z) = refl
usable_same w t (a.Truth b) = refl

pub other_same : (w : Walk) (t : Target) (x : Atom) → is_other (in_scope w) x ≡ is_other (setting_of w t) x
other_same w t (a.Variable x) = refl
other_same w t (a.Whole z) = refl
other_same w t (a.Truth b) = refl

pub all_usable_same : (w : Walk) (t : Target) (xs : List Atom) → all_usable (in_scope w) xs ≡ all_usable (setting_of w t) xs
all_usable_same w t [] = refl
all_usable_same w t (x ∷ xs) = (λ i. usable_same w t x i && all_usable_same w t xs i)

pub any_other_same : (w : Walk) (t : Target) (xs : List Atom) → any_other (in_scope w) xs ≡ any_other (setting_of w t) xs
any_other_same w t [] = refl
any_other_same w t (x ∷ xs) = (λ i. other_same w t x i || any_other_same w t xs i)

and_both : (p q r : Bool) → (p && (q && r)) ≡ ((p && q) && r)
and_both true q r = refl
and_both false q r = refl

or_both : (p q r : Bool) → (p || (q || r)) ≡ ((p || q) || r)
or_both true q r = refl
or_both false q r = refl

pub all_usable_both : (s : Setting) (xs ys : List Atom) → all_usable s (xs ++ ys) ≡ (all_usable s xs && all_usable s ys)
all_usable_both s [] ys = refl
all_usable_both s (x ∷ xs) ys = ap (λ r. is_usable s x && r) (all_usable_both s xs ys) ∙ and_both (is_usable s x) (all_usable s xs) (all_usable s ys)

pub any_other_both : (s : Setting) (xs ys : List Atom) → any_other s (xs ++ ys) ≡ (any_other s xs || any_other s ys)
any_other_both s [] ys = refl
any_other_both s (x ∷ xs) ys = ap (λ r. is_other s x || r) (any_other_both s xs ys) ∙ or_both (is_other s x) (any_other s xs) (any_other s ys)

access_same : (core : CoreTree) (b : Before) (w : Walk) (t : Target) (f : Option Behind) (by : Access) → by_access core b (in_scope w) f by ≡ by_access core b (setting_of w t) f by
access_same core b w t None by = refl
access_same core b w t (Some f) Offset = refl
access_same core b w t (Some f) (Skip z) = refl
access_same core b w t (Some f) (End z) = refl

pub reach_same : (core : CoreTree) (b : Before) (w : Walk) (t : Target) (k : Option Known) (by : Access) → may_reach core b (in_scope w) k by ≡ may_reach core b (setting_of w t) k by
reach_same core b w t None by = refl
reach_same core b w t (Some k) by = ap (λ r. Rattle.std.specs.Prelude.not k.reached && r) (access_same core b w t k.behind by)

pub both_usable : (w : Walk) (t : Target) (xs ys : List Atom) → (all_usable (in_scope w) xs && all_usable (in_scope w) ys) ≡ all_usable (setting_of w t) (xs ++ ys)
both_usable w t xs ys = (λ i. all_usable_same w t xs i && all_usable_same w t ys i) ∙ sym (all_usable_both (setting_of w t) xs ys)

pub both_other : (w : Walk) (t : Target) (xs ys : List Atom) → (any_other (in_scope w) xs || any_other (in_scope w) ys) ≡ any_other (setting_of w t) (xs ++ ys)
both_other w t xs ys = (λ i. any_other_same w t xs i || any_other_same w t ys i) ∙ sym (any_other_both (setting_of w t) xs ys)
