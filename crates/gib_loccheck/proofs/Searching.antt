-- What the definitions by recursion say of lists is what a search with a test finds.
use Rattle.std.proofs.Common.{◌≡◌, Bool, List, [], ◌∷◌, refl, ap, ◌&&◌, ◌||◌}
use Rattle.std.specs.Prelude.{◌==◌}
use Rattle.std.specs.List.{list_all, list_any}
use Rattle.gib_core.specs.declared.atom.Atom.{Atom}
use Rattle.gib_core.specs.declared.atom.Variable.{Variable}
use Rattle.gib_core.specs.declared.scope.Bound.{Bound}
use Rattle.gib_core.specs.Met.{Setting}
use Rattle.gib_core.specs.Rules.{is_among, is_bound, is_usable, is_other, all_usable, any_other, any_cased}

pub search_among : (xs : List Variable) (x : Variable) → list_any (λ (y : Variable). y.0 == x.0) xs ≡ is_among xs x
search_among [] x = refl
search_among (y ∷ ys) x = ap (λ (b : Bool). (y.0 == x.0) || b) (search_among ys x)

pub search_bound : (bs : List Bound) (x : Variable) → list_any (λ (b : Bound). b.variable.0 == x.0) bs ≡ is_bound bs x
search_bound [] x = refl
search_bound (b ∷ bs) x = ap (λ (c : Bool). (b.variable.0 == x.0) || c) (search_bound bs x)

pub search_usable : (s : Setting) (xs : List Atom) → list_all (λ (x : Atom). is_usable s x) xs ≡ all_usable s xs
search_usable s [] = refl
search_usable s (x ∷ xs) = ap (λ (b : Bool). is_usable s x && b) (search_usable s xs)

pub search_other : (s : Setting) (xs : List Atom) → list_any (λ (x : Atom). is_other s x) xs ≡ any_other s xs
search_other s [] = refl
search_other s (x ∷ xs) = ap (λ (b : Bool). is_other s x || b) (search_other s xs)

pub search_cased : (cased xs : List Variable) → list_any (λ (x : Variable). is_among cased x) xs ≡ any_cased cased xs
search_cased cased [] = refl
search_cased cased (x ∷ xs) = ap (λ (b : Bool). is_among cased x || b) (search_cased cased xs)
