-- Functions whose bodies stand in an arena, while terms are put behind it.
use Rattle.std.proofs.Common.{◌≡◌, ℕ, ◌<◌, ◌≤◌, List, [], ◌∷◌, ◌++◌, map, refl, arith}
use Rattle.std.specs.List.{AllByRecursion}
use Rattle.gib_core.specs.declared.program.CoreFunction.{CoreFunction}
use Rattle.gib_core.specs.Tree.{Term}
use Rattle.gib_core.specs.Parts.{IsFunctionInside, results_of, function_term}

pub functions_more : (n m : ℕ) (fs : List CoreFunction) → n ≤ m → AllByRecursion (IsFunctionInside n) fs → AllByRecursion (IsFunctionInside m) fs
functions_more n m [] le p = tt
functions_more n m (x ∷ fs) le p = (let q = p.0 in omega arith, functions_more n m fs le p.1)

-- Their terms stay.
pub functions_stay : (f g : ℕ → Term) (n : ℕ) (fs : List CoreFunction) → AllByRecursion (IsFunctionInside n) fs → ((a : ℕ) → a < n → f a ≡ g a) → map (function_term f) fs ≡ map (function_term g) fs
functions_stay f g n [] h e = refl
functions_stay f g n (x ∷ fs) h e = (λ i. record { name = x.name; parameters = x.parameters.items; result = results_of x.result; body = e x.body.0 h.0 i } ∷ functions_stay f g n fs h.1 e i)

pub front_inside : (n : ℕ) (fs : List CoreFunction) (x : CoreFunction) → AllByRecursion (IsFunctionInside n) (fs ++ x ∷ []) → AllByRecursion (IsFunctionInside n) fs
front_inside n [] x p = tt
front_inside n (y ∷ fs) x p = (p.0, front_inside n fs x p.1)

pub last_inside : (n : ℕ) (fs : List CoreFunction) (x : CoreFunction) → AllByRecursion (IsFunctionInside n) (fs ++ x ∷ []) → IsFunctionInside n x
last_inside n [] x p = p.0
last_inside n (y ∷ fs) x p = last_inside n fs x p.1
