-- Results of functions and expressions.
use Rattle.std.specs.Prelude.{List, [], ◌∷◌, map}

-- What a function or an expression gives: one thing, or several parts.
pub data Results (A : Type 0) : Type 0 where
  One : A → Results A
  Several : List A → Results A

-- Each of them in another form.
abbrev pub map_results : {A B : Type 0} → (A → B) → Results A → Results B
map_results f (One x) = One (f x)
map_results f (Several xs) = Several (map f xs)

-- One thing is no list of parts; any other number of them is.
abbrev pub as_results : {A : Type 0} → List A → Results A
as_results [] = Several []
as_results (x ∷ []) = One x
as_results (x ∷ y ∷ zs) = Several (x ∷ y ∷ zs)

-- All of them, in their order.
abbrev pub list_results : {A : Type 0} → Results A → List A
list_results (One x) = x ∷ []
list_results (Several xs) = xs

-- There are two at least.
abbrev pub AreSeveral : {A : Type 0} → List A → Type 0
AreSeveral [] = ⊥
AreSeveral (x ∷ []) = ⊥
AreSeveral (x ∷ y ∷ zs) = Unit {0}

-- A function gives one thing, or two parts at least.
abbrev pub AreResults : {A : Type 0} → Results A → Type 0
AreResults (One x) = Unit {0}
AreResults (Several xs) = AreSeveral xs

-- Both sides of a `let par` bind a name at least, and one of them several.
abbrev pub AreSides : {A : Type 0} → List A → List A → Type 0
AreSides [] ys = ⊥
AreSides (x ∷ xs) [] = ⊥
AreSides (x ∷ []) (y ∷ []) = ⊥
AreSides (x ∷ []) (y ∷ z ∷ zs) = Unit {0}
AreSides (x ∷ w ∷ ws) (y ∷ ys) = Unit {0}
