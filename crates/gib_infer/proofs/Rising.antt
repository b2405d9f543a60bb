-- Several variables that are bound at once: the fields of an arm, or parts.
use Rattle.std.proofs.Common.{◌≡◌, ℕ, suc, ◌+◌, ◌<◌, ◌≤◌, Bool, true, false, ◌==◌, ◌||◌, if◌then◌else◌, List, [], ◌∷◌, ◌++◌, map, length, Some, None, refl, ap, ◌∙◌, arith, inl, inr}
use Rattle.std.proofs.lemmas.Bool.{cases_lt, eq-eqb, ne_eqb}
use Rattle.gib_types.specs.declared.table.Ty.{Ty}
use Rattle.gib_syntax.specs.declared.tree.Ident.{Ident}
use Rattle.gib_syntax.specs.Typing as typing
use Rattle.gib_core.specs.declared.atom.Variable.{Variable}
use Rattle.gib_core.specs.declared.atom.Atom.{Atom}
use Rattle.gib_core.specs.declared.atom.Atom.TheVariants as atomic
use Rattle.gib_core.specs.declared.scope.Bound.{Bound}
use Rattle.gib_core.specs.declared.scope.Known.{Known}
use Rattle.gib_core.specs.Tree.{variables_from}
use Rattle.gib_core.specs.Inferring.{first_type, further_types, as_atoms}
use Rattle.gib_core.specs.Met.{Setting, known, reached, with_variables}
use Rattle.gib_core.specs.Rules.{Before, is_among, type_bound, type_of, is_reached, bind_fields, any_bound}
use Rattle.gib_core.specs.Reachable.{as_reached}
use Rattle.gib_infer.proofs.Ready.{CanUse, CanUseAll}
use Rattle.gib_infer.proofs.Sides.{not_bound}

-- Variables from a number on, that rise and stay below another one.
abbrev pub Rising : ℕ → List Variable → ℕ → Type 0
Rising n [] m = n ≤ m
Rising n (x ∷ xs) m = (n ≤ x.0) × Rising (x.0 + 1) xs m

pub rising_le : (n m : ℕ) (xs : List Variable) → Rising n xs m → n ≤ m
rising_le n m [] h = h
rising_le n m (x ∷ xs) h = let lo = h.0 in let up = rising_le (x.0 + 1) m xs h.1 in omega arith

rising_less : (n k m : ℕ) (xs : List Variable) → n ≤ k → Rising k xs m → Rising n xs m
rising_less n k m [] le h = omega arith
rising_less n k m (x ∷ xs) le h = (let lo = h.0 in omega arith, h.1)

pub rising_append : (n k l m : ℕ) (xs ys : List Variable) → Rising n xs k → k ≤ l → Rising l ys m → Rising n (xs ++ ys) m
rising_append n k l m [] ys h le q = rising_less n l m ys (omega arith) q
rising_append n k l m (x ∷ xs) ys h le q = (h.0, rising_append (x.0 + 1) k l m xs ys h.1 le q)

pub rising_front : (n m : ℕ) (xs ys : List Variable) → Rising n (xs ++ ys) m → Rising n xs m
rising_front n m [] ys h = rising_le n m ys h
rising_front n m (x ∷ xs) ys h = (h.0, rising_front (x.0 + 1) m xs ys h.1)

pub rising_back : (n m : ℕ) (xs ys : List Variable) → Rising n (xs ++ ys) m → Rising n ys m
rising_back n m [] ys h = h
rising_back n m (x ∷ xs) ys h = let lo = h.0 in rising_less n (x.0 + 1) m ys (omega arith) (rising_back (x.0 + 1) m xs ys h.1)

pub rising_variables : {A : Type 0} (n m : ℕ) (xs : List A) → n + length xs ≤ m → Rising n (variables_from n xs) m
rising_variables n m [] le = omega arith
rising_variables n m (x ∷ xs) le = (omega arith, rising_variables (n + 1) m xs (omega arith))

-- The number is none of those from n up to m.
abbrev pub Outside : ℕ → ℕ → Variable → Type 0
Outside n m y = (z : ℕ) → n ≤ z → z < m → z ≡ y.0 → ⊥

pub fields_outside : (n m : ℕ) (xs : List Variable) (types : List Ty) (bound : List Bound) (y : Variable) → Rising n xs m → Outside n m y → type_bound (bind_fields xs types bound) y ≡ type_bound bound y
fields_outside n m [] types bound y h out = refl
fields_outside n m (x ∷ xs) types bound y h out =
    let lo = h.0 in
    let up = rising_le (x.0 + 1) m xs h.1 in
    fields_outside (x.0 + 1) m xs (further_types types) (record { variable = x; ty = first_type types } ∷ bound) y h.1 (λ z l u e. out z (omega arith) u e)
    ∙ ap (λ c. if c then Some (first_type types) else type_bound bound y) (ne_eqb x.0 y.0 (out x.0 lo (omega arith)))

pub fields_over : (xs : List Variable) (types : List Ty) (bound other : List Bound) (y : Variable) → type_bound bound y ≡ type_bound other y → type_bound (bind_fields xs types bound) y ≡ type_bound (bind_fields xs types other) y
fields_over [] types bound other y e = e
fields_over (x ∷ xs) types bound other y e =
    fields_over xs (further_types types) (record { variable = x; ty = first_type types } ∷ bound) (record { variable = x; ty = first_type types } ∷ other) y
    (ap (λ z. if x.0 == y.0 then Some (first_type types) else z) e)

pub none_bound : (n m : ℕ) (xs seen : List Variable) (bound : List Bound) → Rising n xs m → ((y : Variable) → n ≤ y.0 → y.0 < m → type_bound bound y ≡ None) → ((y : Variable) → n ≤ y.0 → is_among seen y ≡ false)
    → any_bound xs seen bound ≡ false
none_bound n m [] seen bound h new apart = refl
none_bound n m (x ∷ xs) seen bound h new apart =
    let lo = h.0 in
    let up = rising_le (x.0 + 1) m xs h.1 in
    let rest = none_bound (x.0 + 1) m xs (x ∷ seen) bound h.1 (λ y l u. new y (omega arith) u)
    (λ y l. ap (λ c. c || is_among seen y) (ne_eqb x.0 y.0 (λ e. omega arith)) ∙ apart y (omega arith)) in
    λ i. (not_bound bound x (new x lo (omega arith)) i || apart x lo i) || rest i

pub more_reached : (f : Known) (ks : List Known) (y : Variable) → is_reached (known (map as_reached ks) y) ≡ true → is_reached (known (map as_reached (f ∷ ks)) y) ≡ true
more_reached f ks y h = go (f.variable.0 == y.0)
  where
    go : (c : Bool) → is_reached (if c then Some (as_reached f) else known (map as_reached ks) y) ≡ true
    go true = refl
    go false = h

pub reached_here : (f : Known) (ks : List Known) (y : Variable) → f.variable.0 ≡ y.0 → is_reached (known (map as_reached (f ∷ ks)) y) ≡ true
reached_here f ks y e = ap (λ c. is_reached (if c then Some (as_reached f) else known (map as_reached ks) y)) (eq-eqb f.variable.0 y.0 e)

-- Variables that come into scope.

pub variables_keep : (xs : List Variable) (ks : List Known) (y : Variable) → is_reached (known (map as_reached ks) y) ≡ true → is_reached (known (map as_reached (with_variables xs ks)) y) ≡ true
variables_keep [] ks y h = h
variables_keep (x ∷ xs) ks y h = variables_keep xs (reached x ∷ ks) y (more_reached (reached x) ks y h)

pub variables_reach : {A : Type 0} (xs : List A) (n : ℕ) (ks : List Known) (y : Variable) → n ≤ y.0 → y.0 < n + length xs → is_reached (known (map as_reached (with_variables (variables_from n xs) ks)) y) ≡ true
variables_reach [] n ks y lo hi = absurd (omega arith)
variables_reach (x ∷ xs) n ks y lo hi =
    let v : Variable = record { 0 = n } in
    elim (cases_lt n y.0) [
      | inl lt ↦ variables_reach xs (n + 1) (reached v ∷ ks) y (omega arith) (omega arith)
      | inr ge ↦ variables_keep (variables_from (n + 1) xs) (reached v ∷ ks) y (reached_here (reached v) ks y (let same : n ≡ y.0 = omega arith in same))
    ]

-- Variables that are in scope and were bound with these types can be used.
pub fields_can : (xs : List Ident) (types : List Ty) (n : ℕ) (s : Setting) (b : Before) (bound : List Bound) → length types ≡ length xs
    → ((y : Variable) → n ≤ y.0 → y.0 < n + length xs → is_reached (known (map as_reached s.scope) y) ≡ true)
    → ((y : Variable) → n ≤ y.0 → y.0 < n + length xs → type_bound b.bound y ≡ type_bound (bind_fields (variables_from n xs) types bound) y)
    → ((y : Variable) → n ≤ y.0 → y.0 < n + length xs → is_among s.others y ≡ false)
    → CanUseAll s b (as_atoms (variables_from n xs)) types
fields_can [] [] n s b bound e es et eo = tt
fields_can [] (t ∷ types) n s b bound e es et eo = absurd cc
fields_can (x ∷ xs) [] n s b bound e es et eo = absurd cc
fields_can (x ∷ xs) (t ∷ types) n s b bound e es et eo =
    let v : Variable = record { 0 = n } in
    let bound' : List Bound = record { variable = v; ty = t } ∷ bound in (
      record {
        usable = es v (omega arith) (omega arith);
        of_type =
            et v (omega arith) (omega arith)
            ∙ fields_outside (n + 1) (n + 1 + length xs) (variables_from (n + 1) xs) types bound' v (rising_variables (n + 1) (n + 1 + length xs) xs (omega arith)) (λ z lo hi f. omega arith)
            ∙ ap (λ c. if c then Some t else type_bound bound v) (eq-eqb n n refl);
        other = eo v (omega arith) (omega arith);
      },
      fields_can xs types (n + 1) s b bound' (omega (arith, e)) (λ y lo hi. es y (omega arith) (omega arith)) (λ y lo hi. et y (omega arith) (omega arith)) (λ y lo hi. eo y (omega arith) (omega arith)),
    )

pub binds_length : (xs : List Ident) (types : List Ty) (outer inner : typing.Scope) → typing.BindsAll outer xs types inner → length types ≡ length xs
binds_length [] [] outer inner h = refl
binds_length [] (t ∷ types) outer inner h = absurd h
binds_length (x ∷ xs) [] outer inner h = absurd h
binds_length (x ∷ xs) (t ∷ types) outer inner h = ap suc (binds_length xs types (typing.bound x t outer) inner h.1)

-- What could be used is in scope still.
abbrev pub ScopeKept : Setting → Setting → Type 0
ScopeKept s new = (y : Variable) → is_reached (known (map as_reached s.scope) y) ≡ true → is_reached (known (map as_reached new.scope) y) ≡ true

pub can_kept : (s new : Setting) (b after : Before) (x : Atom) (ty : Ty) → ScopeKept s new → new.others ≡ s.others → type_of after x ≡ type_of b x → CanUse s b x ty → CanUse new after x ty
can_kept s new b after (atomic.Variable y) ty es eo et h = record { usable = es y h.usable; of_type = et ∙ h.of_type; other = ap (λ z. is_among z y) eo ∙ h.other }
can_kept s new b after (atomic.Whole z) ty es eo et h = record { usable = refl; of_type = et ∙ h.of_type; other = refl }
can_kept s new b after (atomic.Truth t) ty es eo et h = record { usable = refl; of_type = et ∙ h.of_type; other = refl }
