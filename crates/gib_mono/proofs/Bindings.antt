-- What a binding of the copy is, of one name or of several.
use Rattle.std.proofs.Common.{◌≡◌, ℕ, ◌+◌, arith, false, List, [], ◌∷◌, length, Option, Some, None, refl, sym, ap, ◌∙◌, subst}
use Rattle.gib_base.specs.declared.Span.{Span}
use Rattle.gib_types.specs.declared.table.Ty.{Ty}
use Rattle.gib_types.specs.Table.{Table}
use Rattle.gib_types.specs.Tree.{Datum}
use Rattle.gib_syntax.specs.declared.tree.Ident.{Ident}
use Rattle.gib_syntax.specs.declared.tree.Parameter.{Parameter}
use Rattle.gib_syntax.specs.Declarations.{type_of_name}
use Rattle.gib_syntax.specs.Fine.{is_atom, is_application, IsFine}
use Rattle.gib_syntax.specs.Forms.{Form}
use Rattle.gib_syntax.specs.Meaning.{Outcome, Environment, bind_results, eval, with_value}
use Rattle.gib_syntax.specs.Results.{Results}
use Rattle.gib_syntax.specs.Tree.{Expression, LetSeveral, ParSeveral}
use Rattle.gib_syntax.specs.Typing.{Globals, Scope, IsNew, bindings, bound, expressions, Has, names_of}
use Rattle.gib_mono.specs.Bindings.{only_name, let_of, par_of}
use Rattle.gib_mono.specs.Copying.{Naming, copy_variables}

-- The variables have the names.
pub variable_names : (nm : Naming) (xs : List Ident) (fs : List Form) → names_of (copy_variables nm xs fs) ≡ xs
variable_names nm [] fs = refl
variable_names nm (x ∷ xs) [] = ap (λ (ys : List Ident). x ∷ ys) (variable_names nm xs [])
variable_names nm (x ∷ xs) (f ∷ fs) = ap (λ (ys : List Ident). x ∷ ys) (variable_names nm xs fs)

-- There are as many.
pub variables_long : (nm : Naming) (xs : List Ident) (ts : List Form) → length (copy_variables nm xs ts) ≡ length xs
variables_long nm [] ts = refl
variables_long nm (x ∷ xs) [] = let e = variables_long nm xs [] in omega (arith, e)
variables_long nm (x ∷ xs) (t ∷ ts) = let e = variables_long nm xs ts in omega (arith, e)

-- What is so of both forms

pub let_atom : (p : Span) (x : Option Ident) (qs : List Parameter) (a b : Expression) → is_atom (let_of p x qs a b) ≡ false
let_atom p None qs a b = refl
let_atom p (Some x) qs a b = refl

pub par_atom : (p : Span) (x : Option Ident) (qs : List Parameter) (a : Expression) (y : Option Ident) (rs : List Parameter) (b c : Expression) → is_atom (par_of p x qs a y rs b c) ≡ false
par_atom p None qs a y rs b c = refl
par_atom p (Some x) qs a None rs b c = refl
par_atom p (Some x) qs a (Some y) rs b c = refl

pub let_application : (p : Span) (x : Option Ident) (qs : List Parameter) (a b : Expression) → is_application (let_of p x qs a b) ≡ false
let_application p None qs a b = refl
let_application p (Some x) qs a b = refl

pub par_application : (p : Span) (x : Option Ident) (qs : List Parameter) (a : Expression) (y : Option Ident) (rs : List Parameter) (b c : Expression) → is_application (par_of p x qs a y rs b c) ≡ false
par_application p None qs a y rs b c = refl
par_application p (Some x) qs a None rs b c = refl
par_application p (Some x) qs a (Some y) rs b c = refl

pub let_expressions : (p : Span) (x : Option Ident) (qs : List Parameter) (a b : Expression) → expressions (let_of p x qs a b) ≡ expressions a + expressions b + 1
let_expressions p None qs a b = refl
let_expressions p (Some x) qs a b = refl

pub par_expressions : (p : Span) (x : Option Ident) (qs : List Parameter) (a : Expression) (y : Option Ident) (rs : List Parameter) (b c : Expression) →
    expressions (par_of p x qs a y rs b c) ≡ expressions a + expressions b + expressions c + 1
par_expressions p None qs a y rs b c = refl
par_expressions p (Some x) qs a None rs b c = refl
par_expressions p (Some x) qs a (Some y) rs b c = refl

-- What is so where the variables have the names

-- it is so of names where it is so of those of variables
of_names : (P : Option Ident → Type 0) (xs : List Ident) (qs : List Parameter) → names_of qs ≡ xs → P (only_name (names_of qs)) → P (only_name xs)
of_names P xs qs e h = subst (λ (ys : List Ident). P (only_name ys)) e h

pub let_fine : (p : Span) (xs : List Ident) (qs : List Parameter) (a b : Expression) → names_of qs ≡ xs → (xs ≡ [] → ⊥) → IsFine a → IsFine b → IsFine (let_of p (only_name xs) qs a b)
let_fine p xs qs a b e some h k = of_names (λ x. IsFine (let_of p x qs a b)) xs qs e (each qs (λ f. some (sym e ∙ f))) where
  each : (qs : List Parameter) → (names_of qs ≡ [] → ⊥) → IsFine (let_of p (only_name (names_of qs)) qs a b)
  each [] none = absurd (none refl)
  each (q ∷ []) none = (h, k)
  each (q ∷ o ∷ qs) none = (tt {0}, h, k)

pub par_fine : (p : Span) (xs ys : List Ident) (qs rs : List Parameter) (a b c : Expression) → names_of qs ≡ xs → names_of rs ≡ ys → (xs ≡ [] → ⊥) → (ys ≡ [] → ⊥) → IsFine a → IsFine b → IsFine c →
    IsFine (par_of p (only_name xs) qs a (only_name ys) rs b c)
par_fine p xs ys qs rs a b c e f some more h k l =
    of_names (λ x. IsFine (par_of p x qs a (only_name ys) rs b c)) xs qs e (of_names (λ y. IsFine (par_of p (only_name (names_of qs)) qs a y rs b c)) ys rs f
    (each qs rs (λ g. some (sym e ∙ g)) (λ g. more (sym f ∙ g)))) where
      each : (qs rs : List Parameter) → (names_of qs ≡ [] → ⊥) → (names_of rs ≡ [] → ⊥) → IsFine (par_of p (only_name (names_of qs)) qs a (only_name (names_of rs)) rs b c)
      each [] rs none less = absurd (none refl)
      each (q ∷ []) [] none less = absurd (less refl)
      each (q ∷ []) (r ∷ []) none less = (h, k, l)
      each (q ∷ []) (r ∷ s ∷ rs) none less = (tt {0}, h, k, l)
      each (q ∷ o ∷ qs) [] none less = absurd (less refl)
      each (q ∷ o ∷ qs) (r ∷ rs) none less = (tt {0}, h, k, l)

pub let_bindings : (p : Span) (xs : List Ident) (qs : List Parameter) (a b : Expression) → names_of qs ≡ xs → bindings (let_of p (only_name xs) qs a b) ≡ bindings a + bindings b + length qs
let_bindings p xs qs a b e = of_names (λ x. bindings (let_of p x qs a b) ≡ bindings a + bindings b + length qs) xs qs e (each qs) where
  each : (qs : List Parameter) → bindings (let_of p (only_name (names_of qs)) qs a b) ≡ bindings a + bindings b + length qs
  each [] = refl
  each (q ∷ []) = refl
  each (q ∷ o ∷ qs) = refl

pub par_bindings : (p : Span) (xs ys : List Ident) (qs rs : List Parameter) (a b c : Expression) → names_of qs ≡ xs → names_of rs ≡ ys →
    bindings (par_of p (only_name xs) qs a (only_name ys) rs b c) ≡ bindings a + bindings b + bindings c + (length qs + length rs)
par_bindings p xs ys qs rs a b c e f =
    of_names (λ x. bindings (par_of p x qs a (only_name ys) rs b c) ≡ bindings a + bindings b + bindings c + (length qs + length rs)) xs qs e
    (of_names (λ y. bindings (par_of p (only_name (names_of qs)) qs a y rs b c) ≡ bindings a + bindings b + bindings c + (length qs + length rs)) ys rs f (each qs rs)) where
      each : (qs rs : List Parameter) → bindings (par_of p (only_name (names_of qs)) qs a (only_name (names_of rs)) rs b c) ≡ bindings a + bindings b + bindings c + (length qs + length rs)
      each [] rs = refl
      each (q ∷ []) [] = refl
      each (q ∷ []) (r ∷ []) = refl
      each (q ∷ []) (r ∷ s ∷ rs) = refl
      each (q ∷ o ∷ qs) rs = refl

pub let_has : (g : Globals) (scope : Scope) (p : Span) (xs : List Ident) (qs : List Parameter) (a b : Expression) (r : Results Ty) → names_of qs ≡ xs → Has g scope (LetSeveral p qs a b) r →
    Has g scope (let_of p (only_name xs) qs a b) r
let_has g scope p xs qs a b r e h = of_names (λ x. Has g scope (let_of p x qs a b) r) xs qs e (each qs h) where
  each : (qs : List Parameter) → Has g scope (LetSeveral p qs a b) r → Has g scope (let_of p (only_name (names_of qs)) qs a b) r
  each [] k = k
  each (q ∷ []) k = (type_of_name g.table.types q.ty, k.2, k.3.0, subst (λ (s : Scope). Has g s b r) k.3.1 k.4)
  each (q ∷ o ∷ qs) k = k

pub par_has : (g : Globals) (scope : Scope) (p : Span) (xs ys : List Ident) (qs rs : List Parameter) (a b c : Expression) (r : Results Ty) → names_of qs ≡ xs → names_of rs ≡ ys →
    Has g scope (ParSeveral p qs a rs b c) r → Has g scope (par_of p (only_name xs) qs a (only_name ys) rs b c) r
par_has g scope p xs ys qs rs a b c r e f h =
    of_names (λ x. Has g scope (par_of p x qs a (only_name ys) rs b c) r) xs qs e (of_names (λ y. Has g scope (par_of p (only_name (names_of qs)) qs a y rs b c) r) ys rs f (each qs rs h)) where
      each : (qs rs : List Parameter) → Has g scope (ParSeveral p qs a rs b c) r → Has g scope (par_of p (only_name (names_of qs)) qs a (only_name (names_of rs)) rs b c) r
      each [] rs k = k
      each (q ∷ []) [] k = k
      each (q ∷ []) (o ∷ []) k =
          let t = type_of_name g.table.types o.ty in (
            type_of_name g.table.types q.ty,
            t,
            k.4,
            k.5,
            k.6.0,
            subst (λ (s : Scope). IsNew s o.name) k.6.1 k.7.0,
            subst (λ (s : Scope). Has g (bound o.name t s) c r) k.6.1 (subst (λ (s : Scope). Has g s c r) k.7.1 k.8),
          )
      each (q ∷ []) (o ∷ s ∷ rs) k = k
      each (q ∷ o ∷ qs) rs k = k

pub let_eval : (table : Table) (call : ℕ → List Datum → Outcome) (p : Span) (xs : List Ident) (qs : List Parameter) (a b : Expression) (env : Environment) → names_of qs ≡ xs →
    eval table call (let_of p (only_name xs) qs a b) env ≡ with_value (eval table call a env) (λ v. eval table call b (bind_results xs v env))
let_eval table call p xs qs a b env e =
    subst (λ (zs : List Ident). eval table call (let_of p (only_name zs) qs a b) env ≡ with_value (eval table call a env) (λ v. eval table call b (bind_results zs v env))) e (each qs) where
      each : (qs : List Parameter) → eval table call (let_of p (only_name (names_of qs)) qs a b) env ≡ with_value (eval table call a env) (λ v. eval table call b (bind_results (names_of qs) v env))
      each [] = refl
      each (q ∷ []) = refl
      each (q ∷ o ∷ qs) = refl

pub par_eval : (table : Table) (call : ℕ → List Datum → Outcome) (p : Span) (xs ys : List Ident) (qs rs : List Parameter) (a b c : Expression) (env : Environment) → names_of qs ≡ xs → names_of rs ≡ ys →
    eval table call (par_of p (only_name xs) qs a (only_name ys) rs b c) env
    ≡ with_value (eval table call a env) (λ v. with_value (eval table call b env) (λ w. eval table call c (bind_results ys w (bind_results xs v env))))
par_eval table call p xs ys qs rs a b c env e f =
    subst (λ (zs : List Ident). eval table call (par_of p (only_name zs) qs a (only_name ys) rs b c) env
    ≡ with_value (eval table call a env) (λ v. with_value (eval table call b env) (λ w. eval table call c (bind_results ys w (bind_results zs v env))))) e
    (subst (λ (zs : List Ident). eval table call (par_of p (only_name (names_of qs)) qs a (only_name zs) rs b c) env
    ≡ with_value (eval table call a env) (λ v. with_value (eval table call b env) (λ w. eval table call c (bind_results zs w (bind_results (names_of qs) v env))))) f (each qs rs)) where
      each : (qs rs : List Parameter) → eval table call (par_of p (only_name (names_of qs)) qs a (only_name (names_of rs)) rs b c) env
          ≡ with_value (eval table call a env) (λ v. with_value (eval table call b env) (λ w. eval table call c (bind_results (names_of rs) w (bind_results (names_of qs) v env))))
      each [] rs = refl
      each (q ∷ []) [] = refl
      each (q ∷ []) (r ∷ []) = refl
      each (q ∷ []) (r ∷ s ∷ rs) = refl
      each (q ∷ o ∷ qs) rs = refl
