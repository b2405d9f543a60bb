-- What is left of an ordered core means what the core means.
use Rattle.std.proofs.Common.{◌≡◌, ℕ, suc, ◌+◌, ◌<◌, ◌≤◌, Bool, true, false, ◌==◌, if◌then◌else◌, List, [], ◌∷◌, ◌++◌, map, length, Option, Some, None, refl, sym, ap, ◌∙◌, subst, arith, ⊎_elim}
use Rattle.std.specs.Prelude.{pos}
use Rattle.std.specs.List.{AllByRecursion}
use Rattle.std.proofs.str.Laws.{order}
use Rattle.std.proofs.lemmas.Bool.{eqb-true}
use Rattle.std.proofs.lemmas.Option.{same_Some}
use Rattle.gib_types.specs.declared.table.Ty.{Ty}
use Rattle.gib_types.specs.declared.table.Ty.TheVariants.{Whole, Truth, Tree}
use Rattle.gib_types.specs.Table.{Table, fields_at, name_at, scalar_types, tree_types}
use Rattle.gib_types.specs.Tree.{Datum, whole, truth, con, data_of}
use Rattle.gib_syntax.specs.declared.tree.Ident.{Ident}
use Rattle.gib_syntax.specs.Tree.{Expression, Arms, LastArm, NextArm}
use Rattle.gib_syntax.specs.Typing.{names_of}
use Rattle.gib_syntax.specs.Results.{AreSeveral}
use Rattle.gib_syntax.specs.Declarations.{number_of, constructor_named, type_of_name}
use Rattle.gib_syntax.specs.Meaning.{Reason, Outcome, Gives, Stops, Environment, value_in, bind, bind_results, tuple, with_value, with_values, with_fields, at_fields, made, choose, is_made_by, is_true, number_in, parts, outcome, eval, eval_all, eval_arms}
use Rattle.gib_core.specs.declared.atom.Variable.{Variable}
use Rattle.gib_core.specs.declared.atom.Atom.{Atom}
use Rattle.gib_core.specs.declared.atom.Atom.TheVariants as atomic
use Rattle.gib_core.specs.declared.atom.Kind.{Kind}
use Rattle.gib_core.specs.declared.atom.Kind.TheVariants.{Here, Region, Scalar}
use Rattle.gib_core.specs.Tree.{Term, Then, Write, Point, CallTerm, Give, CaseTerm, IfTerm, Tuple, PartTerms, NoPart, PartThen, parts_count, Bind, Past, One, Both, Prim, Reach, Side, On, Several, Branches, NoBranch, BranchThen, variables_from}
use Rattle.gib_core.specs.Meaning as core
use Rattle.gib_core.specs.Meaning.{Calls, value, merge, Reached, Went, Halted, from_there, having, bind_side, mean, run, mean_side, mean_parts, mean_branches}
use Rattle.gib_core.specs.Erasing.{ident, expression_of, arguments_of, Substitution, put_for, put_in, erase_atom, case_of, arm_before, left_out, let_or_put, type_name, parameters_of, side_parameters, par_of, erase, erase_bind, erase_side, erase_parts, erase_branches}
use Rattle.gib_core.proofs.Agreeing.{gather, with_all, All}
use Rattle.gib_core.proofs.Envs.{value_in-past}
use Rattle.gib_core.specs.Ordered.{IsFit, AreFit, next_of, FieldsOrdered, behind_fields, behind_variables, IsTypeFound, IsOrdered, BindOrdered, SideOrdered, PartsOrdered, BranchesOrdered}

pub fit_more : (n m : ℕ) (a : Atom) → n ≤ m → IsFit n a → IsFit m a
fit_more n m (atomic.Variable x) le h = omega arith
fit_more n m (atomic.Whole z) le h = h
fit_more n m (atomic.Truth b) le h = tt

-- Fields whose variables count from a number on.
pub fields_ordered : {A : Type 0} (n : ℕ) (xs : List A) → FieldsOrdered n (variables_from n xs)
fields_ordered n [] = tt
fields_ordered n (x ∷ xs) = (omega arith, fields_ordered (n + 1) xs)

pub fields_behind : {A : Type 0} (n : ℕ) (xs : List A) → behind_fields n (variables_from n xs) ≤ n + length xs
fields_behind n [] = omega arith
fields_behind n (x ∷ xs) = let h = fields_behind (n + 1) xs in omega arith

-- A core's environment and that of what is left, where these are put for variables: from the number on nothing is there.
pub record Relates (n : ℕ) (sub : Substitution) (env other : Environment) : Type 0 where
  pub values : (x : Variable) → value_in env x.0 ≡ value other (put_for sub x)
  pub fresh : (x : ℕ) → n ≤ x → value_in other x ≡ whole (pos 0)
  pub kept : (x : Variable) → n ≤ x.0 → put_for sub x ≡ atomic.Variable x
  pub below : (x : Variable) → x.0 < n → IsFit n (put_for sub x)

below_more : (n m : ℕ) (sub : Substitution) (x : Variable) → n ≤ m → x.0 < m → (x.0 < n → IsFit n (put_for sub x)) → (n ≤ x.0 → put_for sub x ≡ atomic.Variable x) → IsFit m (put_for sub x)
below_more n m sub x le lt h k =
    ⊎_elim
    (λ less. fit_more n m (put_for sub x) le (h less))
    (λ more. subst (IsFit m) (sym (k more)) lt)
    (order x.0 n)

pub relates_more : {n m : ℕ} {sub : Substitution} {env other : Environment} → n ≤ m → Relates n sub env other → Relates m sub env other
relates_more {n} {m} {sub} {env} {other} le r = record {
  values = r.values;
  fresh = λ x h. r.fresh x (omega arith);
  kept = λ x h. r.kept x (omega arith);
  below = λ x lt. below_more n m sub x le lt (r.below x) (r.kept x);
}

-- A value below the number does not see a new variable.
value_past : (n x : ℕ) (v : Datum) (env : Environment) (a : Atom) → n ≤ x → IsFit n a → value ((x, v) ∷ env) a ≡ value env a
value_past n x v env (atomic.Variable y) le h = value_in-past x y.0 v env (λ e. omega arith)
value_past n x v env (atomic.Whole z) le h = refl
value_past n x v env (atomic.Truth b) le h = refl

bind_values : (n : ℕ) (sub : Substitution) (env other : Environment) (x : Variable) (v : Datum) (y : Variable) → Relates n sub env other → n ≤ x.0
    → value_in ((x.0, v) ∷ env) y.0 ≡ value ((x.0, v) ∷ other) (put_for sub y)
bind_values n sub env other x v y r le =
    ⊎_elim
    (λ (less : y.0 < n). value_in-past x.0 y.0 v env (λ e. omega arith) ∙ r.values y ∙ sym (value_past n x.0 v other (put_for sub y) le (r.below y less)))
    (λ (more : n ≤ y.0). step (x.0 == y.0) (r.values y ∙ ap (value other) (r.kept y more)) ∙ sym (ap (value ((x.0, v) ∷ other)) (r.kept y more)))
    (order y.0 n)
  where
    step : (b : Bool) → value_in env y.0 ≡ value_in other y.0 → (if b then v else value_in env y.0) ≡ (if b then v else value_in other y.0)
    step true e = refl
    step false e = e

relates_bind : {n : ℕ} {sub : Substitution} {env other : Environment} (x : Variable) (v : Datum) → n ≤ x.0 → Relates n sub env other → Relates (x.0 + 1) sub ((x.0, v) ∷ env) ((x.0, v) ∷ other)
relates_bind {n} {sub} {env} {other} x v le r = record {
  values = λ y. bind_values n sub env other x v y r le;
  fresh = λ y h. value_in-past x.0 y v other (λ e. omega arith) ∙ r.fresh y (omega arith);
  kept = λ y h. r.kept y (omega arith);
  below = λ y lt. below_more n (x.0 + 1) sub y (omega arith) lt (r.below y) (r.kept y);
}

-- A value that a field lacks is 0.
relates_zero : {n : ℕ} {sub : Substitution} {env other : Environment} (x : Variable) → n ≤ x.0 → Relates n sub env other → Relates (x.0 + 1) sub ((x.0, whole (pos 0)) ∷ env) other
relates_zero {n} {sub} {env} {other} x le r = record {
  values = λ y. step y (x.0 == y.0) (eqb-true x.0 y.0);
  fresh = λ y h. r.fresh y (omega arith);
  kept = λ y h. r.kept y (omega arith);
  below = λ y lt. below_more n (x.0 + 1) sub y (omega arith) lt (r.below y) (r.kept y);
}
  where
    step : (y : Variable) (b : Bool) → (b ≡ true → x.0 ≡ y.0) → (if b then whole (pos 0) else value_in env y.0) ≡ value other (put_for sub y)
    step y false is = r.values y
    step y true is = let e = is refl in sym (r.fresh y.0 (omega arith)) ∙ sym (ap (value other) (r.kept y (omega arith)))

-- An atom is put for a variable.
value_put : {n : ℕ} {sub : Substitution} {env other : Environment} (a : Atom) → Relates n sub env other → value env a ≡ value other (put_in sub a)
value_put (atomic.Variable x) r = r.values x
value_put (atomic.Whole z) r = refl
value_put (atomic.Truth b) r = refl

fit_put : {n : ℕ} {sub : Substitution} {env other : Environment} (m : ℕ) (a : Atom) → n ≤ m → Relates n sub env other → IsFit m a → IsFit m (put_in sub a)
fit_put {n} {sub} m (atomic.Variable x) le r h = below_more n m sub x le h (r.below x) (r.kept x)
fit_put m (atomic.Whole z) le r h = h
fit_put m (atomic.Truth b) le r h = h

relates_put : {n : ℕ} {sub : Substitution} {env other : Environment} (x : Variable) (a : Atom) → n ≤ x.0 → IsFit (x.0 + 1) a → Relates n sub env other → Relates (x.0 + 1) ((x.0, put_in sub a) ∷ sub) ((x.0, value env a) ∷ env) other
relates_put {n} {sub} {env} {other} x a le fit r = record {
  values = λ y. step y (x.0 == y.0);
  fresh = λ y h. r.fresh y (omega arith);
  kept = λ y h. keep y (x.0 == y.0) (eqb-true x.0 y.0) h;
  below = λ y lt. down y (x.0 == y.0) lt;
}
  where
    step : (y : Variable) (b : Bool) → (if b then value env a else value_in env y.0) ≡ value other (if b then put_in sub a else put_for sub y)
    step y true = value_put a r
    step y false = r.values y

    keep : (y : Variable) (b : Bool) → (b ≡ true → x.0 ≡ y.0) → x.0 + 1 ≤ y.0 → (if b then put_in sub a else put_for sub y) ≡ atomic.Variable y
    keep y true is h = let e = is refl in absurd (omega arith)
    keep y false is h = r.kept y (omega arith)

    down : (y : Variable) (b : Bool) → y.0 < x.0 + 1 → IsFit (x.0 + 1) (if b then put_in sub a else put_for sub y)
    down y true lt = fit_put (x.0 + 1) a (omega arith) r fit
    down y false lt = below_more n (x.0 + 1) sub y (omega arith) lt (r.below y) (r.kept y)

-- The variables of fields.
pub relates_fields : {n : ℕ} {sub : Substitution} {env other : Environment} (xs : List Variable) (vs : List Datum) → FieldsOrdered n xs → Relates n sub env other
    → Relates (behind_fields n xs) sub (core.bind xs vs env) (bind (map (λ (x : Variable). ident x.0) xs) vs other)
relates_fields [] vs h r = r
relates_fields {n} {sub} {env} {other} (x ∷ xs) [] h r =
    subst (λ (e : Environment). Relates (behind_fields (x.0 + 1) xs) sub (core.bind xs [] ((x.0, whole (pos 0)) ∷ env)) e) (none (map (λ (x : Variable). ident x.0) xs))
    (relates_fields {n = x.0 + 1} {sub = sub} {env = (x.0, whole (pos 0)) ∷ env} {other = other} xs [] h.1 (relates_zero x h.0 r))
  where
    none : (ys : List Ident) → bind ys [] other ≡ other
    none [] = refl
    none (y ∷ ys) = refl
relates_fields {n} {sub} {env} {other} (x ∷ xs) (v ∷ vs) h r = relates_fields {n = x.0 + 1} {sub = sub} {env = (x.0, v) ∷ env} {other = (x.0, v) ∷ other} xs vs h.1 (relates_bind x v h.0 r)

fields_rise : (n : ℕ) (xs : List Variable) → FieldsOrdered n xs → n ≤ behind_fields n xs
fields_rise n [] h = omega arith
fields_rise n (x ∷ xs) h = let more = fields_rise (x.0 + 1) xs h.1 in omega (arith, more, h.0)

-- The variables of a side.
module _ (tb : Table) where
  names_parts : (xs : List Variable) (tys : List Ty) → length xs ≡ length tys → names_of (parameters_of tb xs tys) ≡ map (λ (x : Variable). ident x.0) xs
  names_parts [] tys e = refl
  names_parts (x ∷ xs) [] e = absurd (omega (arith, e))
  names_parts (x ∷ xs) (t ∷ tys) e = ap (λ l. ident x.0 ∷ l) (names_parts xs tys (omega (arith, e)))

  several_bound : (xs : List Variable) (tys : List Ty) (v : Datum) (other : Environment) → AreSeveral xs → length xs ≡ length tys
      → bind (map (λ (x : Variable). ident x.0) xs) (parts v) other ≡ bind_results (names_of (parameters_of tb xs tys)) v other
  several_bound [] tys v other h e = absurd h
  several_bound (x ∷ []) tys v other h e = absurd h
  several_bound (x ∷ y ∷ xs) [] v other h e = absurd (omega (arith, e))
  several_bound (x ∷ y ∷ xs) (t ∷ []) v other h e = absurd (omega (arith, e))
  several_bound (x ∷ y ∷ xs) (t ∷ u ∷ tys) v other h e = ap (λ ns. bind (ident x.0 ∷ ident y.0 ∷ ns) (parts v) other) (sym (names_parts xs tys (omega (arith, e))))

  relates_side : {n : ℕ} {sub : Substitution} {env other : Environment} (s : Side) (v : Datum) → SideOrdered tb n s → Relates n sub env other
      → Relates (behind_variables n s) sub (bind_side s v env) (bind_results (names_of (side_parameters tb s)) v other)
  relates_side (On kind x ty t) v h r = relates_bind x v h.0 r
  relates_side {n} {sub} {env} {other} (Several xs tys t) v h r =
      subst (Relates (behind_fields n xs) sub (core.bind xs (parts v) env)) (several_bound xs tys v other h.2 h.3) (relates_fields xs (parts v) h.0 r)

  -- behind a side it does not matter where it began
  pub behind_same : (n m : ℕ) (s : Side) → SideOrdered tb m s → behind_variables n s ≡ behind_variables m s
  behind_same n m (On kind x ty t) h = refl
  behind_same n m (Several [] tys t) h = absurd h.2
  behind_same n m (Several (x ∷ xs) tys t) h = refl

  side_rises : (n : ℕ) (s : Side) → SideOrdered tb n s → n ≤ behind_variables n s
  side_rises n (On kind x ty t) h = omega (arith, h.0)
  side_rises n (Several xs tys t) h = fields_rise n xs h.0

  sides_rise : (n : ℕ) (l r : Side) (o : BindOrdered tb n (Both false l r)) → n ≤ o.1.0
  sides_rise n l r o = let a = side_rises n l o.0 in omega (arith, a, o.1.1)

  both_relate : {n : ℕ} {sub : Substitution} {env other : Environment} (l r : Side) (v w : Datum) (o : BindOrdered tb n (Both false l r)) → Relates n sub env other
      → Relates (next_of n (Both false l r)) sub (bind_side r w (bind_side l v env)) (bind_results (names_of (side_parameters tb r)) w (bind_results (names_of (side_parameters tb l)) v other))
  both_relate {n} {sub} {env} {other} l r v w o h =
      let new = bind_results (names_of (side_parameters tb r)) w (bind_results (names_of (side_parameters tb l)) v other) in
      subst (λ (m : ℕ). Relates m sub (bind_side r w (bind_side l v env)) new) (sym (behind_same (behind_variables n l) o.1.0 r o.1.2))
      (relates_side r w o.1.2 (relates_more o.1.1 (relates_side l v o.0 h)))

pub not_made : (o : Option ℕ) (v : Datum) → ((k : ℕ) → is_made_by (Some k) v ≡ false) → is_made_by o v ≡ false
not_made None v h = refl
not_made (Some k) v h = h k

module _ (tb : Table) (call : Calls) where
  literal_eval : (a : Atom) (other : Environment) (n : ℕ) → IsFit n a → eval tb call (expression_of a) other ≡ Gives (value other a)
  literal_eval (atomic.Variable x) other n h = refl
  literal_eval (atomic.Whole z) other n h = ap (λ y. Gives (whole y)) (sym h)
  literal_eval (atomic.Truth b) other n h = refl

  atom_eval : {n : ℕ} {sub : Substitution} {env other : Environment} (a : Atom) → IsFit n a → Relates n sub env other → eval tb call (erase_atom sub a) other ≡ Gives (value env a)
  atom_eval {n} {sub} {env} {other} a h r = literal_eval (put_in sub a) other n (fit_put n a (omega arith) r h) ∙ ap Gives (sym (value_put a r))

  -- values that are all given
  abbrev given : List Datum → List Outcome
  given [] = []
  given (v ∷ vs) = Gives v ∷ given vs

  gather_given : (vs : List Datum) → gather (given vs) ≡ All vs
  gather_given [] = refl
  gather_given (v ∷ vs) = ap (Rattle.gib_core.proofs.Agreeing.also (Gives v)) (gather_given vs)

  atoms_eval : {n : ℕ} {sub : Substitution} {env other : Environment} (xs : List Atom) → AreFit n xs → Relates n sub env other → eval_all tb call (arguments_of (map (erase_atom sub) xs)) other ≡ given (map (value env) xs)
  atoms_eval [] h r = refl
  atoms_eval (a ∷ xs) h r = λ i. atom_eval a h.0 r i ∷ atoms_eval xs h.1 r i

  merged_eval : {n : ℕ} {sub : Substitution} {env other : Environment} (types : List Ty) (ss ps : List Atom) → AreFit n ss → AreFit n ps → Relates n sub env other
      → eval_all tb call (arguments_of (merge types (map (erase_atom sub) ss) (map (erase_atom sub) ps))) other ≡ given (merge types (map (value env) ss) (map (value env) ps))
  merged_eval [] ss ps hs hp r = refl
  merged_eval (Whole ∷ types) [] ps hs hp r = merged_eval types [] ps hs hp r
  merged_eval (Whole ∷ types) (a ∷ ss) ps hs hp r = λ i. atom_eval a hs.0 r i ∷ merged_eval types ss ps hs.1 hp r i
  merged_eval (Truth ∷ types) [] ps hs hp r = merged_eval types [] ps hs hp r
  merged_eval (Truth ∷ types) (a ∷ ss) ps hs hp r = λ i. atom_eval a hs.0 r i ∷ merged_eval types ss ps hs.1 hp r i
  merged_eval (Tree t ∷ types) ss [] hs hp r = merged_eval types ss [] hs hp r
  merged_eval (Tree t ∷ types) ss (a ∷ ps) hs hp r = λ i. atom_eval a hp.0 r i ∷ merged_eval types ss ps hs hp.1 r i

  given_values : (vs : List Datum) (go : List Datum → Outcome) → with_values (given vs) go ≡ go vs
  given_values [] go = refl
  given_values (v ∷ vs) go = given_values vs (λ ws. go (v ∷ ws))

  given_some : (types : List Ty) (kind : Bool) (vs : List Datum) (rest : List Outcome) (z : Outcome) → with_values rest (λ _. z) ≡ z → with_values (at_fields kind types (given vs) ++ rest) (λ _. z) ≡ z
  given_some [] kind vs rest z e = e
  given_some (t ∷ types) kind [] rest z e = e
  given_some (Whole ∷ types) true (v ∷ vs) rest z e = given_some types true vs rest z e
  given_some (Whole ∷ types) false (v ∷ vs) rest z e = given_some types false vs rest z e
  given_some (Truth ∷ types) true (v ∷ vs) rest z e = given_some types true vs rest z e
  given_some (Truth ∷ types) false (v ∷ vs) rest z e = given_some types false vs rest z e
  given_some (Tree t ∷ types) true (v ∷ vs) rest z e = given_some types true vs rest z e
  given_some (Tree t ∷ types) false (v ∷ vs) rest z e = given_some types false vs rest z e

  given_only : (types : List Ty) (kind : Bool) (vs : List Datum) (z : Outcome) → with_values (at_fields kind types (given vs)) (λ _. z) ≡ z
  given_only [] kind vs z = refl
  given_only (t ∷ types) kind [] z = refl
  given_only (Whole ∷ types) true (v ∷ vs) z = given_only types true vs z
  given_only (Whole ∷ types) false (v ∷ vs) z = given_only types false vs z
  given_only (Truth ∷ types) true (v ∷ vs) z = given_only types true vs z
  given_only (Truth ∷ types) false (v ∷ vs) z = given_only types false vs z
  given_only (Tree t ∷ types) true (v ∷ vs) z = given_only types true vs z
  given_only (Tree t ∷ types) false (v ∷ vs) z = given_only types false vs z

  given_fields : (types : List Ty) (vs : List Datum) (go : List Datum → Outcome) → with_fields types (given vs) go ≡ go vs
  given_fields types vs go =
      given_some types true vs (at_fields false types (given vs)) (with_values (given vs) go) (given_only types false vs (with_values (given vs) go))
      ∙ given_values vs go

  one_side : (o : Outcome) (new : Datum → Environment) (go : Environment → Outcome) (k : Datum → Outcome) → ((v : Datum) → k v ≡ go (new v)) → with_value o k ≡ from_there (having o (λ v. Went (new v))) go
  one_side (Gives v) new go k e = e v
  one_side (Stops why) new go k e = refl

  two_sides : (o p : Outcome) (new : Datum → Datum → Environment) (go : Environment → Outcome) (k : Datum → Datum → Outcome) → ((v w : Datum) → k v w ≡ go (new v w))
      → with_value o (λ v. with_value p (λ w. k v w)) ≡ from_there (having o (λ v. having p (λ w. Went (new v w)))) go
  two_sides (Gives v) (Gives w) new go k e = e v w
  two_sides (Gives v) (Stops why) new go k e = refl
  two_sides (Stops why) p new go k e = refl

  -- two sides, whichever binds several
  par_eval : (l r : Side) (d e k : Expression) (other : Environment)
      → eval tb call (par_of tb l d r e k) other ≡ with_value (eval tb call d other) (λ v. with_value (eval tb call e other) (λ w. eval tb call k (bind_results (names_of (side_parameters tb r)) w (bind_results (names_of (side_parameters tb l)) v other))))
  par_eval (On kind x ty t) (On kind' y ty' u) d e k other = refl
  par_eval (On kind x ty t) (Several ys tys u) d e k other = refl
  par_eval (Several xs tys t) r d e k other = refl

  -- Parts: the scalar ones are given, and what the packed ones come to is told by them in their order.
  data Ends : List Outcome → Type 0 where
    ends_all : (ws : List Datum) → Ends (given ws)
    ends_early : {os : List Outcome} (why : Reason) → ((go : List Datum → Outcome) → with_values os go ≡ Stops why) → Ends os

  ends_of : (os : List Outcome) → Ends os
  ends_of [] = ends_all []
  ends_of (Stops why ∷ os) = ends_early why (λ go. refl)
  ends_of (Gives v ∷ os) = more (ends_of os)
    where
      more : {os : List Outcome} → Ends os → Ends (Gives v ∷ os)
      more (ends_all ws) = ends_all (v ∷ ws)
      more (ends_early why e) = ends_early why (λ go. e (λ ws. go (v ∷ ws)))

  all_found : (tys : List Ty) → AllByRecursion (IsTypeFound tb) tys → map (type_of_name tb.types) (map (type_name tb) tys) ≡ tys
  all_found [] h = refl
  all_found (t ∷ tys) h = λ i. h.0 i ∷ all_found tys h.1 i

  given_merge : (tys : List Ty) (vs ws : List Datum) → merge tys (given vs) (given ws) ≡ given (merge tys vs ws)
  given_merge [] vs ws = refl
  given_merge (Whole ∷ tys) [] ws = given_merge tys [] ws
  given_merge (Whole ∷ tys) (v ∷ vs) ws = ap (λ l. Gives v ∷ l) (given_merge tys vs ws)
  given_merge (Truth ∷ tys) [] ws = given_merge tys [] ws
  given_merge (Truth ∷ tys) (v ∷ vs) ws = ap (λ l. Gives v ∷ l) (given_merge tys vs ws)
  given_merge (Tree t ∷ tys) vs [] = given_merge tys vs []
  given_merge (Tree t ∷ tys) vs (w ∷ ws) = ap (λ l. Gives w ∷ l) (given_merge tys vs ws)

  scalars_merged : {A : Type 0} (tys : List Ty) (xs ys : List A) → length xs ≡ length (scalar_types tys) → length ys ≡ length (tree_types tys) → at_fields true tys (merge tys xs ys) ≡ xs
  scalars_merged [] [] ys e f = refl
  scalars_merged [] (x ∷ xs) ys e f = absurd (omega (arith, e))
  scalars_merged (Whole ∷ tys) [] ys e f = absurd (omega (arith, e))
  scalars_merged (Whole ∷ tys) (x ∷ xs) ys e f = ap (λ l. x ∷ l) (scalars_merged tys xs ys (omega (arith, e)) f)
  scalars_merged (Truth ∷ tys) [] ys e f = absurd (omega (arith, e))
  scalars_merged (Truth ∷ tys) (x ∷ xs) ys e f = ap (λ l. x ∷ l) (scalars_merged tys xs ys (omega (arith, e)) f)
  scalars_merged (Tree t ∷ tys) xs [] e f = absurd (omega (arith, f))
  scalars_merged (Tree t ∷ tys) xs (y ∷ ys) e f = scalars_merged tys xs ys e (omega (arith, f))

  packed_merged : {A : Type 0} (tys : List Ty) (xs ys : List A) → length xs ≡ length (scalar_types tys) → length ys ≡ length (tree_types tys) → at_fields false tys (merge tys xs ys) ≡ ys
  packed_merged [] xs [] e f = refl
  packed_merged [] xs (y ∷ ys) e f = absurd (omega (arith, f))
  packed_merged (Whole ∷ tys) [] ys e f = absurd (omega (arith, e))
  packed_merged (Whole ∷ tys) (x ∷ xs) ys e f = packed_merged tys xs ys (omega (arith, e)) f
  packed_merged (Truth ∷ tys) [] ys e f = absurd (omega (arith, e))
  packed_merged (Truth ∷ tys) (x ∷ xs) ys e f = packed_merged tys xs ys (omega (arith, e)) f
  packed_merged (Tree t ∷ tys) xs [] e f = absurd (omega (arith, f))
  packed_merged (Tree t ∷ tys) xs (y ∷ ys) e f = ap (λ l. y ∷ l) (packed_merged tys xs ys e (omega (arith, f)))

  given_first : (vs : List Datum) (os : List Outcome) (z : Outcome) → with_values (given vs ++ os) (λ _. z) ≡ with_values os (λ _. z)
  given_first [] os z = refl
  given_first (v ∷ vs) os z = given_first vs os z

  given_long : (vs : List Datum) → length (given vs) ≡ length vs
  given_long [] = refl
  given_long (v ∷ vs) = ap suc (given_long vs)

  in_order : (tys : List Ty) (vs : List Datum) (os : List Outcome) (go : List Datum → Outcome) → length vs ≡ length (scalar_types tys) → length os ≡ length (tree_types tys)
      → with_fields tys (merge tys (given vs) os) go ≡ with_values os (λ ws. go (merge tys vs ws))
  in_order tys vs os go e f =
      (λ i. with_values (scalars_merged tys (given vs) os (given_long vs ∙ e) f i ++ packed_merged tys (given vs) os (given_long vs ∙ e) f i) (λ _. with_values (merge tys (given vs) os) go))
      ∙ given_first vs os (with_values (merge tys (given vs) os) go)
      ∙ as_they_end (ends_of os)
    where
      as_they_end : {os : List Outcome} → Ends os → with_values os (λ _. with_values (merge tys (given vs) os) go) ≡ with_values os (λ ws. go (merge tys vs ws))
      as_they_end (ends_all ws) =
          given_values ws (λ _. with_values (merge tys (given vs) (given ws)) go)
          ∙ ap (λ os. with_values os go) (given_merge tys vs ws) ∙ given_values (merge tys vs ws) go ∙ sym (given_values ws (λ ws'. go (merge tys vs ws')))
      as_they_end {os} (ends_early why e) = e (λ _. with_values (merge tys (given vs) os) go) ∙ sym (e (λ ws. go (merge tys vs ws)))

  -- expressions as arguments
  arguments_eval : (tys : List Ty) (xs ys : List Expression) (other : Environment)
      → eval_all tb call (arguments_of (merge tys xs ys)) other ≡ merge tys (map (λ e. eval tb call e other) xs) (map (λ e. eval tb call e other) ys)
  arguments_eval [] xs ys other = refl
  arguments_eval (Whole ∷ tys) [] ys other = arguments_eval tys [] ys other
  arguments_eval (Whole ∷ tys) (x ∷ xs) ys other = ap (λ l. eval tb call x other ∷ l) (arguments_eval tys xs ys other)
  arguments_eval (Truth ∷ tys) [] ys other = arguments_eval tys [] ys other
  arguments_eval (Truth ∷ tys) (x ∷ xs) ys other = ap (λ l. eval tb call x other ∷ l) (arguments_eval tys xs ys other)
  arguments_eval (Tree t ∷ tys) xs [] other = arguments_eval tys xs [] other
  arguments_eval (Tree t ∷ tys) xs (y ∷ ys) other = ap (λ l. eval tb call y other ∷ l) (arguments_eval tys xs ys other)

  each_eval : {n : ℕ} {sub : Substitution} {env other : Environment} (xs : List Atom) → AreFit n xs → Relates n sub env other → map (λ e. eval tb call e other) (map (erase_atom sub) xs) ≡ given (map (value env) xs)
  each_eval [] h r = refl
  each_eval (a ∷ xs) h r = λ i. atom_eval a h.0 r i ∷ each_eval xs h.1 r i

  parts_long : (ps : PartTerms) (env : Environment) → length (mean_parts tb call ps env) ≡ parts_count ps
  parts_long NoPart env = refl
  parts_long (PartThen t ps) env = ap suc (parts_long ps env)

  values_long : (env : Environment) (xs : List Atom) → length (map (value env) xs) ≡ length xs
  values_long env [] = refl
  values_long env (x ∷ xs) = ap suc (values_long env xs)

  pointed : (kind : Kind) (t : Term) (a : Atom) → left_out kind t ≡ Some a → t ≡ Point a
  pointed Here (Point y) a e = ap Point (same_Some y a e)
  pointed Region (Point y) a e = ap Point (same_Some y a e)
  pointed Scalar (Point y) a e = absurd cc
  pointed Here (Then b rest) a e = absurd cc
  pointed Region (Then b rest) a e = absurd cc
  pointed Scalar (Then b rest) a e = absurd cc
  pointed Here (Write h k ss ps) a e = absurd cc
  pointed Region (Write h k ss ps) a e = absurd cc
  pointed Scalar (Write h k ss ps) a e = absurd cc
  pointed Here (CallTerm f xs) a e = absurd cc
  pointed Region (CallTerm f xs) a e = absurd cc
  pointed Scalar (CallTerm f xs) a e = absurd cc
  pointed Here (Give x) a e = absurd cc
  pointed Region (Give x) a e = absurd cc
  pointed Scalar (Give x) a e = absurd cc
  pointed Here (CaseTerm x bs) a e = absurd cc
  pointed Region (CaseTerm x bs) a e = absurd cc
  pointed Scalar (CaseTerm x bs) a e = absurd cc
  pointed Here (IfTerm x t u) a e = absurd cc
  pointed Region (IfTerm x t u) a e = absurd cc
  pointed Scalar (IfTerm x t u) a e = absurd cc
  pointed Here (Tuple tys ss ps) a e = absurd cc
  pointed Region (Tuple tys ss ps) a e = absurd cc
  pointed Scalar (Tuple tys ss ps) a e = absurd cc

  -- a side that is bound, or left out
  one_erased : {n : ℕ} {sub : Substitution} {env other : Environment} (o : Option Atom) (kind : Kind) (x : Variable) (t : Term) (k : Substitution → Expression) (go : Environment → Outcome)
      → left_out kind t ≡ o → n ≤ x.0 → IsOrdered tb (x.0 + 1) t → Relates n sub env other
      → eval tb call (erase tb sub t) other ≡ mean tb call t env
      → ((sub' : Substitution) (env' other' : Environment) → Relates (x.0 + 1) sub' env' other' → eval tb call (k sub') other' ≡ go env')
      → eval tb call (let_or_put o x (erase tb sub t) sub k) other ≡ from_there (having (mean tb call t env) (λ v. Went ((x.0, v) ∷ env))) go
  one_erased {n} {sub} {env} {other} None kind x t k go is le h r same rest =
      ap (λ p. with_value p (λ v. eval tb call (k sub) ((x.0, v) ∷ other))) same
      ∙ one_side (mean tb call t env) (λ v. (x.0, v) ∷ env) go (λ v. eval tb call (k sub) ((x.0, v) ∷ other)) (λ v. rest sub ((x.0, v) ∷ env) ((x.0, v) ∷ other) (relates_bind x v le r))
  one_erased {n} {sub} {env} {other} (Some a) kind x t k go is le h r same rest =
      let point = pointed kind t a is in
      let fit : IsFit (x.0 + 1) a = subst (IsOrdered tb (x.0 + 1)) point h in
      let means : mean tb call t env ≡ Gives (value env a) = ap (λ u. mean tb call u env) point in
      rest ((x.0, put_in sub a) ∷ sub) ((x.0, value env a) ∷ env) other (relates_put x a le fit r)
      ∙ sym (ap (λ p. from_there (having p (λ v. Went ((x.0, v) ∷ env))) go) means)

  -- a case, by what is left of its branches
  abbrev eval_option : Option Arms → Datum → Environment → Outcome
  eval_option None v other = Gives (whole (pos 0))
  eval_option (Some arms) v other = eval_arms tb call arms v other

  arms_scalar : (arms : Arms) (v : Datum) (other : Environment) → ((k : ℕ) → is_made_by (Some k) v ≡ false) → eval_arms tb call arms v other ≡ Gives (whole (pos 0))
  arms_scalar (LastArm k xs e) v other h = ap (λ b. choose b (eval tb call e (bind xs (parts v) other)) (Gives (whole (pos 0)))) (not_made (constructor_named tb (number_of k)) v h)
  arms_scalar (NextArm k xs e arms) v other h =
      ap (λ b. choose b (eval tb call e (bind xs (parts v) other)) (eval_arms tb call arms v other)) (not_made (constructor_named tb (number_of k)) v h) ∙ arms_scalar arms v other h

  case_eval : (a : Atom) (arms : Option Arms) (other : Environment) → eval tb call (case_of a arms) other ≡ eval_option arms (value other a) other
  case_eval (atomic.Variable x) None other = refl
  case_eval (atomic.Whole z) None other = refl
  case_eval (atomic.Truth b) None other = refl
  case_eval (atomic.Variable x) (Some arms) other = refl
  case_eval (atomic.Whole z) (Some arms) other = sym (arms_scalar arms (whole z) other (λ k. refl))
  case_eval (atomic.Truth b) (Some arms) other = sym (arms_scalar arms (truth b) other (λ k. refl))

  arm_eval : (k : Ident) (xs : List Ident) (e : Expression) (arms : Option Arms) (v : Datum) (other : Environment)
      → eval_option (arm_before k xs e arms) v other ≡ choose (is_made_by (constructor_named tb (number_of k)) v) (eval tb call e (bind xs (parts v) other)) (eval_option arms v other)
  arm_eval k xs e None v other = refl
  arm_eval k xs e (Some arms) v other = refl

  mutual
    pub erases : {n : ℕ} {sub : Substitution} {env other : Environment} (t : Term) → IsOrdered tb n t → Relates n sub env other → eval tb call (erase tb sub t) other ≡ mean tb call t env
    erases {n} {sub} {env} {other} (Then b rest) h r =
        erases_bind {n = n} {sub = sub} {env = env} {other = other} b h.0 r (λ s. erase tb s rest) (λ e. mean tb call rest e) (λ sub' env' other' r'. erases {n = h.1.0} {sub = sub'} {env = env'} {other = other'} rest h.1.2 (relates_more h.1.1 r'))
    erases {n} {sub} {env} {other} (Write h k ss ps) o r =
        let types = fields_at tb k.0 in
        let vs = merge types (map (value env) ss) (map (value env) ps) in
        (λ i. made tb (o.0 i) (merged_eval types ss ps o.1 o.2 r i)) ∙ given_fields types vs (λ ws. Gives (con k.0 (data_of ws)))
    erases (Point x) h r = atom_eval x h r
    erases {n} {sub} {env} {other} (CallTerm f xs) h r = ap (λ os. with_values os (call f.0)) (atoms_eval xs h r) ∙ given_values (map (value env) xs) (call f.0)
    erases (Give x) h r = atom_eval x h r
    erases {n} {sub} {env} {other} (CaseTerm x bs) h r =
        case_eval (put_in sub x) (erase_branches tb sub bs) other
        ∙ ap (λ v. eval_option (erase_branches tb sub bs) v other) (sym (value_put x r))
        ∙ erases_branches {n = n} {sub = sub} {env = env} {other = other} bs (value env x) h.1 r
    erases {n} {sub} {env} {other} (IfTerm x t u) h r =
        λ i. with_value (atom_eval x h.0 r i) (λ v. choose (is_true v) (erases {n = h.1.0} {sub = sub} {env = env} {other = other} t h.1.2 (relates_more h.1.1 r) i) (erases {n = h.2.0} {sub = sub} {env = env} {other = other} u h.2.2 (relates_more h.2.1 r) i))
    erases {n} {sub} {env} {other} (Tuple tys ss ps) h r =
        let vs = map (value env) ss in
        let all : eval_all tb call (arguments_of (merge tys (map (erase_atom sub) ss) (erase_parts tb sub ps))) other ≡ merge tys (given vs) (mean_parts tb call ps env) =
        arguments_eval tys (map (erase_atom sub) ss) (erase_parts tb sub ps) other ∙ (λ i. merge tys (each_eval ss h.0 r i) (erases_parts {n = n} {sub = sub} {env = env} {other = other} ps h.1 r i)) in
        (λ i. with_fields (all_found tys h.2.0 i) (all i) (λ ws. Gives (tuple ws)))
        ∙ in_order tys vs (mean_parts tb call ps env) (λ ws. Gives (tuple ws)) (values_long env ss ∙ h.2.1) (parts_long ps env ∙ h.2.2)

    erases_parts : {n : ℕ} {sub : Substitution} {env other : Environment} (ps : PartTerms) → PartsOrdered tb n ps → Relates n sub env other → map (λ e. eval tb call e other) (erase_parts tb sub ps) ≡ mean_parts tb call ps env
    erases_parts NoPart h r = refl
    erases_parts {n} {sub} {env} {other} (PartThen t ps) h r =
        λ i. erases {n = h.0.0} {sub = sub} {env = env} {other = other} t h.0.2 (relates_more h.0.1 r) i ∷ erases_parts {n = n} {sub = sub} {env = env} {other = other} ps h.1 r i

    erases_side : {n : ℕ} {sub : Substitution} {env other : Environment} (s : Side) → SideOrdered tb n s → Relates n sub env other → eval tb call (erase_side tb sub s) other ≡ mean_side tb call s env
    erases_side {n} {sub} {env} {other} (On kind x ty t) o r = erases {n = x.0 + 1} {sub = sub} {env = env} {other = other} t o.1 (relates_more (omega (arith, o.0)) r)
    erases_side {n} {sub} {env} {other} (Several xs tys t) o r = erases {n = behind_fields n xs} {sub = sub} {env = env} {other = other} t o.1 (relates_more (fields_rise n xs o.0) r)

    erases_bind : {n : ℕ} {sub : Substitution} {env other : Environment} (b : Bind) → BindOrdered tb n b → Relates n sub env other → (k : Substitution → Expression) (go : Environment → Outcome)
        → ((sub' : Substitution) (env' other' : Environment) → Relates (next_of n b) sub' env' other' → eval tb call (k sub') other' ≡ go env')
        → eval tb call (erase_bind tb sub b k) other ≡ from_there (run tb call b env) go
    erases_bind {n} {sub} {env} {other} (Past h c) o r k go rest = rest sub env other r
    erases_bind {n} {sub} {env} {other} (One (On kind x ty t)) o r k go rest =
        one_erased (left_out kind t) kind x t k go refl o.0 o.1 r (erases {n = x.0 + 1} {sub = sub} {env = env} {other = other} t o.1 (relates_more (omega (arith, o.0)) r)) rest
    erases_bind {n} {sub} {env} {other} (One (Several xs tys t)) o r k go rest =
        let s = Several xs tys t in
        let names = names_of (parameters_of tb xs tys) in
        ap (λ p. with_value p (λ v. eval tb call (k sub) (bind_results names v other))) (erases {n = behind_fields n xs} {sub = sub} {env = env} {other = other} t o.1 (relates_more (fields_rise n xs o.0) r))
        ∙ one_side (mean tb call t env) (λ v. bind_side s v env) go (λ v. eval tb call (k sub) (bind_results names v other)) (λ v. rest sub (bind_side s v env) (bind_results names v other) (relates_side tb s v o r))
    erases_bind {n} {sub} {env} {other} (Both fork x y) o r k go rest =
        let left = names_of (side_parameters tb x) in
        let right = names_of (side_parameters tb y) in
        let inner = relates_more (sides_rise tb n x y o) r in
        let new : Datum → Datum → Environment = λ v w. bind_results right w (bind_results left v other) in
        par_eval x y (erase_side tb sub x) (erase_side tb sub y) (k sub) other
        ∙ (λ i. with_value (erases_side {n = n} {sub = sub} {env = env} {other = other} x o.0 r i) (λ v. with_value (erases_side {n = o.1.0} {sub = sub} {env = env} {other = other} y o.1.2 inner i) (λ w. eval tb call (k sub) (new v w))))
        ∙ two_sides (mean_side tb call x env) (mean_side tb call y env) (λ v w. bind_side y w (bind_side x v env)) go (λ v w. eval tb call (k sub) (new v w))
        (λ v w. rest sub (bind_side y w (bind_side x v env)) (new v w) (both_relate tb {n = n} {sub = sub} {env = env} {other = other} x y v w o r))
    erases_bind {n} {sub} {env} {other} (Prim x f y z) o r k go rest =
        (λ i. with_value (with_value (atom_eval y o.1 r i) (λ v. with_value (atom_eval z o.2 r i) (λ w. outcome f (number_in v) (number_in w)))) (λ v. eval tb call (k sub) ((x.0, v) ∷ other)))
        ∙ one_side (outcome f (number_in (value env y)) (number_in (value env z))) (λ v. (x.0, v) ∷ env) go (λ v. eval tb call (k sub) ((x.0, v) ∷ other)) (λ v. rest sub ((x.0, v) ∷ env) ((x.0, v) ∷ other) (relates_bind x v o.0 r))
    erases_bind {n} {sub} {env} {other} (Reach y by) o r k go rest = rest sub env other r

    erases_branches : {n : ℕ} {sub : Substitution} {env other : Environment} (bs : Branches) (v : Datum) → BranchesOrdered tb n bs → Relates n sub env other
        → eval_option (erase_branches tb sub bs) v other ≡ mean_branches tb call bs v env
    erases_branches NoBranch v h r = refl
    erases_branches {n} {sub} {env} {other} (BranchThen k xs t rest) v h r =
        let ys = map (λ (x : Variable). ident x.0) xs in
        let inner = relates_fields xs (parts v) h.0.2 (relates_more h.0.1 r) in
        arm_eval (ident (name_at tb k.0)) ys (erase tb sub t) (erase_branches tb sub rest) v other
        ∙ (λ i. choose (is_made_by (h.0.3 i) v) (erases {n = h.0.4.0} {sub = sub} {env = core.bind xs (parts v) env} {other = bind ys (parts v) other} t h.0.4.2 (relates_more h.0.4.1 inner) i) (erases_branches {n = n} {sub = sub} {env = env} {other = other} rest v h.1 r i))
