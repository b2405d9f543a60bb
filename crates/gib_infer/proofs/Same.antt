-- What an expression means depends on the values of variables alone; and the variables of fields.
use Rattle.std.proofs.Common.{◌≡◌, ℕ, ◌+◌, Bool, true, false, ◌==◌, if◌then◌else◌, List, [], ◌∷◌, length, map, Option, Some, None, refl, sym, ap, ◌∙◌, subst, arith}
use Rattle.std.specs.Prelude.{pos}
use Rattle.gib_types.specs.declared.table.Ty.{Ty}
use Rattle.gib_types.specs.Table.{Table}
use Rattle.gib_types.specs.Tree.{Datum, whole}
use Rattle.gib_syntax.specs.declared.tree.Ident.{Ident}
use Rattle.gib_syntax.specs.Tree.{Expression, Arguments, Arms, Var, Num, Bit, Paren, Op, Call, Make, Let, Par, If, Case, Tuple, LetSeveral, ParSeveral, NoArgument, Argument, LastArm, NextArm}
use Rattle.gib_syntax.specs.Declarations.{number_of, constructor_named, type_of_name}
use Rattle.gib_syntax.specs.Typing as typing
use Rattle.gib_syntax.specs.Meaning.{with_fields as by_fields, bind_results, tuple, names_of, Gives, Environment, value_in, bind, with_value, with_values, number_in, is_true, is_made_by, parts, outcome, made, choose, eval, eval_all, eval_arms}
use Rattle.gib_core.specs.declared.atom.Atom.{Atom}
use Rattle.gib_core.specs.Tree.{var, variables_from}
use Rattle.gib_core.specs.Meaning as core
use Rattle.gib_core.specs.Meaning.{Calls, value}
use Rattle.gib_core.specs.Inferring.{Scope, slot, further_types, first_type, with_fields}
use Rattle.gib_core.proofs.Agreeing.{env_of, AreSame, AllBelow, Hides}
use Rattle.gib_core.proofs.Envs.{value_in-here, same_refl, same_trans, same_more, same_less, keeps_bind, all_below_less, env_of-keeps}

pub bind_same : (xs : List Ident) (vs : List Datum) (env other : Environment) → AreSame env other → AreSame (bind xs vs env) (bind xs vs other)
bind_same [] vs env other h = h
bind_same (x ∷ xs) [] env other h = h
bind_same (x ∷ xs) (v ∷ vs) env other h = bind_same xs vs ((number_of x, v) ∷ env) ((number_of x, v) ∷ other) (same_more (number_of x) v env other h)

pub results_same : (xs : List Ident) (v : Datum) (env other : Environment) → AreSame env other → AreSame (bind_results xs v env) (bind_results xs v other)
results_same [] v env other h = h
results_same (x ∷ []) v env other h = same_more (number_of x) v env other h
results_same (x ∷ y ∷ xs) v env other h = bind_same (x ∷ y ∷ xs) (parts v) env other h

module _ (tb : Table) (call : Calls) where
  mutual
    pub eval_same : (e : Expression) (env other : Environment) → AreSame env other → eval tb call e env ≡ eval tb call e other
    eval_same (Var x) env other h = ap Gives (h (number_of x))
    eval_same (Num p n) env other h = refl
    eval_same (Bit p b) env other h = refl
    eval_same (Paren p e) env other h = eval_same e env other h
    eval_same (Op p f d e) env other h = λ i. with_value (eval_same d env other h i) (λ v. with_value (eval_same e env other h i) (λ w. outcome f (number_in v) (number_in w)))
    eval_same (Call f xs) env other h = ap (λ os. with_values os (call (number_of f))) (all_same xs env other h)
    eval_same (Make k xs) env other h = ap (made tb (constructor_named tb (number_of k))) (all_same xs env other h)
    eval_same (Let p x d e) env other h =
        λ i. with_value (eval_same d env other h i) (λ v. eval_same e ((number_of x, v) ∷ env) ((number_of x, v) ∷ other) (same_more (number_of x) v env other h) i)
    eval_same (Par p x d y e f) env other h =
        λ i. with_value (eval_same d env other h i) (λ v. with_value (eval_same e env other h i) (λ w.
        eval_same f ((number_of y, w) ∷ (number_of x, v) ∷ env) ((number_of y, w) ∷ (number_of x, v) ∷ other)
        (same_more (number_of y) w ((number_of x, v) ∷ env) ((number_of x, v) ∷ other) (same_more (number_of x) v env other h)) i))
    eval_same (If p c d e) env other h = λ i. with_value (eval_same c env other h i) (λ v. choose (is_true v) (eval_same d env other h i) (eval_same e env other h i))
    eval_same (Case p x arms) env other h = ap (λ v. eval_arms tb call arms v env) (h (number_of x)) ∙ arms_same arms (value_in other (number_of x)) env other h
    eval_same (Tuple p as' xs) env other h = ap (λ os. by_fields (map (type_of_name tb.types) as') os (λ vs. Gives (tuple vs))) (all_same xs env other h)
    eval_same (LetSeveral p qs d e) env other h =
        λ i. with_value (eval_same d env other h i) (λ v. eval_same e (bind_results (names_of qs) v env) (bind_results (names_of qs) v other) (results_same (names_of qs) v env other h) i)
    eval_same (ParSeveral p qs d rs e f) env other h =
        λ i. with_value (eval_same d env other h i) (λ v. with_value (eval_same e env other h i) (λ w.
        eval_same f (bind_results (names_of rs) w (bind_results (names_of qs) v env)) (bind_results (names_of rs) w (bind_results (names_of qs) v other))
        (results_same (names_of rs) w (bind_results (names_of qs) v env) (bind_results (names_of qs) v other) (results_same (names_of qs) v env other h)) i))

    pub all_same : (xs : Arguments) (env other : Environment) → AreSame env other → eval_all tb call xs env ≡ eval_all tb call xs other
    all_same NoArgument env other h = refl
    all_same (Argument e xs) env other h = λ i. eval_same e env other h i ∷ all_same xs env other h i

    pub arms_same : (arms : Arms) (v : Datum) (env other : Environment) → AreSame env other → eval_arms tb call arms v env ≡ eval_arms tb call arms v other
    arms_same (LastArm k xs e) v env other h =
        λ i. choose (is_made_by (constructor_named tb (number_of k)) v) (eval_same e (bind xs (parts v) env) (bind xs (parts v) other) (bind_same xs (parts v) env other h) i) (Gives (whole (pos 0)))
    arms_same (NextArm k xs e arms) v env other h =
        λ i. choose (is_made_by (constructor_named tb (number_of k)) v) (eval_same e (bind xs (parts v) env) (bind xs (parts v) other) (bind_same xs (parts v) env other h) i) (arms_same arms v env other h i)

-- Names that typing does not know have no value.

hidden : (b : Bool) (t : Ty) (rest : Option Ty) (w v z : Datum) → (if b then Some t else rest) ≡ None → (rest ≡ None → v ≡ z) → (if b then w else v) ≡ z
hidden true t rest w v z e h = absurd cc
hidden false t rest w v z e h = h e

pub hides_bound : (known : typing.Scope) (sc : Scope) (x : Ident) (t : Ty) (at : Atom) (ty : Ty) → Hides known sc → Hides (typing.bound x t known) (slot x at ty ∷ sc)
hides_bound known sc x t at ty h = record {
  zero = λ y e env. hidden (number_of x == y) t (typing.type_in known y) (value env at) (value_in (env_of sc env) y) (whole (pos 0)) e (λ f. h.zero y f env);
}

pub hides_nothing : (known : typing.Scope) → Hides known []
hides_nothing known = record { zero = λ x e env. refl }

pub hides_all : (xs : List Ident) (types : List Ty) (known inner : typing.Scope) (sc : Scope) → typing.BindsAll known xs types inner → Hides known sc
    → (others : List Ty) (n : ℕ) → Hides inner (with_fields xs others n sc)
hides_all [] [] known inner sc e h others n = subst (λ (k : typing.Scope). Hides k sc) (sym e) h
hides_all [] (t ∷ types) known inner sc e h others n = absurd e
hides_all (x ∷ xs) [] known inner sc e h others n = absurd e
hides_all (x ∷ xs) (t ∷ types) known inner sc e h others n =
    hides_all xs types (typing.bound x t known) inner (slot x (var n) (first_type others) ∷ sc) e.1
    (hides_bound known sc x t (var n) (first_type others) h) (further_types others) (n + 1)

-- The variables of fields.

pub fields_below : (n m : ℕ) (xs : List Ident) (types : List Ty) (sc : Scope) → m ≡ n + length xs → AllBelow n sc → AllBelow m (with_fields xs types n sc)
fields_below n m [] types sc e h = all_below_less n m sc (omega arith) h
fields_below n m (x ∷ xs) types sc e h =
    fields_below (n + 1) m xs (further_types types) (slot x (var n) (first_type types) ∷ sc) (omega arith) (omega arith, all_below_less n (n + 1) sc (omega arith) h)

bind_none : (xs : List Ident) (env : Environment) → bind xs [] env ≡ env
bind_none [] env = refl
bind_none (x ∷ xs) env = refl

pub fields_same : (xs : List Ident) (types : List Ty) (known inner : typing.Scope) (sc : Scope) → typing.BindsAll known xs types inner → Hides known sc
    → (others : List Ty) (n : ℕ) (vs : List Datum) (env : Environment) → AllBelow n sc
    → AreSame (env_of (with_fields xs others n sc) (core.bind (variables_from n xs) vs env)) (bind xs vs (env_of sc env))
fields_same [] types known inner sc e h others n vs env below = same_refl (env_of sc env)
fields_same (x ∷ xs) [] known inner sc e h others n vs env below = absurd e
fields_same (x ∷ xs) (t ∷ types) known inner sc e h others n [] env below =
    let zeroed : Environment = (n, whole (pos 0)) ∷ env in
    let sc' : Scope = slot x (var n) (first_type others) ∷ sc in
    let more = fields_same xs types (typing.bound x t known) inner sc' e.1 (hides_bound known sc x t (var n) (first_type others) h) (further_types others) (n + 1) [] zeroed
    (omega arith, all_below_less n (n + 1) sc (omega arith) below) in
    let now : env_of sc' zeroed ≡ (number_of x, whole (pos 0)) ∷ env_of sc env = λ i. (number_of x, value_in-here n (whole (pos 0)) env i) ∷ env_of-keeps sc (keeps_bind n n (whole (pos 0)) env (omega arith)) below i in
    let all = env_of (with_fields xs (further_types others) (n + 1) sc') (core.bind (variables_from (n + 1) xs) [] zeroed) in
    same_trans all ((number_of x, whole (pos 0)) ∷ env_of sc env) (env_of sc env)
    (subst (AreSame all) (bind_none xs (env_of sc' zeroed) ∙ now) more)
    (same_less (number_of x) (whole (pos 0)) (env_of sc env) (h.zero (number_of x) e.0 env))
fields_same (x ∷ xs) (t ∷ types) known inner sc e h others n (v ∷ vs) env below =
    let bound : Environment = (n, v) ∷ env in
    let sc' : Scope = slot x (var n) (first_type others) ∷ sc in
    let more = fields_same xs types (typing.bound x t known) inner sc' e.1 (hides_bound known sc x t (var n) (first_type others) h) (further_types others) (n + 1) vs bound
    (omega arith, all_below_less n (n + 1) sc (omega arith) below) in
    let now : env_of sc' bound ≡ (number_of x, v) ∷ env_of sc env = λ i. (number_of x, value_in-here n v env i) ∷ env_of-keeps sc (keeps_bind n n v env (omega arith)) below i in
    let all = env_of (with_fields xs (further_types others) (n + 1) sc') (core.bind (variables_from (n + 1) xs) vs bound) in
    subst (λ (z : Environment). AreSame all (bind xs vs z)) now more
