-- What a typed program becomes means what the program means.
use Rattle.std.proofs.Common.{◌≡◌, ℕ, zero, suc, ◌+◌, ◌<◌, ◌≤◌, Bool, true, false, ◌==◌, if◌then◌else◌, List, [], ◌∷◌, map, length, Option, Some, None, refl, sym, ap, ◌∙◌, subst, arith}
use Rattle.std.specs.Prelude.{pos}
use Rattle.std.specs.List.{AllByRecursion}
use Rattle.std.proofs.lemmas.Bool.{eqb-true, eq-eqb, both_ways}
use Rattle.std.proofs.lemmas.Option.{same_Some}
use Rattle.std.proofs.lemmas.List.{length-map}
use Rattle.gib_types.specs.declared.table.Ty.{Ty}
use Rattle.gib_types.specs.declared.table.Ty.TheVariants.{Whole, Truth}
use Rattle.gib_types.specs.Table.{Row, Table, IsTable, owner_at, fields_at, first_at, count_at}
use Rattle.gib_types.specs.Tree.{Data, Datum, whole, truth, con, list_of}
use Rattle.gib_types.proofs.Owners.{together, tag_there}
use Rattle.gib_syntax.specs.declared.tree.Ident.{Ident}
use Rattle.gib_syntax.specs.declared.tree.Parameter.{Parameter}
use Rattle.gib_syntax.specs.Results as results
use Rattle.gib_syntax.specs.Results.{Results, as_results}
use Rattle.gib_syntax.specs.Tree as source
use Rattle.gib_syntax.specs.Tree.{Expression, Arguments, Arms, Var, Num, Bit, Paren, Op, Call, Make, Let, Par, If, Case, LetSeveral, ParSeveral, NoArgument, Argument, LastArm, NextArm, FunctionTree, ProgramTree}
use Rattle.gib_syntax.specs.Declarations.{number_of, constructor_names, constructor_named, function_named, table_of_program, type_of_name}
use Rattle.gib_syntax.specs.Typing as typing
use Rattle.gib_syntax.specs.Typing.{Globals, globals_of, Has, HaveAll, HaveArms, arm_names, BindsAll, parameter_types, types_of, IsTypedHere, IsTypedProgram}
use Rattle.gib_syntax.specs.Meaning.{Outcome, Gives, Environment, value_in, bind, with_values, with_fields as by_fields, is_made_by, parts, tuple, made, choose, eval, eval_all, eval_arms, names_of, of_function, calls, run}
use Rattle.gib_core.specs.declared.atom.Atom.TheVariants as atomic
use Rattle.gib_core.specs.Tree.{variables_from, FunctionTerm}
use Rattle.gib_core.specs.Meaning as core
use Rattle.gib_core.specs.Meaning.{Calls, value, mean, function_at, core_calls, core_run}
use Rattle.gib_core.specs.Inferring.{Scope, slot, Code, atom_at, type_at, operation_atom, make_line, let_line, if_line, case_line, tuple_line, several_line, sides_line, with_fields, numbers_from, constructors_of, first_constructor, con_or, con_named, gives_type, infer, infer_all, infer_arms, infer_body, infer_function, infer_program}
use Rattle.gib_core.proofs.Agreeing.{env_of, AllBelow, Hides, gather, with_all, each_of, Lines, Good, AllGood}
use Rattle.gib_core.proofs.Envs.{value_in-env_of, at_below}
use Rattle.gib_core.proofs.Erases.{not_made}
use Rattle.gib_infer.proofs.Fits.{variables_same}
use Rattle.gib_infer.proofs.Together.{values_all}
use Rattle.gib_infer.proofs.Places.{line_good, atom_good, plain_good, operation_good, call_good, make_good, let_good, if_good}
use Rattle.gib_infer.proofs.Tuples.{tuple_good, several_line_good, sides_line_good}
use Rattle.gib_infer.proofs.Same.{eval_same, hides_bound, hides_nothing, hides_all, fields_below, fields_same}
use Rattle.gib_infer.proofs.Meanings.{Choice, choose_on, take_choice, listed, choice_for, AllArms, alts_grow, case_gives}
use Rattle.gib_check.proofs.Different.{place_within}

-- Constructors of a type.

different : (n k : ℕ) → (n == k) ≡ false → n ≡ k → ⊥
different n k f e = both_ways (n == k) f (eq-eqb n k e)

numbers_listed : (n count k : ℕ) → n ≤ k → k < n + count → listed (numbers_from n count) k ≡ true
numbers_listed n zero k le lt = absurd (omega arith)
numbers_listed n (suc count) k le lt = go (n == k) refl (λ le'. numbers_listed (suc n) count k le' (omega arith))
  where
    go : (b : Bool) → (n == k) ≡ b → (suc n ≤ k → listed (numbers_from (suc n) count) k ≡ true) → (if b then true else listed (numbers_from (suc n) count) k) ≡ true
    go true e more = refl
    go false e more = let ne = different n k e in more (omega (arith, ne))

-- A constructor with a name is one of the constructors of its type.
pub named_listed : (table : Table) (k c : ℕ) → IsTable table → constructor_named table k ≡ Some c → listed (constructors_of table (owner_at table c)) c ≡ true
named_listed table k c is e =
    let within : c < length table.rows = let lt = place_within (constructor_names table) k c e in let l = length-map table.rows (λ (r : Row). r.name) in omega arith in
    let among = (together table (owner_at table c) c is).0 (tag_there table c within) in
    numbers_listed (first_at table (owner_at table c)) (count_at table (owner_at table c)) c among.0 among.1

module _ (g : Globals) (call : Calls) (is : IsTable g.table) where
  -- what arguments and arms mean, each by itself
  abbrev pub evals : Arguments → List (Environment → Outcome)
  evals NoArgument = []
  evals (Argument e xs) = eval g.table call e ∷ evals xs

  evals_each : (xs : Arguments) (env : Environment) → each_of (evals xs) env ≡ eval_all g.table call xs env
  evals_each NoArgument env = refl
  evals_each (Argument e xs) env = ap (λ os. eval g.table call e env ∷ os) (evals_each xs env)

  evals_count : (xs : Arguments) (scope : typing.Scope) (types : List Ty) → HaveAll g scope xs types → length (evals xs) ≡ length types
  evals_count NoArgument scope [] h = refl
  evals_count NoArgument scope (t ∷ types) h = absurd h
  evals_count (Argument e xs) scope [] h = absurd h
  evals_count (Argument e xs) scope (t ∷ types) h = ap suc (evals_count xs scope types h.1)

  abbrev pub choices : Arms → List Choice
  choices (LastArm k xs e) = record { con = con_named g k; names = xs; body = eval g.table call e } ∷ []
  choices (NextArm k xs e arms) = record { con = con_named g k; names = xs; body = eval g.table call e } ∷ choices arms

  -- each arm's constructor is declared, of one type
  abbrev Declared : ℕ → Ident → Type 0
  Declared ty k = (constructor_named g.table (number_of k) ≡ Some (con_named g k)) × (owner_at g.table (con_named g k) ≡ ty)

  abbrev AllDeclared : ℕ → Arms → Type 0
  AllDeclared ty (LastArm k xs e) = Declared ty k
  AllDeclared ty (NextArm k xs e arms) = Declared ty k × AllDeclared ty arms

  declared_here : (ty : ℕ) (k : Ident) → (c : ℕ) × (constructor_named g.table (number_of k) ≡ Some c) × (owner_at g.table c ≡ ty) → Declared ty k
  declared_here ty k h =
      let named : con_named g k ≡ h.0 = ap con_or h.1 in
      (h.1 ∙ ap Some (sym named), ap (owner_at g.table) named ∙ h.2)

  all_declared : (ty : ℕ) (arms : Arms) → AllByRecursion (λ k. (c : ℕ) × (constructor_named g.table k ≡ Some c) × (owner_at g.table c ≡ ty)) (arm_names arms) → AllDeclared ty arms
  all_declared ty (LastArm k xs e) h = declared_here ty k h.0
  all_declared ty (NextArm k xs e arms) h = (declared_here ty k h.0, all_declared ty arms h.1)

  -- the source's case, by constructors
  scalar_arms : (arms : Arms) (v : Datum) (env : Environment) → ((k : ℕ) → is_made_by (Some k) v ≡ false) → eval_arms g.table call arms v env ≡ Gives (whole (pos 0))
  scalar_arms (LastArm k xs e) v env h =
      ap (λ b. choose b (eval g.table call e (bind xs (parts v) env)) (Gives (whole (pos 0)))) (not_made (constructor_named g.table (number_of k)) v h)
  scalar_arms (NextArm k xs e arms) v env h =
      ap (λ b. choose b (eval g.table call e (bind xs (parts v) env)) (eval_arms g.table call arms v env)) (not_made (constructor_named g.table (number_of k)) v h)
      ∙ scalar_arms arms v env h

  made_arms : (ty : ℕ) (arms : Arms) (k : ℕ) (vs : Data) (env : Environment) → AllDeclared ty arms → eval_arms g.table call arms (con k vs) env ≡ take_choice (choices arms) k (list_of vs) env
  made_arms ty (LastArm j xs e) k vs env h =
      ap (λ o. choose (is_made_by o (con k vs)) (eval g.table call e (bind xs (list_of vs) env)) (Gives (whole (pos 0)))) h.0
  made_arms ty (NextArm j xs e arms) k vs env h =
      ap (λ o. choose (is_made_by o (con k vs)) (eval g.table call e (bind xs (list_of vs) env)) (eval_arms g.table call arms (con k vs) env)) h.0.0
      ∙ ap (λ z. choose (con_named g j == k) (eval g.table call e (bind xs (list_of vs) env)) z) (made_arms ty arms k vs env h.1)

  arms_chosen : (ty : ℕ) (arms : Arms) (v : Datum) (env : Environment) → AllDeclared ty arms → choose_on v (choices arms) env ≡ eval_arms g.table call arms v env
  arms_chosen ty arms (whole z) env h = sym (scalar_arms arms (whole z) env (λ k. refl))
  arms_chosen ty arms (truth b) env h = sym (scalar_arms arms (truth b) env (λ k. refl))
  arms_chosen ty arms (con k vs) env h = sym (made_arms ty arms k vs env h)

  chosen_step : (j k : ℕ) (b c : Choice) (t : Bool) (rest : Option Choice) (ok : Bool) → ((t ≡ true) → ok ≡ true) → (rest ≡ Some b → ok ≡ true) → (if t then Some c else rest) ≡ Some b → ok ≡ true
  chosen_step j k b c true rest ok here more e = here refl
  chosen_step j k b c false rest ok here more e = more e

  own_listed : (ty : ℕ) (k : Ident) → Declared ty k → listed (constructors_of g.table ty) (con_named g k) ≡ true
  own_listed ty k h = subst (λ (t : ℕ). listed (constructors_of g.table t) (con_named g k) ≡ true) h.1 (named_listed g.table (number_of k) (con_named g k) is h.0)

  choices_listed : (ty : ℕ) (arms : Arms) → AllDeclared ty arms → (k : ℕ) (b : Choice) → choice_for g.table call (choices arms) k ≡ Some b → listed (constructors_of g.table ty) k ≡ true
  choices_listed ty (LastArm j xs e) h k b f =
      chosen_step (con_named g j) k b (record { con = con_named g j; names = xs; body = eval g.table call e }) (con_named g j == k) None (listed (constructors_of g.table ty) k)
      (λ q. subst (λ (z : ℕ). listed (constructors_of g.table ty) z ≡ true) (eqb-true (con_named g j) k q) (own_listed ty j h)) (λ q. absurd cc) f
  choices_listed ty (NextArm j xs e arms) h k b f =
      chosen_step (con_named g j) k b (record { con = con_named g j; names = xs; body = eval g.table call e }) (con_named g j == k) (choice_for g.table call (choices arms) k) (listed (constructors_of g.table ty) k)
      (λ q. subst (λ (z : ℕ). listed (constructors_of g.table ty) z ≡ true) (eqb-true (con_named g j) k q) (own_listed ty j h.0)) (choices_listed ty arms h.1 k b) f

  first_owner : (ty : ℕ) (arms : Arms) → AllDeclared ty arms → owner_at g.table (first_constructor (infer_arms g arms)) ≡ ty
  first_owner ty (LastArm k xs e) h = h.1
  first_owner ty (NextArm k xs e arms) h = h.0.1

  case_good : (ty : ℕ) (x : Ident) (arms : Arms) (sc : Scope) → AllDeclared ty arms → AllArms g.table call sc (infer_arms g arms) (choices arms) → (n : ℕ) (env : Environment) → AllBelow n sc
      → Lines g.table call n (case_line g.table x (infer_arms g arms) sc n) env (eval_arms g.table call arms (value_in (env_of sc env) (number_of x)) (env_of sc env))
  case_good ty x arms sc d h n env b =
      let as' = infer_arms g arms in
      let bs = choices arms in
      let ks = constructors_of g.table (owner_at g.table (first_constructor as')) in
      let own = first_owner ty arms d in
      let has : (k : ℕ) (c : Choice) → choice_for g.table call bs k ≡ Some c → listed ks k ≡ true =
      λ k c e. subst (λ (t : ℕ). listed (constructors_of g.table t) k ≡ true) (sym own) (choices_listed ty arms d k c e) in
      record {
        grows = alts_grow g.table call ks as' bs sc n h b;
        gives =
            case_gives g.table call ks as' bs sc n env (value env (atom_at sc (number_of x))) h has b
            ∙ ap (λ v. choose_on v bs (env_of sc env)) (sym (value_in-env_of sc env (number_of x)))
            ∙ arms_chosen ty arms (value_in (env_of sc env) (number_of x)) (env_of sc env) d;
      }

  good_as : (c : Code) (f h : Environment → Outcome) (sc : Scope) → ((env : Environment) → f env ≡ h env) → Good g.table call c f sc → Good g.table call c h sc
  good_as c f h sc e good = subst (λ (k : Environment → Outcome). Good g.table call c k sc) (λ i env. e env i) good

  mutual
    pub good : (e : Expression) (known : typing.Scope) (given : Results Ty) (sc : Scope) → Has g known e given → Hides known sc → Good g.table call (infer g e) (eval g.table call e) sc
    good (Var x) known given sc h hides =
        plain_good g.table call (λ sc. type_at sc (number_of x)) (λ sc. atom_at sc (number_of x)) (λ env. Gives (value_in env (number_of x))) sc (λ n b. at_below n sc (number_of x) b) (λ env. ap Gives (sym (value_in-env_of sc env (number_of x))))
    good (Num p m) known given sc h hides = plain_good g.table call (λ sc. Whole) (λ sc. atomic.Whole (pos m)) (λ env. Gives (whole (pos m))) sc (λ n b. tt) (λ env. refl)
    good (Bit p b) known given sc h hides = plain_good g.table call (λ sc. Truth) (λ sc. atomic.Truth b) (λ env. Gives (truth b)) sc (λ n b. tt) (λ env. refl)
    good (Paren p e) known given sc h hides = good e known given sc h hides
    good (Op p f d e) known given sc h hides =
        atom_good g.table call (operation_atom f (infer g d).atom (infer g e).atom) (eval g.table call (Op p f d e)) sc
        (operation_good g.table call f (infer g d).atom (infer g e).atom (eval g.table call d) (eval g.table call e) sc (good d known (results.One Whole) sc h.1 hides).atom (good e known (results.One Whole) sc h.2 hides).atom)
    good (Call f xs) known given sc h hides =
        good_as (infer g (Call f xs)) (λ env. with_all (gather (each_of (evals xs) env)) (call (number_of f))) (eval g.table call (Call f xs)) sc
        (λ env. sym (values_all (each_of (evals xs) env) (call (number_of f))) ∙ ap (λ os. with_values os (call (number_of f))) (evals_each xs env))
        (call_good g.table call (gives_type g.table (function_named g.functions (number_of f))) f.name (infer_all g xs) (evals xs) sc (all_good xs known (parameter_types g.table h.0) sc h.3 hides))
    good (Make k xs) known given sc h hides =
        let c = con_named g k in
        let named : c ≡ h.0 = ap con_or h.1 in
        let is_named : Some c ≡ constructor_named g.table (number_of k) = ap Some named ∙ sym h.1 in
        let types : HaveAll g known xs (fields_at g.table c) = subst (λ (z : ℕ). HaveAll g known xs (fields_at g.table z)) (sym named) h.3 in
        let line = make_line g.table (record { 0 = c }) (infer_all g xs) in
        good_as (infer g (Make k xs)) (λ env. made g.table (Some c) (each_of (evals xs) env)) (eval g.table call (Make k xs)) sc
        (λ env i. made g.table (is_named i) (evals_each xs env i))
        (line_good g.table call line (λ env. made g.table (Some c) (each_of (evals xs) env)) sc
        (make_good g.table call (record { 0 = c }) (infer_all g xs) (evals xs) sc (evals_count xs known (fields_at g.table c) types) (all_good xs known (fields_at g.table c) sc types hides)))
    good (Let p x d e) known given sc h hides =
        line_good g.table call (let_line x (infer g d).bound (infer g e).line) (eval g.table call (Let p x d e)) sc
        (let_good g.table call x (infer g d).bound (infer g e).line (eval g.table call d) (eval g.table call e) sc (good d known (results.One h.0) sc h.1 hides).bound
        (λ at t. (good e (typing.bound x h.0 known) given (slot x at t ∷ sc) h.3 (hides_bound known sc x h.0 at t hides)).line))
    good (Par p x d y e f) known given sc h hides =
        let xs : List Ident = x ∷ [] in
        let ys : List Ident = y ∷ [] in
        let middle = typing.bound x h.0 known in
        let inner = typing.bound y h.1 middle in
        line_good g.table call (sides_line xs (h.0 ∷ []) (infer g d) ys (h.1 ∷ []) (infer g e) (infer g f).line) (eval g.table call (Par p x d y e f)) sc
        (sides_line_good g.table call known middle inner xs (h.0 ∷ []) (infer g d) ys (h.1 ∷ []) (infer g e) (infer g f).line (eval g.table call d) (eval g.table call e) (eval g.table call f) sc
        (h.4, refl) (h.5, refl) hides (good d known (results.One h.0) sc h.2 hides) (good e known (results.One h.1) sc h.3 hides)
        (record { same = λ env other s. eval_same g.table call f env other s; lines = λ sc' hides'. (good f inner given sc' h.6 hides').line }))
    good (If p c d e) known given sc h hides =
        line_good g.table call (if_line (infer g c).atom (infer g d).line (infer g e).line) (eval g.table call (If p c d e)) sc
        (if_good g.table call (infer g c).atom (infer g d).line (infer g e).line (eval g.table call c) (eval g.table call d) (eval g.table call e) sc
        (good c known (results.One Truth) sc h.0 hides).atom (good d known given sc h.1 hides).line (good e known given sc h.2 hides).line)
    good (Case p x arms) known given sc h hides =
        line_good g.table call (case_line g.table x (infer_arms g arms)) (eval g.table call (Case p x arms)) sc
        (case_good h.0.0 x arms sc (all_declared h.0.0 arms h.2.own) (arms_good arms known given sc h.3 hides))
    good (source.Tuple p as' xs) known given sc h hides =
        let types = map (type_of_name g.table.types) as' in
        let means : Environment → Outcome = λ env. by_fields types (each_of (evals xs) env) (λ vs. Gives (tuple vs)) in
        good_as (infer g (source.Tuple p as' xs)) means (eval g.table call (source.Tuple p as' xs)) sc (λ env. ap (λ os. by_fields types os (λ vs. Gives (tuple vs))) (evals_each xs env))
        (line_good g.table call (tuple_line types (infer_all g xs)) means sc
        (tuple_good g.table call types (infer_all g xs) (evals xs) sc (evals_count xs known types h.2) (all_good xs known types sc h.2 hides)))
    good (LetSeveral p qs d f) known given sc h hides =
        let types = types_of g.table.types qs in
        line_good g.table call (several_line (names_of qs) types (infer g d) (infer g f).line) (eval g.table call (LetSeveral p qs d f)) sc
        (several_line_good g.table call known h.0 (names_of qs) types (infer g d) (infer g f).line (eval g.table call d) (eval g.table call f) sc h.3 hides (good d known (as_results types) sc h.2 hides)
        (record { same = λ env other s. eval_same g.table call f env other s; lines = λ sc' hides'. (good f h.0 given sc' h.4 hides').line }))
    good (ParSeveral p qs d rs e f) known given sc h hides =
        let types = types_of g.table.types qs in
        let other = types_of g.table.types rs in
        line_good g.table call (sides_line (names_of qs) types (infer g d) (names_of rs) other (infer g e) (infer g f).line) (eval g.table call (ParSeveral p qs d rs e f)) sc
        (sides_line_good g.table call known h.0 h.1 (names_of qs) types (infer g d) (names_of rs) other (infer g e) (infer g f).line (eval g.table call d) (eval g.table call e) (eval g.table call f) sc
        h.6 h.7 hides (good d known (as_results types) sc h.4 hides) (good e known (as_results other) sc h.5 hides)
        (record { same = λ env other s. eval_same g.table call f env other s; lines = λ sc' hides'. (good f h.1 given sc' h.8 hides').line }))

    pub all_good : (xs : Arguments) (known : typing.Scope) (types : List Ty) (sc : Scope) → HaveAll g known xs types → Hides known sc → AllGood g.table call (infer_all g xs) (evals xs) sc
    all_good NoArgument known types sc h hides = tt
    all_good (Argument e xs) known [] sc h hides = absurd h
    all_good (Argument e xs) known (t ∷ types) sc h hides = (good e known (results.One t) sc h.0 hides, all_good xs known types sc h.1 hides)

    pub arms_good : (arms : Arms) (known : typing.Scope) (given : Results Ty) (sc : Scope) → HaveArms g known arms given → Hides known sc → AllArms g.table call sc (infer_arms g arms) (choices arms)
    arms_good (LastArm k xs e) known given sc h hides = (
      record {
        con = refl;
        code = λ types n. good e h.1 given (with_fields xs types n sc) h.4 (hides_all xs (fields_at g.table h.0) known h.1 sc h.3 hides types n);
        fields = λ types n vs env below. fields_same xs (fields_at g.table h.0) known h.1 sc h.3 hides types n vs env below;
        same = λ env other s. eval_same g.table call e env other s;
      },
      tt,
    )
    arms_good (NextArm k xs e arms) known given sc h hides = (
      record {
        con = refl;
        code = λ types n. good e h.0.1 given (with_fields xs types n sc) h.0.4 (hides_all xs (fields_at g.table h.0.0) known h.0.1 sc h.0.3 hides types n);
        fields = λ types n vs env below. fields_same xs (fields_at g.table h.0.0) known h.0.1 sc h.0.3 hides types n vs env below;
        same = λ env other s. eval_same g.table call e env other s;
      },
      arms_good arms known given sc h.1 hides,
    )

  -- A body, with values for its parameters.
  pub body_means : (names : List Ident) (types : List Ty) (scope : typing.Scope) (e : Expression) (given : Results Ty) (vs : List Datum) → BindsAll [] names types scope → Has g scope e given
      → mean g.table call (infer_body g names types e) (core.bind (variables_from 0 names) vs []) ≡ eval g.table call e (bind names vs [])
  body_means names types scope e given vs binds h =
      let sc = with_fields names types 0 [] in
      let env = core.bind (variables_from 0 names) vs [] in
      let below : AllBelow (length names) sc = fields_below 0 (length names) names types [] (omega arith) tt in
      ((good e scope given sc h (hides_all names types [] scope [] binds (hides_nothing []) types 0)).line (length names) env below).gives
      ∙ eval_same g.table call e (env_of sc env) (bind names vs []) (fields_same names types [] scope [] binds (hides_nothing []) types 0 vs [] tt)

-- Calls.

function_at-infer : (g : Globals) (fs : List FunctionTree) (f : ℕ) (go : FunctionTree → Outcome) (go' : FunctionTerm → Outcome)
    → ((h : FunctionTree) → function_named fs f ≡ Some h → go' (infer_function g h) ≡ go h)
    → core.of_function (function_at (map (infer_function g) fs) f) go' ≡ of_function (function_named fs f) go
function_at-infer g [] f go go' h = refl
function_at-infer g (k ∷ fs) f go go' h = step (number_of k.name == f) (function_at-infer g fs f go go') h
  where
    step : (b : Bool) → (((h : FunctionTree) → function_named fs f ≡ Some h → go' (infer_function g h) ≡ go h) → core.of_function (function_at (map (infer_function g) fs) f) go' ≡ of_function (function_named fs f) go)
        → ((h : FunctionTree) → (if b then Some k else function_named fs f) ≡ Some h → go' (infer_function g h) ≡ go h)
        → core.of_function (if b then Some (infer_function g k) else function_at (map (infer_function g) fs) f) go' ≡ of_function (if b then Some k else function_named fs f) go
    step true more same = same k refl
    step false more same = more same

pub typed_function : (g : Globals) (fs : List FunctionTree) (f : ℕ) (h : FunctionTree) → AllByRecursion (IsTypedHere g) fs → function_named fs f ≡ Some h → IsTypedHere g h
typed_function g [] f h typed e = absurd cc
typed_function g (k ∷ fs) f h typed e = step (number_of k.name == f) (typed_function g fs f h typed.1) e
  where
    step : (b : Bool) → (function_named fs f ≡ Some h → IsTypedHere g h) → (if b then Some k else function_named fs f) ≡ Some h → IsTypedHere g h
    step true more e = subst (IsTypedHere g) (same_Some k h e) typed.0
    step false more e = more e

function_means : (g : Globals) (call : Calls) (is : IsTable g.table) (h : FunctionTree) (vs : List Datum) → IsTypedHere g h
    → mean g.table call (infer_function g h).body (core.bind (variables_from 0 (infer_function g h).parameters) vs []) ≡ eval g.table call h.body (bind (names_of h.parameters) vs [])
function_means g call is h vs typed =
    let names = names_of h.parameters in
    let types = parameter_types g.table h in
    let long : length types ≡ length names = length-map h.parameters (λ (q : Parameter). type_of_name g.table.types q.ty) ∙ sym (length-map h.parameters (λ (q : Parameter). q.name)) in
    ap (λ xs. mean g.table call (infer_body g names types h.body) (core.bind xs vs [])) (variables_same 0 types names long)
    ∙ body_means g call is names types typed.scope h.body (typing.result_types g.table h) vs typed.bound typed.typed

pub calls_same : (p : ProgramTree) → IsTable (table_of_program p) → IsTypedProgram p → (n : ℕ) → core_calls (infer_program p) n ≡ calls p n
calls_same p is typed zero = refl
calls_same p is typed (suc n) = λ i f vs. (
    ap (λ c. core.of_function (function_at (map (infer_function (globals_of p)) p.functions) f) (λ k. mean (table_of_program p) c k.body (core.bind (variables_from 0 k.parameters) vs []))) (calls_same p is typed n)
    ∙ function_at-infer (globals_of p) p.functions f
    (λ k. eval (table_of_program p) (calls p n) k.body (bind (names_of k.parameters) vs []))
    (λ k. mean (table_of_program p) (calls p n) k.body (core.bind (variables_from 0 k.parameters) vs []))
    (λ h e. function_means (globals_of p) (calls p n) is h vs (typed_function (globals_of p) p.functions f h typed.functions e))) i

pub run_same : (p : ProgramTree) → IsTable (table_of_program p) → IsTypedProgram p → (depth : ℕ) (v : Datum) → core_run (infer_program p) depth v ≡ run p depth v
run_same p is typed depth v =
    let g = globals_of p in
    let parameter = type_of_name g.table.types p.main.parameter.ty in
    let names = p.main.parameter.name ∷ [] in
    ap (λ c. mean g.table c (infer_body g names (parameter ∷ []) p.main.body) ((0, v) ∷ [])) (calls_same p is typed depth)
    ∙ body_means g (calls p depth) is names (parameter ∷ []) typed.main.scope p.main.body (results.One (type_of_name g.table.types p.main.result)) (v ∷ []) typed.main.bound typed.main.typed
