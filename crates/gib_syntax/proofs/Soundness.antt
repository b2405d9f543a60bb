-- A typed program gives a value of the type of its result.
use Rattle.std.proofs.Common.{◌≡◌, ℕ, zero, suc, ℤ, pos, Bool, true, false, ◌==◌, if◌then◌else◌, List, [], ◌∷◌, ◌++◌, map, Option, Some, None, refl, sym, ap, ◌∙◌, subst}
use Rattle.std.specs.Prelude.{slice_get, int_div, FitsSigned}
use Rattle.std.specs.Option.{option_map}
use Rattle.std.specs.Int.{w64, cast_unsigned}
use Rattle.std.specs.List.{AllByRecursion}
use Rattle.std.proofs.lemmas.Option.{same_Some, slice_get-map}
use Rattle.std.proofs.lemmas.Bool.{eqb-true, eq-eqb}
use Rattle.std.proofs.lemmas.Int.{wrapping_add_is, wrapping_sub_is, wrapping_mul_is, SFits-int_wrap, fits_signed_from_abs}
use Rattle.std.specs.Prelude.{◌+ℤ◌, ◌-ℤ◌, ◌*ℤ◌}
use lib.Signed.{mag_rem}
use mir.ValLaws.{sfits_le}
use borrow.Author.Gap.{read_sfits}
use Rattle.gib_base.specs.declared.Span.{Span}
use Rattle.gib_types.specs.declared.table.Ty.{Ty}
use Rattle.gib_types.specs.declared.table.Ty.TheVariants.{Whole, Truth, Tree}
use Rattle.gib_types.specs.declared.table.TyId.{TyId}
use Rattle.gib_types.specs.Table.{Row, Table, con_at, if_owned, owner_of, owner_at, name_of, name_at, fields_at}
use Rattle.gib_types.specs.Tree.{Datum, whole, truth, con, Data, none, more, data_of, list_of, HasType, HaveTypes}
use Rattle.gib_syntax.specs.declared.tree.Ident.{Ident}
use Rattle.gib_syntax.specs.declared.tree.Parameter.{Parameter}
use Rattle.gib_syntax.specs.declared.tree.TypeName.{TypeName}
use Rattle.gib_types.specs.declared.operator.Operator.{Operator}
use Rattle.gib_types.specs.declared.operator.Operator.TheVariants as o
use Rattle.gib_syntax.specs.Tree.{Expression, Arguments, Arms, Var, Num, Bit, Paren, Op, Call, Make, Let, Par, If, Case, Tuple, LetSeveral, ParSeveral, NoArgument, Argument, LastArm, NextArm, FunctionTree, ProgramTree}
use Rattle.gib_syntax.specs.Results.{Results, One, Several, map_results, as_results}
use Rattle.gib_syntax.specs.Fine.{IsFine, AreFine, AreParts, HasFine, IsFineFunction, IsFineProgram}
use Rattle.gib_syntax.specs.Declarations.{number_of, place_of, next_place, AreDifferent, type_of_name, constructor_names, constructor_named, function_named, table_of_program, input_type, output_type}
use Rattle.gib_syntax.specs.Typing.{Globals, globals_of, Scope, type_in, bound, BindsAll, names_of, types_of, parameter_types, result_types, arm_names, Has, HaveAll, HaveArms, IsTypedFunction, IsTypedHere, IsTypedProgram}
use Rattle.gib_types.specs.Operators.{operator_type}
use Rattle.gib_syntax.specs.Meaning.{Outcome, Gives, Stops, Environment, value_in, bind, bind_results, tuple, with_value, with_values, with_fields, at_fields, number_in, is_true, is_made_by, parts, operate, is_by_zero, outcome_unless, made, choose, eval, eval_all, eval_arms, calls, run, HasResults, OutcomeGives, OutcomeHas}

-- Places of names

within_step : (y : ℕ) (ys : List ℕ) (x i : ℕ) (b : Bool) (p : Option ℕ) → (b ≡ true → y ≡ x) → ((j : ℕ) → p ≡ Some j → slice_get ys j ≡ Some x) → (if b then Some 0 else next_place p) ≡ Some i → slice_get (y ∷ ys) i ≡ Some x
within_step y ys x i true p is rec e = subst (λ n. slice_get (y ∷ ys) n ≡ Some x) (same_Some 0 i e) (ap Some (is refl))
within_step y ys x i false None is rec e = absurd cc
within_step y ys x i false (Some j) is rec e = subst (λ n. slice_get (y ∷ ys) n ≡ Some x) (same_Some (suc j) i e) (rec j refl)

pub place_within : (xs : List ℕ) (x i : ℕ) → place_of xs x ≡ Some i → slice_get xs i ≡ Some x
place_within [] x i e = absurd cc
place_within (y ∷ ys) x i e = within_step y ys x i (y == x) (place_of ys x) (eqb-true y x) (λ j h. place_within ys x j h) e

none_or : (p : Option ℕ) (i : ℕ) → p ≡ None → p ≡ Some i → ⊥
none_or None i e f = cc
none_or (Some j) i e f = cc

different_step : (y : ℕ) (ys : List ℕ) (x i : ℕ) (b : Bool) → (b ≡ true → y ≡ x) → place_of ys y ≡ None → place_of ys x ≡ Some i → (if b then Some 0 else next_place (place_of ys x)) ≡ Some (suc i)
different_step y ys x i true is out e = absurd (none_or (place_of ys x) i (subst (λ n. place_of ys n ≡ None) (is refl) out) e)
different_step y ys x i false is out e = ap next_place e

-- a name that stands at a place is found there, where no name stands twice
pub place_found : (xs : List ℕ) (x i : ℕ) → AreDifferent xs → slice_get xs i ≡ Some x → place_of xs x ≡ Some i
place_found [] x i d e = absurd cc
place_found (y ∷ ys) x zero d e = rw (eq-eqb y x (same_Some y x e)) refl
place_found (y ∷ ys) x (suc i) d e = different_step y ys x i (y == x) (eqb-true y x) d.0 (place_found ys x i d.1 e)

own_con : (r : Option Row) (c x : ℕ) → option_map (λ (row : Row). row.name) r ≡ Some x → if_owned (owner_of r) c r ≡ Some c
own_con None c x e = absurd cc
own_con (Some row) c x e = rw (eq-eqb row.owner row.owner refl) refl

-- a constructor that is named belongs to its own type
pub con_here : (table : Table) (c x : ℕ) → constructor_named table x ≡ Some c → con_at table (owner_at table c) c ≡ Some c
con_here table c x e =
    own_con (slice_get table.rows c) c x (sym (slice_get-map (λ (row : Row). row.name) table.rows c) ∙ place_within (constructor_names table) x c e)

named_row : (r : Option Row) (ty c : ℕ) → if_owned ty c r ≡ Some c → option_map (λ (row : Row). row.name) r ≡ Some (name_of r)
named_row None ty c e = absurd cc
named_row (Some row) ty c e = refl

-- the constructor of a type is found by its name
pub con_found : (table : Table) (ty c : ℕ) → AreDifferent (constructor_names table) → con_at table ty c ≡ Some c → constructor_named table (name_at table c) ≡ Some c
con_found table ty c d e =
    place_found (constructor_names table) (name_at table c) c d
    (slice_get-map (λ (row : Row). row.name) table.rows c ∙ named_row (slice_get table.rows c) ty c e)

-- Environments

abbrev pub Agrees : Table → Scope → Environment → Type 0
Agrees table scope env = (x : ℕ) (t : Ty) → type_in scope x ≡ Some t → HasType table (value_in env x) t

agrees_step : (table : Table) (b : Bool) (s t : Ty) (v w : Datum) (rest : Option Ty) → HasType table v s → (rest ≡ Some t → HasType table w t) → (if b then Some s else rest) ≡ Some t → HasType table (if b then v else w) t
agrees_step table true s t v w rest h k e = subst (HasType table v) (same_Some s t e) h
agrees_step table false s t v w rest h k e = k e

pub agrees_bound : (table : Table) (scope : Scope) (env : Environment) (x : ℕ) (s : Ty) (v : Datum) → HasType table v s → Agrees table scope env → Agrees table ((x, s) ∷ scope) ((x, v) ∷ env)
agrees_bound table scope env x s v h agrees y t e = agrees_step table (x == y) s t v (value_in env y) (type_in scope y) h (agrees y t) e

pub binds_agree : (table : Table) (xs : List Ident) (ts : List Ty) (vs : List Datum) (scope inner : Scope) (env : Environment) → BindsAll scope xs ts inner → HaveTypes table (data_of vs) ts → Agrees table scope env → Agrees table inner (bind xs vs env)
binds_agree table [] [] vs scope inner env b h agrees = subst (λ (s : Scope). Agrees table s env) (sym b) agrees
binds_agree table [] (t ∷ ts) vs scope inner env b h agrees = absurd b
binds_agree table (x ∷ xs) [] vs scope inner env b h agrees = absurd b
binds_agree table (x ∷ xs) (t ∷ ts) [] scope inner env b h agrees = absurd h
binds_agree table (x ∷ xs) (t ∷ ts) (v ∷ vs) scope inner env b h agrees =
    binds_agree table xs ts vs ((number_of x, t) ∷ scope) inner ((number_of x, v) ∷ env) b.1 h.1
    (agrees_bound table scope env (number_of x) t v h.0 agrees)

pub data_list : (ws : Data) → data_of (list_of ws) ≡ ws
data_list none = refl
data_list (more w ws) = ap (more w) (data_list ws)

-- Outcomes

abbrev pub AllHave : Table → List Ty → List Outcome → Type 0
AllHave table [] [] = Unit {0}
AllHave table [] (r ∷ rs) = ⊥
AllHave table (t ∷ ts) [] = ⊥
AllHave table (t ∷ ts) (r ∷ rs) = OutcomeHas table t r × AllHave table ts rs

pub with_value_has : (table : Table) (s t : Results Ty) (r : Outcome) (go : Datum → Outcome) → OutcomeGives table s r → ((v : Datum) → HasResults table v s → OutcomeGives table t (go v)) → OutcomeGives table t (with_value r go)
with_value_has table s t (Gives v) go h k = k v h
with_value_has table s t (Stops why) go h k = tt {0}

pub with_values_has : (table : Table) (ts : List Ty) (ty : Results Ty) (rs : List Outcome) (go : List Datum → Outcome) → AllHave table ts rs → ((vs : List Datum) → HaveTypes table (data_of vs) ts → OutcomeGives table ty (go vs)) → OutcomeGives table ty (with_values rs go)
with_values_has table [] ty [] go h k = k [] (tt {0})
with_values_has table [] ty (r ∷ rs) go h k = absurd h
with_values_has table (t ∷ ts) ty [] go h k = absurd h
with_values_has table (t ∷ ts) ty (Stops why ∷ rs) go h k = tt {0}
with_values_has table (t ∷ ts) ty (Gives v ∷ rs) go h k = with_values_has table ts ty rs (λ vs. go (v ∷ vs)) h.1 (λ vs hs. k (v ∷ vs) (h.0, hs))

with_values_any : (table : Table) (ty : Results Ty) (rs : List Outcome) (go : List Datum → Outcome) → ((vs : List Datum) → OutcomeGives table ty (go vs)) → OutcomeGives table ty (with_values rs go)
with_values_any table ty [] go k = k []
with_values_any table ty (Stops why ∷ rs) go k = tt {0}
with_values_any table ty (Gives v ∷ rs) go k = with_values_any table ty rs (λ vs. go (v ∷ vs)) (λ vs. k (v ∷ vs))

pub with_fields_has : (table : Table) (ts : List Ty) (ty : Results Ty) (rs : List Outcome) (go : List Datum → Outcome) → AllHave table ts rs → ((vs : List Datum) → HaveTypes table (data_of vs) ts → OutcomeGives table ty (go vs)) → OutcomeGives table ty (with_fields ts rs go)
with_fields_has table ts ty rs go h k =
    with_values_any table ty (at_fields true ts rs ++ at_fields false ts rs) (λ _. with_values rs go) (λ _. with_values_has table ts ty rs go h k)

pub made_has : (table : Table) (found : Option ℕ) (c x : ℕ) (rs : List Outcome) → constructor_named table x ≡ Some c → found ≡ Some c → AllHave table (fields_at table c) rs → OutcomeHas table (Tree (record { 0 = owner_at table c })) (made table found rs)
made_has table None c x rs known e h = absurd cc
made_has table (Some d) c x rs known e h =
    let is : c ≡ d = sym (same_Some d c e) in
    subst (λ (n : ℕ). OutcomeHas table (Tree (record { 0 = owner_at table c })) (made table (Some n) rs)) is
    (with_fields_has table (fields_at table c) (One (Tree (record { 0 = owner_at table c }))) rs (λ vs. Gives (con c (data_of vs))) h
    (λ vs hs. (con_here table c x known, hs)))

pub choose_has : (table : Table) (ty : Results Ty) (b : Bool) (r s : Outcome) → (b ≡ true → OutcomeGives table ty r) → (b ≡ false → OutcomeGives table ty s) → OutcomeGives table ty (choose b r s)
choose_has table ty true r s h k = h refl
choose_has table ty false r s h k = k refl

pub operate_has : (table : Table) (f : Operator) (x y : ℤ) → FitsSigned w64 x → FitsSigned w64 y → HasType table (operate f x y) (operator_type f)
operate_has table o.Add x y h k = subst (FitsSigned w64) (sym (wrapping_add_is w64 x y h k)) (SFits-int_wrap w64 (x +ℤ y))
operate_has table o.Subtract x y h k = subst (FitsSigned w64) (sym (wrapping_sub_is w64 x y h k)) (SFits-int_wrap w64 (x -ℤ y))
operate_has table o.Multiply x y h k = subst (FitsSigned w64) (sym (wrapping_mul_is w64 x y h k)) (SFits-int_wrap w64 (x *ℤ y))
operate_has table o.Equal x y h k = tt {0}
operate_has table o.Less x y h k = tt {0}
operate_has table o.Quotient x y h k = read_sfits w64 (cast_unsigned w64 (int_div x y))
operate_has table o.Remainder x y h k = sfits_le (mag_rem x y) h

pub unless_has : (table : Table) (ty : Results Ty) (b : Bool) (v : Datum) → HasResults table v ty → OutcomeGives table ty (outcome_unless b v)
unless_has table ty true v h = tt {0}
unless_has table ty false v h = h

pub number_fits : (table : Table) (v : Datum) → HasType table v Whole → FitsSigned w64 (number_in v)
number_fits table (whole z) h = h
number_fits table (truth b) h = absurd h
number_fits table (con k vs) h = absurd h

-- Expressions

-- what a call gives is of the result's type, where its arguments are of the parameters' types
abbrev pub CallsHave : Globals → (ℕ → List Datum → Outcome) → Type 0
CallsHave g call = (f : ℕ) (h : FunctionTree) (vs : List Datum) → function_named g.functions f ≡ Some h → HaveTypes g.table (data_of vs) (parameter_types g.table h) → OutcomeGives g.table (result_types g.table h) (call f vs)

pub fine_arguments : (f : Ident) (xs : Arguments) → IsFine (Call f xs) → AreFine xs
fine_arguments f NoArgument h = absurd h
fine_arguments f (Argument a xs) h = h

pub fine_parts : (p : Span) (as' : List TypeName) (xs : Arguments) → IsFine (Tuple p as' xs) → AreParts xs
fine_parts p as' NoArgument h = absurd h
fine_parts p as' (Argument a NoArgument) h = absurd h
fine_parts p as' (Argument a (Argument b xs)) h = h

-- a value and its variables, or its parts and theirs
pub results_agree : (table : Table) (xs : List Ident) (ts : List Ty) (v : Datum) (scope inner : Scope) (env : Environment) → BindsAll scope xs ts inner → HasResults table v (as_results ts) → Agrees table scope env → Agrees table inner (bind_results xs v env)
results_agree table [] [] v scope inner env b h agrees = subst (λ (s : Scope). Agrees table s env) (sym b) agrees
results_agree table [] (t ∷ ts) v scope inner env b h agrees = absurd b
results_agree table (x ∷ xs) [] v scope inner env b h agrees = absurd b
results_agree table (x ∷ []) (t ∷ []) v scope inner env b h agrees =
    subst (λ (s : Scope). Agrees table s ((number_of x, v) ∷ env)) (sym b.1) (agrees_bound table scope env (number_of x) t v h agrees)
results_agree table (x ∷ []) (t ∷ u ∷ ts) v scope inner env b h agrees = absurd b.1
results_agree table (x ∷ y ∷ ys) (t ∷ []) v scope inner env b h agrees = absurd b.1
results_agree table (x ∷ y ∷ ys) (t ∷ u ∷ ts) v scope inner env b h agrees =
    subst (λ (w : Datum). Agrees table inner (bind (x ∷ y ∷ ys) (parts w) env)) (sym h.1)
    (binds_agree table (x ∷ y ∷ ys) (t ∷ u ∷ ts) (list_of h.0) scope inner env b (subst (λ (us : Data). HaveTypes table us (t ∷ u ∷ ts)) (sym (data_list h.0)) h.2) agrees)

pub made_by : (found : Option ℕ) (c k : ℕ) (ws : Data) → found ≡ Some c → is_made_by found (con k ws) ≡ true → c ≡ k
made_by None c k ws e h = absurd cc
made_by (Some d) c k ws e h = sym (same_Some d c e) ∙ eqb-true d k h

pub is_made : (found : Option ℕ) (k : ℕ) (ws : Data) → found ≡ Some k → is_made_by found (con k ws) ≡ true
is_made None k ws e = absurd cc
is_made (Some d) k ws e = eq-eqb d k (same_Some d k e)

true_or_false : (b : Bool) → b ≡ true → b ≡ false → ⊥
true_or_false true e f = cc
true_or_false false e f = cc

-- one arm, where the value was made by its constructor
pub arm_has : (g : Globals) (call : ℕ → List Datum → Outcome) (xs : List Ident) (e : Expression) (ty : Results Ty) (scope inner : Scope) (env : Environment) (c k : ℕ) (ws : Data) →
    ((inner : Scope) (env : Environment) → Agrees g.table inner env → Has g inner e ty → OutcomeGives g.table ty (eval g.table call e env)) →
    c ≡ k → BindsAll scope xs (fields_at g.table c) inner → Has g inner e ty → HaveTypes g.table ws (fields_at g.table k) → Agrees g.table scope env →
    OutcomeGives g.table ty (eval g.table call e (bind xs (list_of ws) env))
arm_has g call xs e ty scope inner env c k ws go is binds has typed agrees =
    go inner (bind xs (list_of ws) env)
    (binds_agree g.table xs (fields_at g.table k) (list_of ws) scope inner env
    (subst (λ (n : ℕ). BindsAll scope xs (fields_at g.table n) inner) is binds)
    (subst (λ (us : Data). HaveTypes g.table us (fields_at g.table k)) (sym (data_list ws)) typed)
    agrees)
    has

-- the arm of the value's constructor is this one, or stands behind it
last_arm_step : (named_by : ℕ → Option ℕ) (c name k : ℕ) (ws : Data) (i : ℕ) (b : Bool) → (b ≡ true → c ≡ name) → named_by name ≡ Some k → (if b then Some 0 else next_place None) ≡ Some i → is_made_by (named_by c) (con k ws) ≡ false → ⊥
last_arm_step named_by c name k ws i true is named there miss = true_or_false (is_made_by (named_by c) (con k ws)) (is_made (named_by c) k ws (ap named_by (is refl) ∙ named)) miss
last_arm_step named_by c name k ws i false is named there miss = absurd cc

next_arm_step : (named_by : ℕ → Option ℕ) (c name k : ℕ) (ws : Data) (i : ℕ) (p : Option ℕ) (b : Bool) → (b ≡ true → c ≡ name) → named_by name ≡ Some k → (if b then Some 0 else next_place p) ≡ Some i → is_made_by (named_by c) (con k ws) ≡ false → (j : ℕ) × (p ≡ Some j)
next_arm_step named_by c name k ws i p true is named there miss = absurd (true_or_false (is_made_by (named_by c) (con k ws)) (is_made (named_by c) k ws (ap named_by (is refl) ∙ named)) miss)
next_arm_step named_by c name k ws i None false is named there miss = absurd cc
next_arm_step named_by c name k ws i (Some j) false is named there miss = (j, refl)

-- a case on a value of a declared type is one on a constructor of that type
pub case_has : (g : Globals) (call : ℕ → List Datum → Outcome) (arms : Arms) (ty : Results Ty) (env : Environment) (v : Datum) (t : TyId) → HasType g.table v (Tree t) →
    ((k : ℕ) (ws : Data) → con_at g.table t.0 k ≡ Some k → HaveTypes g.table ws (fields_at g.table k) → OutcomeGives g.table ty (eval_arms g.table call arms (con k ws) env)) →
    OutcomeGives g.table ty (eval_arms g.table call arms v env)
case_has g call arms ty env (whole z) t typed go = absurd typed
case_has g call arms ty env (truth b) t typed go = absurd typed
case_has g call arms ty env (con k ws) t typed go = go k ws typed.0 typed.1

mutual
  pub eval_has : (g : Globals) (call : ℕ → List Datum → Outcome) (distinct : AreDifferent (constructor_names g.table)) (well : CallsHave g call) (e : Expression) (ty : Results Ty) (scope : Scope) (env : Environment) →
      IsFine e → Agrees g.table scope env → Has g scope e ty → OutcomeGives g.table ty (eval g.table call e env)
  eval_has g call distinct well (Var x) ty scope env fine agrees h = subst (HasResults g.table (value_in env (number_of x))) (sym h.1) (agrees (number_of x) h.0 h.2)
  eval_has g call distinct well (Num p n) ty scope env fine agrees h = subst (HasResults g.table (whole (pos n))) (sym h) (fits_signed_from_abs w64 (pos n) fine)
  eval_has g call distinct well (Bit p b) ty scope env fine agrees h = subst (HasResults g.table (truth b)) (sym h) (tt {0})
  eval_has g call distinct well (Paren p e) ty scope env fine agrees h = eval_has g call distinct well e ty scope env fine agrees h
  eval_has g call distinct well (Op p f a b) ty scope env fine agrees h =
      with_value_has g.table (One Whole) ty (eval g.table call a env) _ (eval_has g call distinct well a (One Whole) scope env fine.0 agrees h.1)
      (λ x hx. with_value_has g.table (One Whole) ty (eval g.table call b env) _ (eval_has g call distinct well b (One Whole) scope env fine.1 agrees h.2)
      (λ y hy. unless_has g.table ty (is_by_zero f (number_in y)) (operate f (number_in x) (number_in y))
      (subst (HasResults g.table (operate f (number_in x) (number_in y))) (sym h.0) (operate_has g.table f (number_in x) (number_in y) (number_fits g.table x hx) (number_fits g.table y hy)))))
  eval_has g call distinct well (Call f xs) ty scope env fine agrees h =
      with_values_has g.table (parameter_types g.table h.0) ty (eval_all g.table call xs env) (call (number_of f))
      (all_have g call distinct well xs (parameter_types g.table h.0) scope env (fine_arguments f xs fine) agrees h.3)
      (λ vs hs. subst (λ (t : Results Ty). OutcomeGives g.table t (call (number_of f) vs)) (sym h.2) (well (number_of f) h.0 vs h.1 hs))
  eval_has g call distinct well (Make k xs) ty scope env fine agrees h =
      subst (λ (t : Results Ty). OutcomeGives g.table t (made g.table (constructor_named g.table (number_of k)) (eval_all g.table call xs env))) (sym h.2)
      (made_has g.table (constructor_named g.table (number_of k)) h.0 (number_of k) (eval_all g.table call xs env) h.1 h.1
      (all_have g call distinct well xs (fields_at g.table h.0) scope env fine agrees h.3))
  eval_has g call distinct well (Let p x a b) ty scope env fine agrees h =
      with_value_has g.table (One h.0) ty (eval g.table call a env) _ (eval_has g call distinct well a (One h.0) scope env fine.0 agrees h.1)
      (λ v hv. eval_has g call distinct well b ty (bound x h.0 scope) ((number_of x, v) ∷ env) fine.1
      (agrees_bound g.table scope env (number_of x) h.0 v hv agrees) h.3)
  eval_has g call distinct well (Par p x a y b c) ty scope env fine agrees h =
      with_value_has g.table (One h.0) ty (eval g.table call a env) _ (eval_has g call distinct well a (One h.0) scope env fine.0 agrees h.2)
      (λ v hv. with_value_has g.table (One h.1) ty (eval g.table call b env) _ (eval_has g call distinct well b (One h.1) scope env fine.1 agrees h.3)
      (λ w hw. eval_has g call distinct well c ty (bound y h.1 (bound x h.0 scope)) ((number_of y, w) ∷ (number_of x, v) ∷ env) fine.2
      (agrees_bound g.table (bound x h.0 scope) ((number_of x, v) ∷ env) (number_of y) h.1 w hw (agrees_bound g.table scope env (number_of x) h.0 v hv agrees)) h.6))
  eval_has g call distinct well (If p a b c) ty scope env fine agrees h =
      with_value_has g.table (One Truth) ty (eval g.table call a env) _ (eval_has g call distinct well a (One Truth) scope env fine.0 agrees h.0)
      (λ v hv. choose_has g.table ty (is_true v) (eval g.table call b env) (eval g.table call c env)
      (λ _. eval_has g call distinct well b ty scope env fine.1 agrees h.1) (λ _. eval_has g call distinct well c ty scope env fine.2 agrees h.2))
  eval_has g call distinct well (Case p x arms) ty scope env fine agrees h =
      case_has g call arms ty env (value_in env (number_of x)) h.0 (agrees (number_of x) (Tree h.0) h.1)
      (λ k ws own typed.
      let there = h.2.each k own in
      arms_have g call distinct well arms ty scope env k ws there.0 (name_at g.table k) fine agrees typed (con_found g.table h.0.0 k distinct own) there.1 h.3)
  eval_has g call distinct well (Tuple p as' xs) ty scope env fine agrees h =
      subst (λ (t : Results Ty). OutcomeGives g.table t (eval g.table call (Tuple p as' xs) env)) (sym h.0)
      (with_fields_has g.table (map (type_of_name g.table.types) as') (Several (map (type_of_name g.table.types) as')) (eval_all g.table call xs env) (λ vs. Gives (tuple vs))
      (parts_have g call distinct well xs (map (type_of_name g.table.types) as') scope env (fine_parts p as' xs fine) agrees h.2) (λ vs hs. (data_of vs, refl, hs)))
  eval_has g call distinct well (LetSeveral p qs a b) ty scope env fine agrees h =
      with_value_has g.table (as_results (types_of g.table.types qs)) ty (eval g.table call a env) _ (eval_has g call distinct well a (as_results (types_of g.table.types qs)) scope env fine.1 agrees h.2)
      (λ v hv. eval_has g call distinct well b ty h.0 (bind_results (names_of qs) v env) fine.2
      (results_agree g.table (names_of qs) (types_of g.table.types qs) v scope h.0 env h.3 hv agrees) h.4)
  eval_has g call distinct well (ParSeveral p qs a rs b c) ty scope env fine agrees h =
      with_value_has g.table (as_results (types_of g.table.types qs)) ty (eval g.table call a env) _ (eval_has g call distinct well a (as_results (types_of g.table.types qs)) scope env fine.1 agrees h.4)
      (λ v hv. with_value_has g.table (as_results (types_of g.table.types rs)) ty (eval g.table call b env) _ (eval_has g call distinct well b (as_results (types_of g.table.types rs)) scope env fine.2 agrees h.5)
      (λ w hw. eval_has g call distinct well c ty h.1 (bind_results (names_of rs) w (bind_results (names_of qs) v env)) fine.3
      (results_agree g.table (names_of rs) (types_of g.table.types rs) w h.0 h.1 (bind_results (names_of qs) v env) h.7 hw
      (results_agree g.table (names_of qs) (types_of g.table.types qs) v scope h.0 env h.6 hv agrees)) h.8))

  pub arms_have : (g : Globals) (call : ℕ → List Datum → Outcome) (distinct : AreDifferent (constructor_names g.table)) (well : CallsHave g call) (arms : Arms) (ty : Results Ty) (scope : Scope) (env : Environment) (k : ℕ) (ws : Data) (i name : ℕ) →
      HasFine arms → Agrees g.table scope env → HaveTypes g.table ws (fields_at g.table k) → constructor_named g.table name ≡ Some k → place_of (arm_names arms) name ≡ Some i → HaveArms g scope arms ty →
      OutcomeGives g.table ty (eval_arms g.table call arms (con k ws) env)
  arms_have g call distinct well (LastArm c xs e) ty scope env k ws i name fine agrees typed named there h =
      choose_has g.table ty (is_made_by (constructor_named g.table (number_of c)) (con k ws)) _ _
      (λ hit. arm_has g call xs e ty scope h.1 env h.0 k ws (λ inner env agrees has. eval_has g call distinct well e ty inner env fine agrees has)
      (made_by (constructor_named g.table (number_of c)) h.0 k ws h.2 hit) h.3 h.4 typed agrees)
      (λ miss. absurd (last_arm_step (constructor_named g.table) (number_of c) name k ws i (number_of c == name) (eqb-true (number_of c) name) named there miss))
  arms_have g call distinct well (NextArm c xs e arms) ty scope env k ws i name fine agrees typed named there h =
      choose_has g.table ty (is_made_by (constructor_named g.table (number_of c)) (con k ws)) _ _
      (λ hit. arm_has g call xs e ty scope h.0.1 env h.0.0 k ws (λ inner env agrees has. eval_has g call distinct well e ty inner env fine.0 agrees has)
      (made_by (constructor_named g.table (number_of c)) h.0.0 k ws h.0.2 hit) h.0.3 h.0.4 typed agrees)
      (λ miss. let further = next_arm_step (constructor_named g.table) (number_of c) name k ws i (place_of (arm_names arms) name) (number_of c == name) (eqb-true (number_of c) name) named there miss in
      arms_have g call distinct well arms ty scope env k ws further.0 name fine.1 agrees typed named further.1 h.1)

  pub all_have : (g : Globals) (call : ℕ → List Datum → Outcome) (distinct : AreDifferent (constructor_names g.table)) (well : CallsHave g call) (xs : Arguments) (ts : List Ty) (scope : Scope) (env : Environment) →
      AreFine xs → Agrees g.table scope env → HaveAll g scope xs ts → AllHave g.table ts (eval_all g.table call xs env)
  all_have g call distinct well NoArgument [] scope env fine agrees h = tt {0}
  all_have g call distinct well NoArgument (t ∷ ts) scope env fine agrees h = absurd h
  all_have g call distinct well (Argument a xs) [] scope env fine agrees h = absurd h
  all_have g call distinct well (Argument a xs) (t ∷ ts) scope env fine agrees h =
      (eval_has g call distinct well a (One t) scope env fine.0 agrees h.0, all_have g call distinct well xs ts scope env fine.2 agrees h.1)

  pub parts_have : (g : Globals) (call : ℕ → List Datum → Outcome) (distinct : AreDifferent (constructor_names g.table)) (well : CallsHave g call) (xs : Arguments) (ts : List Ty) (scope : Scope) (env : Environment) →
      AreParts xs → Agrees g.table scope env → HaveAll g scope xs ts → AllHave g.table ts (eval_all g.table call xs env)
  parts_have g call distinct well NoArgument [] scope env fine agrees h = tt {0}
  parts_have g call distinct well NoArgument (t ∷ ts) scope env fine agrees h = absurd h
  parts_have g call distinct well (Argument a xs) [] scope env fine agrees h = absurd h
  parts_have g call distinct well (Argument a xs) (t ∷ ts) scope env fine agrees h =
      (eval_has g call distinct well a (One t) scope env fine.0 agrees h.0, parts_have g call distinct well xs ts scope env fine.1 agrees h.1)

-- Functions and programs

found_step : (P : FunctionTree → Type 0) (b : Bool) (f h : FunctionTree) (rest : Option FunctionTree) → P f → (rest ≡ Some h → P h) → (if b then Some f else rest) ≡ Some h → P h
found_step P true f h rest here go e = subst P (same_Some f h e) here
found_step P false f h rest here go e = go e

-- what holds of all functions holds of the one that is named
pub function_found : (P : FunctionTree → Type 0) (fs : List FunctionTree) (x : ℕ) (h : FunctionTree) → AllByRecursion P fs → function_named fs x ≡ Some h → P h
function_found P [] x h all e = absurd cc
function_found P (f ∷ fs) x h all e = found_step P (number_of f.name == x) f h (function_named fs x) all.0 (λ k. function_found P fs x h all.1 k) e

pub nothing_agrees : (table : Table) → Agrees table [] []
nothing_agrees table x t e = absurd cc

pub body_has : (g : Globals) (call : ℕ → List Datum → Outcome) → AreDifferent (constructor_names g.table) → CallsHave g call → (qs : List Parameter) (result : Results TypeName) (body : Expression) (vs : List Datum) →
    IsFine body → IsTypedFunction g qs result body → HaveTypes g.table (data_of vs) (map (λ (q : Parameter). type_of_name g.table.types q.ty) qs) →
    OutcomeGives g.table (map_results (type_of_name g.table.types) result) (eval g.table call body (bind (names_of qs) vs []))
body_has g call distinct well qs result body vs fine typed hs =
    eval_has g call distinct well body (map_results (type_of_name g.table.types) result) typed.scope (bind (names_of qs) vs []) fine
    (binds_agree g.table (names_of qs) (map (λ (q : Parameter). type_of_name g.table.types q.ty) qs) vs [] typed.scope [] typed.bound hs (nothing_agrees g.table))
    typed.typed

pub calls_have : (p : ProgramTree) → IsFineProgram p → IsTypedProgram p → (n : ℕ) → CallsHave (globals_of p) (calls p n)
calls_have p fine typed zero f h vs e hs = tt {0}
calls_have p fine typed (suc n) f h vs e hs =
    rw e
    (body_has (globals_of p) (calls p n) typed.constructors_differ (calls_have p fine typed n) h.parameters h.result h.body vs
    ((function_found IsFineFunction p.functions f h fine.functions e).1)
    (function_found (IsTypedHere (globals_of p)) p.functions f h typed.functions e)
    hs)

pub run_has : (p : ProgramTree) (depth : ℕ) (v : Datum) → IsFineProgram p → IsTypedProgram p → HasType (table_of_program p) v (input_type p) → OutcomeHas (table_of_program p) (output_type p) (run p depth v)
run_has p depth v fine typed h =
    body_has (globals_of p) (calls p depth) typed.constructors_differ (calls_have p fine typed depth) (p.main.parameter ∷ []) (One p.main.result) p.main.body (v ∷ [])
    fine.main typed.main (h, tt {0})
