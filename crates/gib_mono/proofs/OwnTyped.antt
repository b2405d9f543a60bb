-- A typed program without type parameters means what it means as one that may have some: what is a scalar is one in both.
use Rattle.std.proofs.Common.{◌≡◌, ℕ, zero, suc, pos, Bool, true, false, ◌==◌, if◌then◌else◌, List, [], ◌∷◌, ◌++◌, map, Option, Some, None, refl, sym, ap, ◌∙◌, subst}
use Rattle.std.specs.Prelude.{slice_get}
use Rattle.std.specs.List.{AllByRecursion}
use Rattle.std.proofs.lemmas.Option.{same_Some}
use Rattle.gib_types.specs.declared.table.Ty.{Ty}
use Rattle.gib_types.specs.declared.table.Ty.TheVariants.{Whole, Truth}
use Rattle.gib_types.specs.Table.{fields_at, is_scalar, at_fields}
use Rattle.gib_types.specs.Form.{form_or}
use Rattle.gib_types.specs.Tree.{Datum, whole}
use Rattle.gib_syntax.specs.declared.tree.Ident.{Ident}
use Rattle.gib_syntax.specs.declared.tree.TypeName.{TypeName}
use Rattle.gib_syntax.specs.declared.tree.Parameter.{Parameter}
use Rattle.gib_types.specs.declared.operator.Operator.{Operator}
use Rattle.gib_syntax.specs.Tree.{Expression, Arguments, Arms, Var, Num, Bit, Paren, Op, Call, Make, Let, Par, If, Case, Tuple, LetSeveral, ParSeveral, NoArgument, Argument, LastArm, NextArm, FunctionTree, ProgramTree}
use Rattle.gib_syntax.specs.Declarations.{number_of, type_names, type_of_name, table_of_program, constructor_named, function_named}
use Rattle.gib_syntax.specs.Results.{Results, One, Several, map_results, as_results, list_results}
use Rattle.gib_syntax.specs.Typing.{Globals, globals_of, Scope, IsNew, type_in, bound, BindsAll, names_of, types_of, parameter_types, result_types, HasKnownType, AreKnown, Has, HaveAll, HaveArms, IsTypedHere, IsTypedProgram}
use Rattle.gib_types.specs.Operators.{operator_type}
use Rattle.gib_syntax.specs.Meaning.{Outcome, Gives, Environment, value_in, bind, bind_results, tuple, with_values, with_fields, is_true, is_made_by, parts, choose, eval, eval_all, eval_arms, of_function, calls, means, run}
use Rattle.gib_syntax.specs.Forms.{Form, Forms, WholeForm, TruthForm, NoForm, Meant, formed, assign}
use Rattle.gib_syntax.specs.GenericTree.{GenericParameterTree, GenericFunctionTree, GenericRow, rows_of, globals_of_generic, place_named, generic_named}
use Rattle.gib_syntax.specs.GenericTyping.{FormScope, form_in, form_bound, operator_form}
use Rattle.gib_syntax.proofs.Operators.{either_scalar}
use Rattle.gib_syntax.specs.Inferred.{one_form, arguments_of, forms_at, forms_named, bind_forms, results_at, results_of, forms_of_all, results_of_arms, bound_forms}
use Rattle.gib_syntax.specs.Single.{IsSingle}
use Rattle.gib_syntax.specs.GenericMeaning.{kind_of, kinds_at, meant, meant_all, meant_arms, made_at, generic_names, parameter_scope, of_generic, calls_meant, means_generic, run_generic}
use Rattle.gib_syntax.specs.Plain.{written_of, as_generic, all_as_generic, arms_as_generic, generic_data, generic_parameter, generic_function, generic_of}
use Rattle.gib_mono.specs.Laws.{SameScalars}
use Rattle.gib_mono.proofs.OwnMeaning.{SameKinds, fields_same, kind_same, kinds_same, rows_same, place_same, made_same, value_goes, values_go, choice_same, SameCalls, same_meant, parameter_names}

-- What an expression gives has as many parts in both, and the same ones are scalars.
abbrev pub SameResults : Results Form → Results Ty → Type 0
SameResults (One f) (One t) = is_scalar (kind_of f) ≡ is_scalar t
SameResults (One f) (Several ts) = ⊥
SameResults (Several fs) (One t) = ⊥
SameResults (Several fs) (Several ts) = SameKinds (map kind_of fs) ts

one_same : (r : Results Form) (t : Ty) → SameResults r (One t) → is_scalar (kind_of (one_form r)) ≡ is_scalar t
one_same (One f) t h = h
one_same (Several fs) t h = absurd h

listed_same : (r : Results Form) (ts : List Ty) → SameResults r (as_results ts) → SameKinds (map kind_of (list_results r)) ts
listed_same (One f) [] h = absurd h
listed_same (One f) (t ∷ []) h = (h, tt {0})
listed_same (One f) (t ∷ u ∷ us) h = absurd h
listed_same (Several fs) [] h = h
listed_same (Several fs) (t ∷ []) h = absurd h
listed_same (Several fs) (t ∷ u ∷ us) h = h

-- Scopes

bound_same : (scope : Scope) (forms : FormScope) (x : Ident) (f : Form) (t : Ty) → SameScalars scope forms → is_scalar (kind_of f) ≡ is_scalar t → SameScalars (bound x t scope) (form_bound x f forms)
bound_same scope forms x f t h k y u e = step (number_of x == y) e where
  step : (b : Bool) → (if b then Some t else type_in scope y) ≡ Some u → is_scalar (kind_of (form_or (if b then Some f else form_in forms y))) ≡ is_scalar u
  step true e = subst (λ (w : Ty). is_scalar (kind_of f) ≡ is_scalar w) (same_Some t u e) k
  step false e = h y u e

binds_same : (xs : List Ident) (ts : List Ty) (fs : List Form) (scope inner : Scope) (forms : FormScope) → BindsAll scope xs ts inner → SameKinds (map kind_of fs) ts → SameScalars scope forms → SameScalars inner (bind_forms xs fs forms)
binds_same [] [] fs scope inner forms b k h = subst (λ (s : Scope). SameScalars s forms) (sym b) h
binds_same [] (t ∷ ts) fs scope inner forms b k h = absurd b
binds_same (x ∷ xs) [] fs scope inner forms b k h = absurd b
binds_same (x ∷ xs) (t ∷ ts) [] scope inner forms b k h = absurd k
binds_same (x ∷ xs) (t ∷ ts) (f ∷ fs) scope inner forms b k h = binds_same xs ts fs (bound x t scope) inner (form_bound x f forms) b.1 k.1 (bound_same scope forms x f t h k.0)

nothing_same : SameScalars [] []
nothing_same x t e = absurd cc

parameter_kinds : (types : List ℕ) (m : Meant) (qs : List Parameter) → AllByRecursion (HasKnownType types) qs → SameKinds (map kind_of (map (λ (q : GenericParameterTree). formed m q.ty) (map generic_parameter qs))) (types_of types qs)
parameter_kinds types m [] h = tt {0}
parameter_kinds types m (q ∷ qs) h = (kind_same types m q.ty h.0, parameter_kinds types m qs h.1)

parameters_same : (types : List ℕ) (m : Meant) (qs : List Parameter) (scope : Scope) → AllByRecursion (HasKnownType types) qs → BindsAll [] (names_of qs) (types_of types qs) scope → SameScalars scope (parameter_scope m (map generic_parameter qs))
parameters_same types m qs scope known b =
    let forms = map (λ (q : GenericParameterTree). formed m q.ty) (map generic_parameter qs) in
    subst (λ (xs : List Ident). SameScalars scope (bind_forms xs forms [])) (sym (parameter_names qs))
    (binds_same (names_of qs) (types_of types qs) forms [] scope [] b (parameter_kinds types m qs known) nothing_same)

-- What bodies may name

kinds_forms : (row : Option GenericRow) (ts : Forms) → kinds_at row ts ≡ map kind_of (forms_at row ts)
kinds_forms None ts = refl
kinds_forms (Some row) ts = refl

arm_kinds : (p : ProgramTree) → IsTypedProgram p → (k : ℕ) (ts : Forms) (c : ℕ) → constructor_named (table_of_program p) k ≡ Some c →
    SameKinds (map kind_of (forms_named (rows_of (map generic_data p.datas)) (place_named (rows_of (map generic_data p.datas)) k) ts)) (fields_at (table_of_program p) c)
arm_kinds p typed k ts c e =
    let rows = rows_of (map generic_data p.datas) in
    subst (λ (i : Option ℕ). SameKinds (map kind_of (forms_named rows i ts)) (fields_at (table_of_program p) c)) (sym (place_same p k ∙ e))
    (subst (λ (us : List Ty). SameKinds us (fields_at (table_of_program p) c)) (kinds_forms (slice_get rows c) ts) (rows_same (type_names p) 0 p.datas typed.fields c ts))

known_same : (types : List ℕ) (m : Meant) (r : Results TypeName) → AreKnown types r → SameResults (map_results (formed m) (map_results written_of r)) (map_results (type_of_name types) r)
known_same types m (One a) h = kind_same types m a h
known_same types m (Several as') h = kinds_same types m as' h.1

named_same : (g : Globals) (fs : List FunctionTree) → AllByRecursion (IsTypedHere g) fs → (x : ℕ) (h : FunctionTree) → function_named fs x ≡ Some h → (ts : Forms) → SameResults (results_at (generic_named (map generic_function fs) x) ts) (result_types g.table h)
named_same g [] typed x h e ts = absurd cc
named_same g (f ∷ fs) typed x h e ts = step (number_of f.name == x) e (named_same g fs typed.1 x h) where
  step : (b : Bool) → (if b then Some f else function_named fs x) ≡ Some h → (function_named fs x ≡ Some h → (us : Forms) → SameResults (results_at (generic_named (map generic_function fs) x) us) (result_types g.table h)) →
      SameResults (results_at (if b then Some (generic_function f) else generic_named (map generic_function fs) x) ts) (result_types g.table h)
  step true e go = subst (λ (u : FunctionTree). SameResults (results_at (Some (generic_function f)) ts) (result_types g.table u)) (same_Some f h e) (known_same g.table.types (assign [] ts) f.result (typed.0).known_result)
  step false e go = go e ts

operator_same : (f : Operator) → is_scalar (kind_of (operator_form f)) ≡ is_scalar (operator_type f)
operator_same f = either_scalar (λ g u. is_scalar (kind_of g) ≡ is_scalar u) refl refl f

-- the name of what gives one thing
one_bound_same : (scope : Scope) (forms : FormScope) (x : Ident) (r : Results Form) (t : Ty) → SameScalars scope forms → IsNew scope x → SameResults r (One t) → SameScalars (bound x t scope) (bind_forms (x ∷ []) (list_results r) forms)
one_bound_same scope forms x r t same new h = binds_same (x ∷ []) (t ∷ []) (list_results r) scope (bound x t scope) forms (new, refl) (listed_same r (t ∷ []) h) same

-- What expressions give

mutual
  results_same : (p : ProgramTree) → IsTypedProgram p → (m : Meant) (scope : Scope) (forms : FormScope) (e : Expression) (r : Results Ty) → SameScalars scope forms → Has (globals_of p) scope e r →
      SameResults (results_of (globals_of_generic (generic_of p)) m forms (as_generic e)) r
  results_same p typed m scope forms (Var x) r same h =
      subst (λ (u : Results Ty). SameResults (One (form_or (form_in forms (number_of x)))) u) (sym h.1) (same (number_of x) h.0 h.2)
  results_same p typed m scope forms (Num q n) r same h = subst (λ (u : Results Ty). SameResults (One WholeForm) u) (sym h) refl
  results_same p typed m scope forms (Bit q b) r same h = subst (λ (u : Results Ty). SameResults (One TruthForm) u) (sym h) refl
  results_same p typed m scope forms (Paren q e) r same h = results_same p typed m scope forms e r same h
  results_same p typed m scope forms (Op q f a b) r same h = subst (λ (u : Results Ty). SameResults (One (operator_form f)) u) (sym h.0) (operator_same f)
  results_same p typed m scope forms (Call f xs) r same h =
      subst (λ (u : Results Ty). SameResults (results_of (globals_of_generic (generic_of p)) m forms (as_generic (Call f xs))) u) (sym h.2) (named_same (globals_of p) p.functions typed.functions (number_of f) h.0 h.1 NoForm)
  results_same p typed m scope forms (Make k xs) r same h =
      subst (λ (u : Results Ty). SameResults (results_of (globals_of_generic (generic_of p)) m forms (as_generic (Make k xs))) u) (sym h.2) refl
  results_same p typed m scope forms (Let q x a b) r same h =
      let rs = results_of (globals_of_generic (generic_of p)) m forms (as_generic a) in
      results_same p typed m (bound x h.0 scope) (bind_forms (x ∷ []) (list_results rs) forms) b r (one_bound_same scope forms x rs h.0 same h.2 (results_same p typed m scope forms a (One h.0) same h.1)) h.3
  results_same p typed m scope forms (Par q x a y b c) r same h =
      let rs = results_of (globals_of_generic (generic_of p)) m forms (as_generic a) in
      let ss = results_of (globals_of_generic (generic_of p)) m forms (as_generic b) in
      let middle = bind_forms (x ∷ []) (list_results rs) forms in
      results_same p typed m (bound y h.1 (bound x h.0 scope)) (bind_forms (y ∷ []) (list_results ss) middle) c r
      (one_bound_same (bound x h.0 scope) middle y ss h.1 (one_bound_same scope forms x rs h.0 same h.4 (results_same p typed m scope forms a (One h.0) same h.2)) h.5 (results_same p typed m scope forms b (One h.1) same h.3)) h.6
  results_same p typed m scope forms (If q a b c) r same h = results_same p typed m scope forms b r same h.1
  results_same p typed m scope forms (Case q x arms) r same h = arms_same p typed m scope forms (arguments_of (form_or (form_in forms (number_of x)))) arms r same h.3
  results_same p typed m scope forms (Tuple q as' xs) r same h =
      subst (λ (u : Results Ty). SameResults (results_of (globals_of_generic (generic_of p)) m forms (as_generic (Tuple q as' xs))) u) (sym h.0)
      (all_same p typed m scope forms xs (map (type_of_name (type_names p)) as') same h.2)
  results_same p typed m scope forms (LetSeveral q qs a b) r same h =
      results_same p typed m h.0 (bind_forms (names_of qs) (bound_forms (globals_of_generic (generic_of p)) m forms (as_generic a)) forms) b r (binds_same (names_of qs) (types_of (type_names p) qs) (bound_forms (globals_of_generic (generic_of p)) m forms (as_generic a)) scope h.0 forms h.3 (listed_same (results_of (globals_of_generic (generic_of p)) m forms (as_generic a)) (types_of (type_names p) qs) (results_same p typed m scope forms a (as_results (types_of (type_names p) qs)) same h.2)) same) h.4
  results_same p typed m scope forms (ParSeveral q qs a rs b c) r same h =
      let g = globals_of_generic (generic_of p) in
      let middle = bind_forms (names_of qs) (bound_forms g m forms (as_generic a)) forms in
      results_same p typed m h.1 (bind_forms (names_of rs) (bound_forms g m forms (as_generic b)) middle) c r
      (binds_same (names_of rs) (types_of (type_names p) rs) (bound_forms (globals_of_generic (generic_of p)) m forms (as_generic b)) h.0 h.1 middle h.7 (listed_same (results_of (globals_of_generic (generic_of p)) m forms (as_generic b)) (types_of (type_names p) rs) (results_same p typed m scope forms b (as_results (types_of (type_names p) rs)) same h.5)) (binds_same (names_of qs) (types_of (type_names p) qs) (bound_forms (globals_of_generic (generic_of p)) m forms (as_generic a)) scope h.0 forms h.6 (listed_same (results_of (globals_of_generic (generic_of p)) m forms (as_generic a)) (types_of (type_names p) qs) (results_same p typed m scope forms a (as_results (types_of (type_names p) qs)) same h.4)) same)) h.8

  all_same : (p : ProgramTree) → IsTypedProgram p → (m : Meant) (scope : Scope) (forms : FormScope) (xs : Arguments) (ts : List Ty) → SameScalars scope forms → HaveAll (globals_of p) scope xs ts →
      SameKinds (map kind_of (forms_of_all (globals_of_generic (generic_of p)) m forms (all_as_generic xs))) ts
  all_same p typed m scope forms NoArgument [] same h = tt {0}
  all_same p typed m scope forms NoArgument (t ∷ ts) same h = absurd h
  all_same p typed m scope forms (Argument a xs) [] same h = absurd h
  all_same p typed m scope forms (Argument a xs) (t ∷ ts) same h = (one_same (results_of (globals_of_generic (generic_of p)) m forms (as_generic a)) t (results_same p typed m scope forms a (One t) same h.0), all_same p typed m scope forms xs ts same h.1)

  arms_same : (p : ProgramTree) → IsTypedProgram p → (m : Meant) (scope : Scope) (forms : FormScope) (ts : Forms) (arms : Arms) (r : Results Ty) → SameScalars scope forms → HaveArms (globals_of p) scope arms r →
      SameResults (results_of_arms (globals_of_generic (generic_of p)) m forms ts (arms_as_generic arms)) r
  arms_same p typed m scope forms ts (LastArm k xs e) r same h =
      let rows = rows_of (map generic_data p.datas) in
      let fs = forms_named rows (place_named rows (number_of k)) ts in
      results_same p typed m h.1 (bind_forms xs fs forms) e r (binds_same xs (fields_at (table_of_program p) h.0) fs scope h.1 forms h.3 (arm_kinds p typed (number_of k) ts h.0 h.2) same) h.4
  arms_same p typed m scope forms ts (NextArm k xs e arms) r same h =
      let rows = rows_of (map generic_data p.datas) in
      let fs = forms_named rows (place_named rows (number_of k)) ts in
      let a = h.0 in
      results_same p typed m a.1 (bind_forms xs fs forms) e r (binds_same xs (fields_at (table_of_program p) a.0) fs scope a.1 forms a.3 (arm_kinds p typed (number_of k) ts a.0 a.2) same) a.4

-- names bound to parts, in another scope
sides_same : (p : ProgramTree) → IsTypedProgram p → (m : Meant) (scope : Scope) (forms : FormScope) (middle inner : Scope) (others : FormScope) (qs : List Parameter) (a : Expression) → SameScalars scope forms →
    SameScalars middle others → Has (globals_of p) scope a (as_results (types_of (type_names p) qs)) → BindsAll middle (names_of qs) (types_of (type_names p) qs) inner →
    SameScalars inner (bind_forms (names_of qs) (bound_forms (globals_of_generic (generic_of p)) m forms (as_generic a)) others)
sides_same p typed m scope forms middle inner others qs a same rest h b =
    let ts = types_of (type_names p) qs in
    let r = results_of (globals_of_generic (generic_of p)) m forms (as_generic a) in
    binds_same (names_of qs) ts (list_results r) middle inner others b (listed_same r ts (results_same p typed m scope forms a (as_results ts) same h)) rest

-- names bound to parts
several_same : (p : ProgramTree) → IsTypedProgram p → (m : Meant) (scope : Scope) (forms : FormScope) (inner : Scope) (qs : List Parameter) (a : Expression) → SameScalars scope forms →
    Has (globals_of p) scope a (as_results (types_of (type_names p) qs)) → BindsAll scope (names_of qs) (types_of (type_names p) qs) inner →
    SameScalars inner (bind_forms (names_of qs) (bound_forms (globals_of_generic (generic_of p)) m forms (as_generic a)) forms)
several_same p typed m scope forms inner qs a same h b = sides_same p typed m scope forms scope inner forms qs a same same h b

-- What expressions mean

fields_go : (ts us : List Ty) (rs : List Outcome) (go : List Datum → Outcome) → SameKinds ts us → with_fields ts rs go ≡ with_fields us rs go
fields_go ts us rs go h =
    ap (λ (qs : List Outcome). with_values (qs ++ at_fields false ts rs) (λ _. with_values rs go)) (fields_same true ts us rs h)
    ∙ ap (λ (qs : List Outcome). with_values (at_fields true us rs ++ qs) (λ _. with_values rs go)) (fields_same false ts us rs h)

mutual
  typed_meant : (p : ProgramTree) → IsTypedProgram p → (calls' : ℕ → Forms → List Datum → Outcome) (call : ℕ → List Datum → Outcome) → SameCalls calls' call →
      (m : Meant) (scope : Scope) (forms : FormScope) (e : Expression) (env : Environment) (r : Results Ty) → SameScalars scope forms → Has (globals_of p) scope e r →
      meant (globals_of_generic (generic_of p)) calls' m forms (as_generic e) env ≡ eval (table_of_program p) call e env
  typed_meant p typed calls' call go m scope forms (Var x) env r same h = refl
  typed_meant p typed calls' call go m scope forms (Num q n) env r same h = refl
  typed_meant p typed calls' call go m scope forms (Bit q b) env r same h = refl
  typed_meant p typed calls' call go m scope forms (Paren q e) env r same h = typed_meant p typed calls' call go m scope forms e env r same h
  typed_meant p typed calls' call go m scope forms (Op q f a b) env r same h =
      value_goes _ _ _ _ (typed_meant p typed calls' call go m scope forms a env (One Whole) same h.1) (λ x. value_goes _ _ _ _ (typed_meant p typed calls' call go m scope forms b env (One Whole) same h.2) (λ y. refl))
  typed_meant p typed calls' call go m scope forms (Call f xs) env r same h =
      ap (λ (rs : List Outcome). with_values rs (calls' (number_of f) NoForm)) (typed_meant_all p typed calls' call go m scope forms xs env (parameter_types (table_of_program p) h.0) same h.3)
      ∙ values_go (eval_all (table_of_program p) call xs env) (calls' (number_of f) NoForm) (call (number_of f)) (go (number_of f))
  typed_meant p typed calls' call go m scope forms (Make k xs) env r same h =
      let rows = rows_of (map generic_data p.datas) in
      ap (λ (rs : List Outcome). made_at rows (place_named rows (number_of k)) NoForm rs) (typed_meant_all p typed calls' call go m scope forms xs env (fields_at (table_of_program p) h.0) same h.3)
      ∙ ap (λ (i : Option ℕ). made_at rows i NoForm (eval_all (table_of_program p) call xs env)) (place_same p (number_of k))
      ∙ made_same p typed (constructor_named (table_of_program p) (number_of k)) (eval_all (table_of_program p) call xs env)
  typed_meant p typed calls' call go m scope forms (Let q x a b) env r same h =
      let rs = results_of (globals_of_generic (generic_of p)) m forms (as_generic a) in
      value_goes _ _ _ _ (typed_meant p typed calls' call go m scope forms a env (One h.0) same h.1)
      (λ v. typed_meant p typed calls' call go m (bound x h.0 scope) (bind_forms (x ∷ []) (list_results rs) forms) b (bind_results (x ∷ []) v env) r
      (one_bound_same scope forms x rs h.0 same h.2 (results_same p typed m scope forms a (One h.0) same h.1)) h.3)
  typed_meant p typed calls' call go m scope forms (Par q x a y b c) env r same h =
      let rs = results_of (globals_of_generic (generic_of p)) m forms (as_generic a) in
      let ss = results_of (globals_of_generic (generic_of p)) m forms (as_generic b) in
      let middle = bind_forms (x ∷ []) (list_results rs) forms in
      value_goes _ _ _ _ (typed_meant p typed calls' call go m scope forms a env (One h.0) same h.2)
      (λ v. value_goes _ _ _ _ (typed_meant p typed calls' call go m scope forms b env (One h.1) same h.3)
      (λ w. typed_meant p typed calls' call go m (bound y h.1 (bound x h.0 scope)) (bind_forms (y ∷ []) (list_results ss) middle) c (bind_results (y ∷ []) w (bind_results (x ∷ []) v env)) r
      (one_bound_same (bound x h.0 scope) middle y ss h.1 (one_bound_same scope forms x rs h.0 same h.4 (results_same p typed m scope forms a (One h.0) same h.2)) h.5 (results_same p typed m scope forms b (One h.1) same h.3)) h.6))
  typed_meant p typed calls' call go m scope forms (If q a b c) env r same h =
      value_goes _ _ _ _ (typed_meant p typed calls' call go m scope forms a env (One Truth) same h.0)
      (λ v. choice_same (is_true v) _ _ _ _ (typed_meant p typed calls' call go m scope forms b env r same h.1) (typed_meant p typed calls' call go m scope forms c env r same h.2))
  typed_meant p typed calls' call go m scope forms (Case q x arms) env r same h =
      typed_meant_arms p typed calls' call go m scope forms (arguments_of (form_or (form_in forms (number_of x)))) arms (value_in env (number_of x)) env r same h.3
  typed_meant p typed calls' call go m scope forms (Tuple q as' xs) env r same h =
      let g = globals_of_generic (generic_of p) in
      let kinds = map kind_of (forms_of_all g m forms (all_as_generic xs)) in
      let ts = map (type_of_name (type_names p)) as' in
      ap (λ (rs : List Outcome). with_fields kinds rs (λ vs. Gives (tuple vs))) (typed_meant_all p typed calls' call go m scope forms xs env ts same h.2)
      ∙ fields_go kinds ts (eval_all (table_of_program p) call xs env) (λ vs. Gives (tuple vs)) (all_same p typed m scope forms xs ts same h.2)
  typed_meant p typed calls' call go m scope forms (LetSeveral q qs a b) env r same h =
      let fs = bound_forms (globals_of_generic (generic_of p)) m forms (as_generic a) in
      value_goes _ _ _ _ (typed_meant p typed calls' call go m scope forms a env (as_results (types_of (type_names p) qs)) same h.2)
      (λ v. typed_meant p typed calls' call go m h.0 (bind_forms (names_of qs) fs forms) b (bind_results (names_of qs) v env) r (several_same p typed m scope forms h.0 qs a same h.2 h.3) h.4)
  typed_meant p typed calls' call go m scope forms (ParSeveral q qs a rs b c) env r same h =
      let g = globals_of_generic (generic_of p) in
      let middle = bind_forms (names_of qs) (bound_forms g m forms (as_generic a)) forms in
      value_goes _ _ _ _ (typed_meant p typed calls' call go m scope forms a env (as_results (types_of (type_names p) qs)) same h.4)
      (λ v. value_goes _ _ _ _ (typed_meant p typed calls' call go m scope forms b env (as_results (types_of (type_names p) rs)) same h.5)
      (λ w. typed_meant p typed calls' call go m h.1 (bind_forms (names_of rs) (bound_forms g m forms (as_generic b)) middle) c (bind_results (names_of rs) w (bind_results (names_of qs) v env)) r
      (sides_same p typed m scope forms h.0 h.1 middle rs b same (several_same p typed m scope forms h.0 qs a same h.4 h.6) h.5 h.7) h.8))

  typed_meant_all : (p : ProgramTree) → IsTypedProgram p → (calls' : ℕ → Forms → List Datum → Outcome) (call : ℕ → List Datum → Outcome) → SameCalls calls' call →
      (m : Meant) (scope : Scope) (forms : FormScope) (xs : Arguments) (env : Environment) (ts : List Ty) → SameScalars scope forms → HaveAll (globals_of p) scope xs ts →
      meant_all (globals_of_generic (generic_of p)) calls' m forms (all_as_generic xs) env ≡ eval_all (table_of_program p) call xs env
  typed_meant_all p typed calls' call go m scope forms NoArgument env ts same h = refl
  typed_meant_all p typed calls' call go m scope forms (Argument a xs) env [] same h = absurd h
  typed_meant_all p typed calls' call go m scope forms (Argument a xs) env (t ∷ ts) same h =
      ap (λ (u : Outcome). u ∷ meant_all (globals_of_generic (generic_of p)) calls' m forms (all_as_generic xs) env) (typed_meant p typed calls' call go m scope forms a env (One t) same h.0)
      ∙ ap (λ (us : List Outcome). eval (table_of_program p) call a env ∷ us) (typed_meant_all p typed calls' call go m scope forms xs env ts same h.1)

  typed_meant_arms : (p : ProgramTree) → IsTypedProgram p → (calls' : ℕ → Forms → List Datum → Outcome) (call : ℕ → List Datum → Outcome) → SameCalls calls' call →
      (m : Meant) (scope : Scope) (forms : FormScope) (ts : Forms) (arms : Arms) (v : Datum) (env : Environment) (r : Results Ty) → SameScalars scope forms → HaveArms (globals_of p) scope arms r →
      meant_arms (globals_of_generic (generic_of p)) calls' m forms ts (arms_as_generic arms) v env ≡ eval_arms (table_of_program p) call arms v env
  typed_meant_arms p typed calls' call go m scope forms ts (LastArm k xs e) v env r same h =
      let g = globals_of_generic (generic_of p) in
      let fs = forms_named g.rows (place_named g.rows (number_of k)) ts in
      ap (λ (i : Option ℕ). choose (is_made_by i v) (meant g calls' m (bind_forms xs fs forms) (as_generic e) (bind xs (parts v) env)) (Gives (whole (pos 0)))) (place_same p (number_of k))
      ∙ choice_same (is_made_by (constructor_named (table_of_program p) (number_of k)) v) _ _ _ _
      (typed_meant p typed calls' call go m h.1 (bind_forms xs fs forms) e (bind xs (parts v) env) r (binds_same xs (fields_at (table_of_program p) h.0) fs scope h.1 forms h.3 (arm_kinds p typed (number_of k) ts h.0 h.2) same) h.4) refl
  typed_meant_arms p typed calls' call go m scope forms ts (NextArm k xs e arms) v env r same h =
      let g = globals_of_generic (generic_of p) in
      let fs = forms_named g.rows (place_named g.rows (number_of k)) ts in
      let a = h.0 in
      ap (λ (i : Option ℕ). choose (is_made_by i v) (meant g calls' m (bind_forms xs fs forms) (as_generic e) (bind xs (parts v) env)) (meant_arms g calls' m forms ts (arms_as_generic arms) v env)) (place_same p (number_of k))
      ∙ choice_same (is_made_by (constructor_named (table_of_program p) (number_of k)) v) _ _ _ _
      (typed_meant p typed calls' call go m a.1 (bind_forms xs fs forms) e (bind xs (parts v) env) r (binds_same xs (fields_at (table_of_program p) a.0) fs scope a.1 forms a.3 (arm_kinds p typed (number_of k) ts a.0 a.2) same) a.4)
      (typed_meant_arms p typed calls' call go m scope forms ts arms v env r same h.1)

-- Programs

function_goes : (g : Globals) (fs : List FunctionTree) (x : ℕ) (go : GenericFunctionTree → Outcome) (went : FunctionTree → Outcome) → AllByRecursion (IsTypedHere g) fs → ((f : FunctionTree) → IsTypedHere g f → go (generic_function f) ≡ went f) →
    of_generic (generic_named (map generic_function fs) x) go ≡ of_function (function_named fs x) went
function_goes g [] x go went typed h = refl
function_goes g (f ∷ fs) x go went typed h = step (number_of f.name == x) (function_goes g fs x go went typed.1 h) where
  step : (b : Bool) → of_generic (generic_named (map generic_function fs) x) go ≡ of_function (function_named fs x) went →
      of_generic (if b then Some (generic_function f) else generic_named (map generic_function fs) x) go ≡ of_function (if b then Some f else function_named fs x) went
  step true rest = h f typed.0
  step false rest = rest

typed_calls : (p : ProgramTree) → IsTypedProgram p → (n : ℕ) → SameCalls (calls_meant (generic_of p) n) (calls p n)
typed_calls p typed zero x vs = refl
typed_calls p typed (suc n) x vs =
    function_goes (globals_of p) p.functions x
    (λ g. meant (globals_of_generic (generic_of p)) (calls_meant (generic_of p) n) (assign g.variables NoForm) (parameter_scope (assign g.variables NoForm) g.parameters) g.body (bind (generic_names g.parameters) vs []))
    (λ g. eval (table_of_program p) (calls p n) g.body (bind (names_of g.parameters) vs []))
    typed.functions
    (λ f h. typed_meant p typed (calls_meant (generic_of p) n) (calls p n) (typed_calls p typed n) (assign [] NoForm) h.scope (parameter_scope (assign [] NoForm) (map generic_parameter f.parameters)) f.body
    (bind (generic_names (map generic_parameter f.parameters)) vs []) (map_results (type_of_name (type_names p)) f.result) (parameters_same (type_names p) (assign [] NoForm) f.parameters h.scope h.known h.bound) h.typed
    ∙ ap (λ (xs : List Ident). eval (table_of_program p) (calls p n) f.body (bind xs vs [])) (parameter_names f.parameters))

pub same_run : (p : ProgramTree) (depth : ℕ) (v : Datum) → IsTypedProgram p → run_generic (generic_of p) depth v ≡ run p depth v
same_run p depth v typed =
    let h = typed.main in
    let qs = p.main.parameter ∷ [] in
    typed_meant p typed (calls_meant (generic_of p) depth) (calls p depth) (typed_calls p typed depth) (assign [] NoForm) h.scope (parameter_scope (assign [] NoForm) (map generic_parameter qs)) p.main.body
    ((number_of p.main.parameter.name, v) ∷ []) (One (type_of_name (type_names p) p.main.result)) (parameters_same (type_names p) (assign [] NoForm) qs h.scope h.known h.bound) h.typed

-- Each expression that is typed.
pub same_each : (p : ProgramTree) (n : ℕ) (m : Meant) (scope : Scope) (forms : FormScope) (e : Expression) (r : Results Ty) (env : Environment) → IsTypedProgram p → Has (globals_of p) scope e r → SameScalars scope forms →
    means_generic (generic_of p) n m forms env (as_generic e) ≡ means p n env e
same_each p n m scope forms e r env typed h same = typed_meant p typed (calls_meant (generic_of p) n) (calls p n) (typed_calls p typed n) m scope forms e env r same h

-- Each expression that gives one thing everywhere.
pub same_single : (p : ProgramTree) (n : ℕ) (m : Meant) (scope : FormScope) (e : Expression) (env : Environment) → IsTypedProgram p → IsSingle (as_generic e) → means_generic (generic_of p) n m scope env (as_generic e) ≡ means p n env e
same_single p n m scope e env typed one = same_meant p typed (calls_meant (generic_of p) n) (calls p n) (typed_calls p typed n) m scope e env one
