-- A program without type parameters is its own copy.
use Rattle.std.proofs.Common.{◌≡◌, ℕ, ◌+◌, Bool, true, false, ◌==◌, if◌then◌else◌, ap₂, List, [], ◌∷◌, ◌++◌, map, length, Option, Some, None, refl, sym, ap, ◌∙◌, subst, subst₂}
use Rattle.std.specs.Prelude.{slice_get}
use Rattle.std.specs.List.{AllByRecursion}
use Rattle.std.proofs.lemmas.Option.{same_Some}
use Rattle.gib_syntax.specs.declared.tree.Ident.{Ident}
use Rattle.gib_types.specs.declared.operator.Operator.{Operator}
use Rattle.gib_syntax.specs.declared.tree.TypeName.{TypeName}
use Rattle.gib_syntax.specs.declared.tree.TypeName.TheVariants as ty
use Rattle.gib_syntax.specs.declared.tree.Parameter.{Parameter}
use Rattle.gib_syntax.specs.Declarations.{number_of}
use Rattle.gib_syntax.specs.Tree.{Expression, Arguments, Arms, Var, Num, Bit, Paren, Op, Call, Make, Let, Par, If, Case, Tuple, LetSeveral, ParSeveral, NoArgument, Argument, LastArm, NextArm, ConstructorTree, DataTree, FunctionTree, MainTree, ProgramTree}
use Rattle.gib_syntax.specs.Forms.{WrittenType, Form, Forms, NoForm, Meant, formed, assign}
use Rattle.gib_syntax.specs.GenericTree.{GenericConstructorTree, GenericParameterTree, GenericFunctionTree, GenericRow, row_of, rows_of, GenericGlobals, globals_of_generic, place_named, generic_named}
use Rattle.gib_syntax.specs.GenericTyping.{FormScope, form_in, form_bound, operator_form}
use Rattle.gib_syntax.proofs.Operators.{either_scalar}
use Rattle.gib_syntax.specs.Fine.{IsFine, AreFine, HasFine, IsFineFunction, IsFineProgram}
use Rattle.gib_syntax.specs.Results.{Results, One, Several, map_results, list_results, AreSeveral, AreSides}
use Rattle.gib_syntax.specs.Single.{IsOne, IsSingle, AreSingle, HasSingle, IsSingleFunction, IsSingleProgram}
use Rattle.gib_syntax.specs.Typing.{names_of}
use Rattle.gib_base.specs.declared.Span.{Span}
use Rattle.gib_mono.specs.Bare.{bare, all_bare, arms_bare}
use Rattle.gib_mono.specs.Bindings.{only_name, let_of, par_of}
use Rattle.gib_mono.specs.Placed.{placed, all_placed, arms_placed, placed_variable, placed_function, placed_program}
use Rattle.gib_mono.specs.Copying.{Naming, renamed, copy_variables, copy_written, copy_constructor, copy_data, copy_parameter, copy_function, copy_main, arguments_of, forms_at, forms_named, results_at, one_form, results_of, forms_of_all, results_of_arms, bind_forms, bound_forms, parameter_scope, copy, copy_all, copy_arms}
use Rattle.gib_types.specs.Form.{form_or}
use Rattle.gib_mono.specs.Walk.{DataCopy, FunctionCopy, datas_in, function_copies, plain_datas, plain_functions, plain_copies, copied_program}
use Rattle.gib_syntax.specs.Plain.{written_of, as_generic, all_as_generic, arms_as_generic, generic_constructor, generic_data, generic_parameter, generic_function, generic_main, generic_of}
use Rattle.gib_mono.specs.Copying.{IsPlainNaming}
use Rattle.gib_mono.proofs.Here.{get_split, map_found}

-- Types without arguments

abbrev pub IsBare : Form → Type 0
IsBare f = arguments_of f ≡ NoForm

abbrev pub BareScope : FormScope → Type 0
BareScope scope = (x : ℕ) (f : Form) → form_in scope x ≡ Some f → IsBare f

bare_written : (m : Meant) (a : TypeName) → IsBare (formed m (written_of a))
bare_written m (ty.Whole p) = refl
bare_written m (ty.Truth p) = refl
bare_written m (ty.Declared x) = refl

bare_all : (m : Meant) (as' : List TypeName) → AllByRecursion IsBare (map (formed m) (map written_of as'))
bare_all m [] = tt {0}
bare_all m (a ∷ as') = (bare_written m a, bare_all m as')

bare_bound : (scope : FormScope) (x : Ident) (f : Form) → BareScope scope → IsBare f → BareScope (form_bound x f scope)
bare_bound scope x f h k y g e = step (number_of x == y) e where
  step : (b : Bool) → (if b then Some f else form_in scope y) ≡ Some g → IsBare g
  step true e = subst IsBare (same_Some f g e) k
  step false e = h y g e

pub bare_binds : (xs : List Ident) (fs : List Form) (scope : FormScope) → BareScope scope → AllByRecursion IsBare fs → BareScope (bind_forms xs fs scope)
bare_binds [] fs scope h k = h
bare_binds (x ∷ xs) [] scope h k = h
bare_binds (x ∷ xs) (f ∷ fs) scope h k = bare_binds xs fs (form_bound x f scope) (bare_bound scope x f h k.0) k.1

abbrev pub AreBareResults : Results Form → Type 0
AreBareResults r = AllByRecursion IsBare (list_results r)

bare_one : (r : Results Form) → AreBareResults r → IsBare (one_form r)
bare_one (One f) h = h.0
bare_one (Several fs) h = refl

-- what bodies may name has no type parameters
pub record BareGlobals (g : GenericGlobals) : Type 0 where
  pub rows : (c : ℕ) (row : GenericRow) → slice_get g.rows c ≡ Some row → (ts : Forms) → AllByRecursion IsBare (forms_at (Some row) ts)
  pub functions : (x : ℕ) (h : GenericFunctionTree) → generic_named g.functions x ≡ Some h → (ts : Forms) → AreBareResults (results_at (Some h) ts)

bare_fields : (g : GenericGlobals) → BareGlobals g → (p : Option ℕ) (ts : Forms) → AllByRecursion IsBare (forms_named g.rows p ts)
bare_fields g bared None ts = tt {0}
bare_fields g bared (Some c) ts = step (slice_get g.rows c) refl where
  step : (o : Option GenericRow) → slice_get g.rows c ≡ o → AllByRecursion IsBare (forms_at o ts)
  step None e = tt {0}
  step (Some row) e = bared.rows c row e ts

bare_result : (g : GenericGlobals) → BareGlobals g → (x : ℕ) (ts : Forms) → AreBareResults (results_at (generic_named g.functions x) ts)
bare_result g bared x ts = step (generic_named g.functions x) refl where
  step : (o : Option GenericFunctionTree) → generic_named g.functions x ≡ o → AreBareResults (results_at o ts)
  step None e = (refl, tt {0})
  step (Some h) e = bared.functions x h e ts

bare_operator : (f : Operator) → IsBare (operator_form f)
bare_operator f = either_scalar (λ g u. IsBare g) refl refl f

bare_found : (scope : FormScope) (x : ℕ) → BareScope scope → IsBare (form_or (form_in scope x))
bare_found scope x h = step (form_in scope x) refl where
  step : (o : Option Form) → form_in scope x ≡ o → IsBare (form_or o)
  step None e = refl
  step (Some f) e = h x f e

mutual
  bare_of : (g : GenericGlobals) → BareGlobals g → (m : Meant) (e : Expression) (scope : FormScope) → BareScope scope → AreBareResults (results_of g m scope (as_generic e))
  bare_of g bared m (Var x) scope h = (bare_found scope (number_of x) h, tt {0})
  bare_of g bared m (Num p n) scope h = (refl, tt {0})
  bare_of g bared m (Bit p b) scope h = (refl, tt {0})
  bare_of g bared m (Paren p e) scope h = bare_of g bared m e scope h
  bare_of g bared m (Op p f a b) scope h = (bare_operator f, tt {0})
  bare_of g bared m (Call f xs) scope h = bare_result g bared (number_of f) NoForm
  bare_of g bared m (Make k xs) scope h = (refl, tt {0})
  bare_of g bared m (Let p x a b) scope h =
      bare_of g bared m b (bind_forms (x ∷ []) (bound_forms g m scope (as_generic a)) scope) (bare_binds (x ∷ []) (bound_forms g m scope (as_generic a)) scope h (bare_of g bared m a scope h))
  bare_of g bared m (Par p x a y b c) scope h =
      bare_of g bared m c (bind_forms (y ∷ []) (bound_forms g m scope (as_generic b)) (bind_forms (x ∷ []) (bound_forms g m scope (as_generic a)) scope))
      (bare_binds (y ∷ []) (bound_forms g m scope (as_generic b)) (bind_forms (x ∷ []) (bound_forms g m scope (as_generic a)) scope)
      (bare_binds (x ∷ []) (bound_forms g m scope (as_generic a)) scope h (bare_of g bared m a scope h)) (bare_of g bared m b scope h))
  bare_of g bared m (If p a b c) scope h = bare_of g bared m b scope h
  bare_of g bared m (Case p x arms) scope h = bare_of_arms g bared m arms scope (arguments_of (form_or (form_in scope (number_of x)))) h
  bare_of g bared m (Tuple p as' xs) scope h = bare_of_all g bared m xs scope h
  bare_of g bared m (LetSeveral p qs a b) scope h =
      bare_of g bared m b (bind_forms (names_of qs) (bound_forms g m scope (as_generic a)) scope) (bare_binds (names_of qs) (bound_forms g m scope (as_generic a)) scope h (bare_of g bared m a scope h))
  bare_of g bared m (ParSeveral p qs a rs b c) scope h =
      bare_of g bared m c (bind_forms (names_of rs) (bound_forms g m scope (as_generic b)) (bind_forms (names_of qs) (bound_forms g m scope (as_generic a)) scope))
      (bare_binds (names_of rs) (bound_forms g m scope (as_generic b)) (bind_forms (names_of qs) (bound_forms g m scope (as_generic a)) scope)
      (bare_binds (names_of qs) (bound_forms g m scope (as_generic a)) scope h (bare_of g bared m a scope h)) (bare_of g bared m b scope h))

  bare_of_all : (g : GenericGlobals) → BareGlobals g → (m : Meant) (xs : Arguments) (scope : FormScope) → BareScope scope → AllByRecursion IsBare (forms_of_all g m scope (all_as_generic xs))
  bare_of_all g bared m NoArgument scope h = tt {0}
  bare_of_all g bared m (Argument a xs) scope h = (bare_one (results_of g m scope (as_generic a)) (bare_of g bared m a scope h), bare_of_all g bared m xs scope h)

  bare_of_arms : (g : GenericGlobals) → BareGlobals g → (m : Meant) (arms : Arms) (scope : FormScope) (ts : Forms) → BareScope scope → AreBareResults (results_of_arms g m scope ts (arms_as_generic arms))
  bare_of_arms g bared m (LastArm k xs e) scope ts h =
      bare_of g bared m e (bind_forms xs (forms_named g.rows (place_named g.rows (number_of k)) ts) scope) (bare_binds xs (forms_named g.rows (place_named g.rows (number_of k)) ts) scope h (bare_fields g bared (place_named g.rows (number_of k)) ts))
  bare_of_arms g bared m (NextArm k xs e arms) scope ts h =
      bare_of g bared m e (bind_forms xs (forms_named g.rows (place_named g.rows (number_of k)) ts) scope) (bare_binds xs (forms_named g.rows (place_named g.rows (number_of k)) ts) scope h (bare_fields g bared (place_named g.rows (number_of k)) ts))

-- The copy of an expression is the expression without its type arguments

-- a binding of one name is so whatever its variables are
let_same : (p : Span) (xs : List Ident) (qs rs : List Parameter) (a b c d : Expression) → IsOne xs → a ≡ c → b ≡ d → let_of p (only_name xs) qs a b ≡ let_of p (only_name xs) rs c d
let_same p xs qs rs a b c d one e f = subst (λ (ys : List Ident). let_of p (only_name ys) qs a b ≡ let_of p (only_name ys) rs c d) (sym one.1) (ap₂ (Let p one.0) e f)

-- so are two sides of one name each
par_same : (p : Span) (xs ys : List Ident) (qs rs ss ts : List Parameter) (a b c d e f : Expression) → IsOne xs → IsOne ys → a ≡ d → b ≡ e → c ≡ f →
    par_of p (only_name xs) qs a (only_name ys) rs b c ≡ par_of p (only_name xs) ss d (only_name ys) ts e f
par_same p xs ys qs rs ss ts a b c d e f one other h k l =
    subst (λ (us : List Ident). par_of p (only_name us) qs a (only_name ys) rs b c ≡ par_of p (only_name us) ss d (only_name ys) ts e f) (sym one.1)
    (subst (λ (us : List Ident). par_of p (Some one.0) qs a (only_name us) rs b c ≡ par_of p (Some one.0) ss d (only_name us) ts e f) (sym other.1)
    (ap (λ (u : Expression). Par p one.0 u other.0 b c) h ∙ ap₂ (Par p one.0 d other.0) k l))

mutual
  pub copy_own : (g : GenericGlobals) → BareGlobals g → (nm : Naming) → IsPlainNaming nm → (m : Meant) (e : Expression) (scope : FormScope) → BareScope scope → IsSingle (as_generic e) → copy g nm m scope (as_generic e) ≡ bare (as_generic e)
  copy_own g bared nm plain m (Var x) scope h single = refl
  copy_own g bared nm plain m (Num p n) scope h single = refl
  copy_own g bared nm plain m (Bit p b) scope h single = refl
  copy_own g bared nm plain m (Paren p e) scope h single = ap (Paren p) (copy_own g bared nm plain m e scope h single)
  copy_own g bared nm plain m (Op p f a b) scope h single = ap₂ (Op p f) (copy_own g bared nm plain m a scope h single.0) (copy_own g bared nm plain m b scope h single.1)
  copy_own g bared nm plain m (Call f xs) scope h single =
      ap₂ (λ (n : ℕ) (us : Arguments). Call (renamed f n) us) (plain.functions (number_of f)) (all_copy_own g bared nm plain m xs scope h single)
  copy_own g bared nm plain m (Make k xs) scope h single =
      ap₂ (λ (n : ℕ) (us : Arguments). Make (renamed k n) us) (plain.constructors (number_of k)) (all_copy_own g bared nm plain m xs scope h single)
  copy_own g bared nm plain m (Let p x a b) scope h single =
      let fs = bound_forms g m scope (as_generic a) in
      ap₂ (Let p x) (copy_own g bared nm plain m a scope h single.1) (copy_own g bared nm plain m b (bind_forms (x ∷ []) fs scope) (bare_binds (x ∷ []) fs scope h (bare_of g bared m a scope h)) single.2)
  copy_own g bared nm plain m (Par p x a y b c) scope h single =
      let fs = bound_forms g m scope (as_generic a) in
      let gs = bound_forms g m scope (as_generic b) in
      let inner = bind_forms (y ∷ []) gs (bind_forms (x ∷ []) fs scope) in
      ap (λ (u : Expression). Par p x u y (copy g nm m scope (as_generic b)) (copy g nm m inner (as_generic c))) (copy_own g bared nm plain m a scope h single.2)
      ∙ ap₂ (Par p x (bare (as_generic a)) y) (copy_own g bared nm plain m b scope h single.3)
      (copy_own g bared nm plain m c inner (bare_binds (y ∷ []) gs (bind_forms (x ∷ []) fs scope) (bare_binds (x ∷ []) fs scope h (bare_of g bared m a scope h)) (bare_of g bared m b scope h)) single.4)
  copy_own g bared nm plain m (If p a b c) scope h single =
      ap (λ (u : Expression). If p u (copy g nm m scope (as_generic b)) (copy g nm m scope (as_generic c))) (copy_own g bared nm plain m a scope h single.0)
      ∙ ap₂ (If p (bare (as_generic a))) (copy_own g bared nm plain m b scope h single.1) (copy_own g bared nm plain m c scope h single.2)
  copy_own g bared nm plain m (Case p x arms) scope h single =
      ap (λ (ts : Forms). Case p x (copy_arms g nm m scope ts (arms_as_generic arms))) (bare_found scope (number_of x) h) ∙ ap (Case p x) (arms_copy_own g bared nm plain m arms scope h single)
  copy_own g bared nm plain m (Tuple p as' xs) scope h single = absurd single
  copy_own g bared nm plain m (LetSeveral p qs a b) scope h single =
      let xs = names_of qs in
      let fs = bound_forms g m scope (as_generic a) in
      let inner = bind_forms xs fs scope in
      let_same p xs (copy_variables nm xs fs) [] (copy g nm m scope (as_generic a)) (copy g nm m inner (as_generic b)) (bare (as_generic a)) (bare (as_generic b)) single.0
      (copy_own g bared nm plain m a scope h single.1) (copy_own g bared nm plain m b inner (bare_binds xs fs scope h (bare_of g bared m a scope h)) single.2)
  copy_own g bared nm plain m (ParSeveral p qs a rs b c) scope h single =
      let xs = names_of qs in
      let ys = names_of rs in
      let fs = bound_forms g m scope (as_generic a) in
      let gs = bound_forms g m scope (as_generic b) in
      let inner = bind_forms ys gs (bind_forms xs fs scope) in
      par_same p xs ys (copy_variables nm xs fs) (copy_variables nm ys gs) [] [] (copy g nm m scope (as_generic a)) (copy g nm m scope (as_generic b)) (copy g nm m inner (as_generic c))
      (bare (as_generic a)) (bare (as_generic b)) (bare (as_generic c)) single.0 single.1 (copy_own g bared nm plain m a scope h single.2) (copy_own g bared nm plain m b scope h single.3)
      (copy_own g bared nm plain m c inner (bare_binds ys gs (bind_forms xs fs scope) (bare_binds xs fs scope h (bare_of g bared m a scope h)) (bare_of g bared m b scope h)) single.4)

  all_copy_own : (g : GenericGlobals) → BareGlobals g → (nm : Naming) → IsPlainNaming nm → (m : Meant) (xs : Arguments) (scope : FormScope) → BareScope scope → AreSingle (all_as_generic xs) → copy_all g nm m scope (all_as_generic xs) ≡ all_bare (all_as_generic xs)
  all_copy_own g bared nm plain m NoArgument scope h single = refl
  all_copy_own g bared nm plain m (Argument a xs) scope h single =
      ap (λ (u : Expression). Argument u (copy_all g nm m scope (all_as_generic xs))) (copy_own g bared nm plain m a scope h single.0) ∙ ap (Argument (bare (as_generic a))) (all_copy_own g bared nm plain m xs scope h single.1)

  arms_copy_own : (g : GenericGlobals) → BareGlobals g → (nm : Naming) → IsPlainNaming nm → (m : Meant) (arms : Arms) (scope : FormScope) → BareScope scope → HasSingle (arms_as_generic arms) → copy_arms g nm m scope NoForm (arms_as_generic arms) ≡ arms_bare (arms_as_generic arms)
  arms_copy_own g bared nm plain m (LastArm k xs e) scope h single =
      let inner = bind_forms xs (forms_named g.rows (place_named g.rows (number_of k)) NoForm) scope in
      ap (λ (n : ℕ). LastArm (renamed k n) xs (copy g nm m inner (as_generic e))) (plain.constructors (number_of k))
      ∙ ap (LastArm k xs) (copy_own g bared nm plain m e inner (bare_binds xs (forms_named g.rows (place_named g.rows (number_of k)) NoForm) scope h (bare_fields g bared (place_named g.rows (number_of k)) NoForm)) single)
  arms_copy_own g bared nm plain m (NextArm k xs e arms) scope h single =
      let inner = bind_forms xs (forms_named g.rows (place_named g.rows (number_of k)) NoForm) scope in
      ap (λ (n : ℕ). NextArm (renamed k n) xs (copy g nm m inner (as_generic e)) (copy_arms g nm m scope NoForm (arms_as_generic arms))) (plain.constructors (number_of k))
      ∙ ap (λ (u : Expression). NextArm k xs u (copy_arms g nm m scope NoForm (arms_as_generic arms))) (copy_own g bared nm plain m e inner (bare_binds xs (forms_named g.rows (place_named g.rows (number_of k)) NoForm) scope h (bare_fields g bared (place_named g.rows (number_of k)) NoForm)) single.0)
      ∙ ap (NextArm k xs (bare (as_generic e))) (arms_copy_own g bared nm plain m arms scope h single.1)

-- A tree that has no type arguments, without them: a binding of a list of one name is one of that name

let_one : (p : Span) (xs : List Ident) (qs : List Parameter) (a b : Expression) → IsOne xs → let_of p (only_name xs) [] a b ≡ let_of p (only_name xs) qs a b
let_one p xs qs a b one = subst (λ (us : List Ident). let_of p (only_name us) [] a b ≡ let_of p (only_name us) qs a b) (sym one.1) refl

par_one : (p : Span) (xs : List Ident) (qs : List Parameter) (a : Expression) (ys : List Ident) (rs : List Parameter) (b c : Expression) → IsOne xs → IsOne ys
    → par_of p (only_name xs) [] a (only_name ys) [] b c ≡ par_of p (only_name xs) qs a (only_name ys) rs b c
par_one p xs qs a ys rs b c one other =
    subst₂ (λ (us vs : List Ident). par_of p (only_name us) [] a (only_name vs) [] b c ≡ par_of p (only_name us) qs a (only_name vs) rs b c) (sym one.1) (sym other.1) refl

mutual
  bare_placed : (e : Expression) → IsSingle (as_generic e) → bare (as_generic e) ≡ placed e
  bare_placed (Var x) single = refl
  bare_placed (Num p n) single = refl
  bare_placed (Bit p b) single = refl
  bare_placed (Paren p e) single = ap (Paren p) (bare_placed e single)
  bare_placed (Op p f a b) single = ap₂ (Op p f) (bare_placed a single.0) (bare_placed b single.1)
  bare_placed (Call f NoArgument) single = refl
  bare_placed (Call f (Argument a xs)) single = ap₂ (λ (u : Expression) (us : Arguments). Call f (Argument u us)) (bare_placed a single.0) (all_bare_placed xs single.1)
  bare_placed (Make k xs) single = ap (Make k) (all_bare_placed xs single)
  bare_placed (Let p x a b) single = ap₂ (Let p x) (bare_placed a single.1) (bare_placed b single.2)
  bare_placed (Par p x a y b c) single =
      ap (λ (u : Expression). Par p x u y (bare (as_generic b)) (bare (as_generic c))) (bare_placed a single.2) ∙ ap₂ (Par p x (placed a) y) (bare_placed b single.3) (bare_placed c single.4)
  bare_placed (If p a b c) single =
      ap (λ (u : Expression). If p u (bare (as_generic b)) (bare (as_generic c))) (bare_placed a single.0) ∙ ap₂ (If p (placed a)) (bare_placed b single.1) (bare_placed c single.2)
  bare_placed (Case p x arms) single = ap (Case p x) (arms_bare_placed arms single)
  bare_placed (Tuple p as' xs) single = absurd single
  bare_placed (LetSeveral p qs a b) single =
      let_one p (names_of qs) (map placed_variable qs) (bare (as_generic a)) (bare (as_generic b)) single.0
      ∙ ap₂ (let_of p (only_name (names_of qs)) (map placed_variable qs)) (bare_placed a single.1) (bare_placed b single.2)
  bare_placed (ParSeveral p qs a rs b c) single =
      let par = par_of p (only_name (names_of qs)) (map placed_variable qs) in
      par_one p (names_of qs) (map placed_variable qs) (bare (as_generic a)) (names_of rs) (map placed_variable rs) (bare (as_generic b)) (bare (as_generic c)) single.0 single.1
      ∙ ap (λ (u : Expression). par u (only_name (names_of rs)) (map placed_variable rs) (bare (as_generic b)) (bare (as_generic c))) (bare_placed a single.2)
      ∙ ap₂ (par (placed a) (only_name (names_of rs)) (map placed_variable rs)) (bare_placed b single.3) (bare_placed c single.4)

  all_bare_placed : (xs : Arguments) → AreSingle (all_as_generic xs) → all_bare (all_as_generic xs) ≡ all_placed xs
  all_bare_placed NoArgument single = refl
  all_bare_placed (Argument a xs) single = ap₂ Argument (bare_placed a single.0) (all_bare_placed xs single.1)

  arms_bare_placed : (arms : Arms) → HasSingle (arms_as_generic arms) → arms_bare (arms_as_generic arms) ≡ arms_placed arms
  arms_bare_placed (LastArm k xs e) single = ap (LastArm k xs) (bare_placed e single)
  arms_bare_placed (NextArm k xs e arms) single = ap₂ (NextArm k xs) (bare_placed e single.0) (arms_bare_placed arms single.1)

-- A tree of the grammar in which nothing gives several parts has no such binding

several_none : (qs : List Parameter) → AreSeveral qs → IsOne (names_of qs) → ⊥
several_none [] h one = h
several_none (q ∷ []) h one = h
several_none (q ∷ r ∷ qs) h one = let e = one.1 in cc

sides_none : (qs rs : List Parameter) → AreSides qs rs → IsOne (names_of qs) → IsOne (names_of rs) → ⊥
sides_none [] rs h one other = h
sides_none (q ∷ qs) [] h one other = h
sides_none (q ∷ []) (r ∷ []) h one other = h
sides_none (q ∷ []) (r ∷ s ∷ rs) h one other = let e = other.1 in cc
sides_none (q ∷ o ∷ qs) (r ∷ rs) h one other = let e = one.1 in cc

mutual
  placed_own : (e : Expression) → IsFine e → IsSingle (as_generic e) → placed e ≡ e
  placed_own (Var x) fine single = refl
  placed_own (Num p n) fine single = refl
  placed_own (Bit p b) fine single = refl
  placed_own (Paren p e) fine single = ap (Paren p) (placed_own e fine single)
  placed_own (Op p f a b) fine single = ap₂ (Op p f) (placed_own a fine.0 single.0) (placed_own b fine.1 single.1)
  placed_own (Call f NoArgument) fine single = refl
  placed_own (Call f (Argument a xs)) fine single = ap₂ (λ (u : Expression) (us : Arguments). Call f (Argument u us)) (placed_own a fine.0 single.0) (all_placed_own xs fine.2 single.1)
  placed_own (Make k xs) fine single = ap (Make k) (all_placed_own xs fine single)
  placed_own (Let p x a b) fine single = ap₂ (Let p x) (placed_own a fine.0 single.1) (placed_own b fine.1 single.2)
  placed_own (Par p x a y b c) fine single =
      ap (λ (u : Expression). Par p x u y (placed b) (placed c)) (placed_own a fine.0 single.2) ∙ ap₂ (Par p x a y) (placed_own b fine.1 single.3) (placed_own c fine.2 single.4)
  placed_own (If p a b c) fine single =
      ap (λ (u : Expression). If p u (placed b) (placed c)) (placed_own a fine.0 single.0) ∙ ap₂ (If p a) (placed_own b fine.1 single.1) (placed_own c fine.2 single.2)
  placed_own (Case p x arms) fine single = ap (Case p x) (arms_placed_own arms fine single)
  placed_own (Tuple p as' xs) fine single = absurd single
  placed_own (LetSeveral p qs a b) fine single = absurd (several_none qs fine.0 single.0)
  placed_own (ParSeveral p qs a rs b c) fine single = absurd (sides_none qs rs fine.0 single.0 single.1)

  all_placed_own : (xs : Arguments) → AreFine xs → AreSingle (all_as_generic xs) → all_placed xs ≡ xs
  all_placed_own NoArgument fine single = refl
  all_placed_own (Argument a xs) fine single = ap₂ Argument (placed_own a fine.0 single.0) (all_placed_own xs fine.2 single.1)

  arms_placed_own : (arms : Arms) → HasFine arms → HasSingle (arms_as_generic arms) → arms_placed arms ≡ arms
  arms_placed_own (LastArm k xs e) fine single = ap (LastArm k xs) (placed_own e fine single)
  arms_placed_own (NextArm k xs e arms) fine single = ap₂ (NextArm k xs) (placed_own e fine.0 single.0) (arms_placed_own arms fine.1 single.1)

-- Declarations

pub written_own : (nm : Naming) → IsPlainNaming nm → (m : Meant) (a : TypeName) → copy_written nm m (written_of a) ≡ a
written_own nm plain m (ty.Whole p) = refl
written_own nm plain m (ty.Truth p) = refl
written_own nm plain m (ty.Declared x) = ap (λ (n : ℕ). ty.Declared (renamed x n)) (plain.types (number_of x))

pub map_own : (A B : Type 0) (f : A → B) (back : B → A) → ((x : A) → back (f x) ≡ x) → (xs : List A) → map back (map f xs) ≡ xs
map_own A B f back h [] = refl
map_own A B f back h (x ∷ xs) = ap (λ (y : A). y ∷ map back (map f xs)) (h x) ∙ ap (λ (ys : List A). x ∷ ys) (map_own A B f back h xs)

constructor_own : (nm : Naming) → IsPlainNaming nm → (m : Meant) (c : ConstructorTree) → copy_constructor nm m NoForm (generic_constructor c) ≡ c
constructor_own nm plain m c =
    ap (λ (n : ℕ). let t : ConstructorTree = record { name = renamed c.name n; fields = map (copy_written nm m) (map written_of c.fields) } in t) (plain.constructors (number_of c.name))
    ∙ ap (λ (ws : List TypeName). let t : ConstructorTree = record { name = c.name; fields = ws } in t) (map_own TypeName WrittenType written_of (copy_written nm m) (written_own nm plain m) c.fields)

data_own_copy : (nm : Naming) → IsPlainNaming nm → (d : DataTree) → copy_data nm (generic_data d) NoForm ≡ d
data_own_copy nm plain d =
    ap (λ (n : ℕ). let t : DataTree = record { name = renamed d.name n; constructors = map (copy_constructor nm (assign [] NoForm) NoForm) (map generic_constructor d.constructors) } in t) (plain.types (number_of d.name))
    ∙ ap (λ (cs : List ConstructorTree). let t : DataTree = record { name = d.name; constructors = cs } in t)
    (map_own ConstructorTree GenericConstructorTree generic_constructor (copy_constructor nm (assign [] NoForm) NoForm) (constructor_own nm plain (assign [] NoForm)) d.constructors)

pub parameter_own : (nm : Naming) → IsPlainNaming nm → (m : Meant) (q : Parameter) → copy_parameter nm m (generic_parameter q) ≡ q
parameter_own nm plain m q = ap (λ (a : TypeName). let t : Parameter = record { name = q.name; ty = a } in t) (written_own nm plain m q.ty)

pub bare_nothing : BareScope []
bare_nothing x f e = absurd cc

bare_parameters : (m : Meant) (qs : List Parameter) → AllByRecursion IsBare (map (λ (q : GenericParameterTree). formed m q.ty) (map generic_parameter qs))
bare_parameters m [] = tt {0}
bare_parameters m (q ∷ qs) = (bare_written m q.ty, bare_parameters m qs)

bare_scope : (m : Meant) (qs : List Parameter) → BareScope (parameter_scope m (map generic_parameter qs))
bare_scope m qs = bare_binds (map (λ (q : GenericParameterTree). q.name) (map generic_parameter qs)) (map (λ (q : GenericParameterTree). formed m q.ty) (map generic_parameter qs)) [] bare_nothing (bare_parameters m qs)

pub results_own : (nm : Naming) → IsPlainNaming nm → (m : Meant) (r : Results TypeName) → map_results (copy_written nm m) (map_results written_of r) ≡ r
results_own nm plain m (One a) = ap One (written_own nm plain m a)
results_own nm plain m (Several as') = ap Several (map_own TypeName WrittenType written_of (copy_written nm m) (written_own nm plain m) as')

function_own_copy : (g : GenericGlobals) → BareGlobals g → (nm : Naming) → IsPlainNaming nm → (f : FunctionTree) → IsSingle (as_generic f.body) → copy_function g nm (generic_function f) NoForm ≡ placed_function f
function_own_copy g bared nm plain f single =
    let m = assign [] NoForm in
    let scope = parameter_scope m (map generic_parameter f.parameters) in
    ap (λ (n : ℕ). let t : FunctionTree = record { name = renamed f.name n; parameters = map (copy_parameter nm m) (map generic_parameter f.parameters); result = map_results (copy_written nm m) (map_results written_of f.result); body = copy g nm m scope (as_generic f.body) } in t) (plain.functions (number_of f.name))
    ∙ ap (λ (qs : List Parameter). let t : FunctionTree = record { name = f.name; parameters = qs; result = map_results (copy_written nm m) (map_results written_of f.result); body = copy g nm m scope (as_generic f.body) } in t)
    (map_own Parameter GenericParameterTree generic_parameter (copy_parameter nm m) (parameter_own nm plain m) f.parameters)
    ∙ ap (λ (a : Results TypeName). let t : FunctionTree = record { name = f.name; parameters = f.parameters; result = a; body = copy g nm m scope (as_generic f.body) } in t) (results_own nm plain m f.result)
    ∙ ap (λ (e : Expression). let t : FunctionTree = record { name = f.name; parameters = f.parameters; result = f.result; body = e } in t) (copy_own g bared nm plain m f.body scope (bare_scope m f.parameters) single ∙ bare_placed f.body single)

main_own_copy : (g : GenericGlobals) → BareGlobals g → (nm : Naming) → IsPlainNaming nm → (f : MainTree) → IsSingle (as_generic f.body) → copy_main g nm (generic_main f) ≡ record { parameter = f.parameter; result = f.result; body = placed f.body }
main_own_copy g bared nm plain f single =
    let m = assign [] NoForm in
    let scope = parameter_scope m (generic_parameter f.parameter ∷ []) in
    ap (λ (q : Parameter). let t : MainTree = record { parameter = q; result = copy_written nm m (written_of f.result); body = copy g nm m scope (as_generic f.body) } in t) (parameter_own nm plain m f.parameter)
    ∙ ap (λ (a : TypeName). let t : MainTree = record { parameter = f.parameter; result = a; body = copy g nm m scope (as_generic f.body) } in t) (written_own nm plain m f.result)
    ∙ ap (λ (e : Expression). let t : MainTree = record { parameter = f.parameter; result = f.result; body = e } in t) (copy_own g bared nm plain m f.body scope (bare_scope m (f.parameter ∷ [])) single ∙ bare_placed f.body single)

-- Programs

rows_bare : (ds : List DataTree) (c : ℕ) (row : GenericRow) → slice_get (rows_of (map generic_data ds)) c ≡ Some row → (as' : List TypeName) × (row.fields ≡ map written_of as')
rows_bare [] c row e = absurd cc
rows_bare (d ∷ ds) c row e =
    Rattle.std.proofs.Common.⊎_elim
    (λ (a : slice_get (map (row_of (generic_data d)) (map generic_constructor d.constructors)) c ≡ Some row).
    let k = map_found GenericConstructorTree GenericRow (row_of (generic_data d)) (map generic_constructor d.constructors) c row a in
    let t = map_found ConstructorTree GenericConstructorTree generic_constructor d.constructors c k.0 k.1 in
    ((t.0).fields, ap (λ (u : GenericRow). u.fields) k.2 ∙ ap (λ (u : GenericConstructorTree). u.fields) t.2))
    (λ (b : (j : ℕ) × (slice_get (rows_of (map generic_data ds)) j ≡ Some row) × (c ≡ length (map (row_of (generic_data d)) (map generic_constructor d.constructors)) + j)). rows_bare ds b.0 row b.1)
    (get_split GenericRow (map (row_of (generic_data d)) (map generic_constructor d.constructors)) (rows_of (map generic_data ds)) c row e)

functions_bare : (fs : List FunctionTree) (x : ℕ) (h : GenericFunctionTree) → generic_named (map generic_function fs) x ≡ Some h → (r : Results TypeName) × (h.result ≡ map_results written_of r)
functions_bare [] x h e = absurd cc
functions_bare (f ∷ fs) x h e = step (number_of f.name == x) e (functions_bare fs x h) where
  step : (b : Bool) → (if b then Some (generic_function f) else generic_named (map generic_function fs) x) ≡ Some h → (generic_named (map generic_function fs) x ≡ Some h → (r : Results TypeName) × (h.result ≡ map_results written_of r)) → (r : Results TypeName) × (h.result ≡ map_results written_of r)
  step true e go = (f.result, ap (λ (u : GenericFunctionTree). u.result) (sym (same_Some (generic_function f) h e)))
  step false e go = go e

bare_results : (m : Meant) (r : Results TypeName) → AreBareResults (map_results (formed m) (map_results written_of r))
bare_results m (One a) = (bare_written m a, tt {0})
bare_results m (Several as') = bare_all m as'

bare_globals : (p : ProgramTree) → BareGlobals (globals_of_generic (generic_of p))
bare_globals p = record {
  rows = λ c row e ts. let h = rows_bare p.datas c row e in subst (λ (ws : List WrittenType). AllByRecursion IsBare (map (formed (assign row.variables ts)) ws)) (sym h.1) (bare_all (assign row.variables ts) h.0);
  functions = λ x h e ts. let k = functions_bare p.functions x h e in subst (λ (r : Results WrittenType). AreBareResults (map_results (formed (assign h.variables ts)) r)) (sym k.1) (bare_results (assign h.variables ts) k.0);
}

pub datas_own : (nm : Naming) → IsPlainNaming nm → (ds : List DataTree) (fs : List FunctionTree) → map (λ (c : DataCopy). copy_data nm c.decl c.types) (datas_in (plain_datas (map generic_data ds) ++ plain_functions (map generic_function fs))) ≡ ds
datas_own nm plain [] [] = refl
datas_own nm plain [] (f ∷ fs) = datas_own nm plain [] fs
datas_own nm plain (d ∷ ds) fs =
    ap (λ (u : DataTree). u ∷ map (λ (c : DataCopy). copy_data nm c.decl c.types) (datas_in (plain_datas (map generic_data ds) ++ plain_functions (map generic_function fs)))) (data_own_copy nm plain d)
    ∙ ap (λ (us : List DataTree). d ∷ us) (datas_own nm plain ds fs)

functions_own : (g : GenericGlobals) → BareGlobals g → (nm : Naming) → IsPlainNaming nm → (ds : List DataTree) (fs : List FunctionTree) → AllByRecursion IsSingleFunction (map generic_function fs) →
    map (λ (c : FunctionCopy). copy_function g nm c.function c.types) (function_copies (plain_datas (map generic_data ds) ++ plain_functions (map generic_function fs))) ≡ map placed_function fs
functions_own g bared nm plain [] [] single = refl
functions_own g bared nm plain [] (f ∷ fs) single =
    ap (λ (u : FunctionTree). u ∷ map (λ (c : FunctionCopy). copy_function g nm c.function c.types) (function_copies (plain_functions (map generic_function fs)))) (function_own_copy g bared nm plain f single.0.1)
    ∙ ap (λ (us : List FunctionTree). placed_function f ∷ us) (functions_own g bared nm plain [] fs single.1)
functions_own g bared nm plain (d ∷ ds) fs single = functions_own g bared nm plain ds fs single

pub own_copy : (p : ProgramTree) (nm : Naming) → IsPlainNaming nm → IsSingleProgram (generic_of p) → copied_program (generic_of p) nm (plain_copies (generic_of p)) ≡ placed_program p
own_copy p nm plain single =
    let g = globals_of_generic (generic_of p) in
    let found = plain_copies (generic_of p) in
    ap (λ (ds : List DataTree). let t : ProgramTree = record { datas = ds; functions = map (λ (c : FunctionCopy). copy_function g nm c.function c.types) (function_copies found); main = copy_main g nm (generic_main p.main) } in t) (datas_own nm plain p.datas p.functions)
    ∙ ap (λ (fs : List FunctionTree). let t : ProgramTree = record { datas = p.datas; functions = fs; main = copy_main g nm (generic_main p.main) } in t) (functions_own g (bare_globals p) nm plain p.datas p.functions single.functions)
    ∙ ap (λ (f : MainTree). let t : ProgramTree = record { datas = p.datas; functions = map placed_function p.functions; main = f } in t) (main_own_copy g (bare_globals p) nm plain p.main single.main)

functions_placed : (fs : List FunctionTree) → AllByRecursion IsFineFunction fs → AllByRecursion IsSingleFunction (map generic_function fs) → map placed_function fs ≡ fs
functions_placed [] fine single = refl
functions_placed (f ∷ fs) fine single =
    ap (λ (e : Expression). let t : FunctionTree = record { name = f.name; parameters = f.parameters; result = f.result; body = e } in t ∷ map placed_function fs) (placed_own f.body fine.0.1 single.0.1)
    ∙ ap (λ (us : List FunctionTree). f ∷ us) (functions_placed fs fine.1 single.1)

pub own_placed_program : (p : ProgramTree) → IsFineProgram p → IsSingleProgram (generic_of p) → placed_program p ≡ p
own_placed_program p fine single =
    ap (λ (fs : List FunctionTree). let t : ProgramTree = record { datas = p.datas; functions = fs; main = record { parameter = p.main.parameter; result = p.main.result; body = placed p.main.body } } in t)
    (functions_placed p.functions fine.functions single.functions)
    ∙ ap (λ (e : Expression). let t : ProgramTree = record { datas = p.datas; functions = p.functions; main = record { parameter = p.main.parameter; result = p.main.result; body = e } } in t) (placed_own p.main.body fine.main single.main)
