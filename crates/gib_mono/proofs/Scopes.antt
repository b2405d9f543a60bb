-- Scopes of a program and of its copy.
use Rattle.std.proofs.Common.{◌≡◌, ℕ, Bool, true, false, ◌==◌, if◌then◌else◌, List, [], ◌∷◌, map, Option, Some, None, refl, sym, ap, ap₂, ◌∙◌, subst}
use Rattle.std.specs.Prelude.{slice_get}
use Rattle.std.specs.List.{AllByRecursion}
use Rattle.std.proofs.lemmas.Option.{same_Some}
use Rattle.gib_types.specs.declared.table.Ty.{Ty}
use Rattle.gib_base.specs.declared.Span.{Span}
use Rattle.gib_syntax.specs.declared.tree.Ident.{Ident}
use Rattle.gib_types.specs.declared.operator.Operator.{Operator}
use Rattle.gib_syntax.specs.declared.tree.Parameter.{Parameter}
use Rattle.gib_syntax.specs.Declarations.{number_of, type_of_name}
use Rattle.gib_syntax.specs.Typing.{type_in, BindsAll, parameter_types, result_types}
use Rattle.gib_types.specs.Operators.{operator_type}
use Rattle.gib_syntax.specs.Forms.{WrittenType, Form, Forms, WholeForm, TruthForm, VariableForm, DataForm, Meant, written_place, formed, formed_all, assign}
use Rattle.gib_syntax.specs.Results.{Results, One, Several, map_results, as_results, list_results}
use Rattle.gib_syntax.specs.GenericTree.{GenericExpression, GenericArguments, GenericNoArgument, GenericArgument, GenericArms, GenericVar, GenericNum, GenericBit, GenericParen, GenericOp, GenericCall, GenericMake, GenericLet, GenericPar, GenericIf, GenericCase, GenericTuple, GenericLastArm, GenericNextArm, GenericParameterTree, GenericFunctionTree, GenericRow, GenericGlobals, place_named}
use Rattle.gib_syntax.specs.GenericTyping.{FormScope, form_in, form_bound, BindsForms, operator_form, field_forms, parameter_forms, result_forms, HasForm, HaveForms, ArmsHaveForm}
use Rattle.gib_syntax.proofs.Operators.{either_scalar}
use Rattle.gib_mono.specs.Copying.{Naming, name_of_form, copy_written, plain_type, arguments_of, forms_named, owner_named, bind_forms, one_form, results_at, results_of, results_of_arms, forms_of_all, form_of, bound_forms, copy_parameter, copy_function}
use Rattle.gib_types.specs.Form.{form_or}
use Rattle.gib_mono.specs.Copied.{Item, IsItem, IsHere, Setting, plain, IsAsked, AreAsked, ArmsAsked, IsCopied, ScopeHere, plain_scope}

-- a written type of the copy is the type that is meant
pub named_plain : (nm : Naming) (types : List ℕ) (p : Span) (f : Form) → type_of_name types (name_of_form nm p f) ≡ plain_type nm types f
named_plain nm types p WholeForm = refl
named_plain nm types p TruthForm = refl
named_plain nm types p (VariableForm x) = refl
named_plain nm types p (DataForm t ts) = refl

pub operator_plain : (s : Setting) (f : Operator) → plain s (operator_form f) ≡ operator_type f
operator_plain s f = either_scalar (λ g u. plain s g ≡ u) refl refl f

in_step : (s : Setting) (b : Bool) (f g : Form) (rest : Option Form) (other : Option Ty) → (rest ≡ Some g → other ≡ Some (plain s g)) → (if b then Some f else rest) ≡ Some g → (if b then Some (plain s f) else other) ≡ Some (plain s g)
in_step s true f g rest other k e = ap (λ (u : Form). Some (plain s u)) (same_Some f g e)
in_step s false f g rest other k e = k e

pub in_plain : (s : Setting) (scope : FormScope) (x : ℕ) (g : Form) → form_in scope x ≡ Some g → type_in (plain_scope s scope) x ≡ Some (plain s g)
in_plain s [] x g e = absurd cc
in_plain s (b ∷ scope) x g e = in_step s (b.0 == x) b.1 g (form_in scope x) (type_in (plain_scope s scope) x) (in_plain s scope x g) e

new_step : (s : Setting) (b : Bool) (f : Form) (rest : Option Form) (other : Option Ty) → (rest ≡ None → other ≡ None) → (if b then Some f else rest) ≡ None → (if b then Some (plain s f) else other) ≡ None
new_step s true f rest other k e = absurd cc
new_step s false f rest other k e = k e

pub new_plain : (s : Setting) (scope : FormScope) (x : ℕ) → form_in scope x ≡ None → type_in (plain_scope s scope) x ≡ None
new_plain s [] x e = refl
new_plain s (b ∷ scope) x e = new_step s (b.0 == x) b.1 (form_in scope x) (type_in (plain_scope s scope) x) (new_plain s scope x) e

pub binds_plain : (s : Setting) (xs : List Ident) (fs : List Form) (scope inner : FormScope) → BindsForms scope xs fs inner → BindsAll (plain_scope s scope) xs (map (plain s) fs) (plain_scope s inner)
binds_plain s [] [] scope inner h = ap (plain_scope s) h
binds_plain s [] (f ∷ fs) scope inner h = absurd h
binds_plain s (x ∷ xs) [] scope inner h = absurd h
binds_plain s (x ∷ xs) (f ∷ fs) scope inner h = (new_plain s scope (number_of x) h.0, binds_plain s xs fs (form_bound x f scope) inner h.1)

pub binds_inner : (xs : List Ident) (fs : List Form) (scope inner : FormScope) → BindsForms scope xs fs inner → inner ≡ bind_forms xs fs scope
binds_inner [] [] scope inner h = h
binds_inner [] (f ∷ fs) scope inner h = absurd h
binds_inner (x ∷ xs) [] scope inner h = absurd h
binds_inner (x ∷ xs) (f ∷ fs) scope inner h = binds_inner xs fs (form_bound x f scope) inner h.1

here_step : (types : List Item) (b : Bool) (f g : Form) (rest : Option Form) → IsHere types f → (rest ≡ Some g → IsHere types g) → (if b then Some f else rest) ≡ Some g → IsHere types g
here_step types true f g rest h k e = subst (IsHere types) (same_Some f g e) h
here_step types false f g rest h k e = k e

pub bound_here : (s : Setting) (scope : FormScope) (x : Ident) (f : Form) → ScopeHere s scope → IsHere s.types f → ScopeHere s (form_bound x f scope)
bound_here s scope x f here h y g e = here_step s.types (number_of x == y) f g (form_in scope y) h (here y g) e

pub binds_here : (s : Setting) (xs : List Ident) (fs : List Form) (scope inner : FormScope) → BindsForms scope xs fs inner → ScopeHere s scope → AllByRecursion (IsHere s.types) fs → ScopeHere s inner
binds_here s [] [] scope inner h here all = subst (λ (u : FormScope). ScopeHere s u) (sym h) here
binds_here s [] (f ∷ fs) scope inner h here all = absurd h
binds_here s (x ∷ xs) [] scope inner h here all = absurd h
binds_here s (x ∷ xs) (f ∷ fs) scope inner h here all = binds_here s xs fs (form_bound x f scope) inner h.1 (bound_here s scope x f here all.0) all.1

-- what is found by a name
pub forms_is : (rows : List GenericRow) (p : Option ℕ) (c : ℕ) (row : GenericRow) (ts : Forms) → p ≡ Some c → slice_get rows c ≡ Some row → forms_named rows p ts ≡ field_forms row ts
forms_is rows p c row ts e f = rw e (rw f refl)

pub owner_is : (rows : List GenericRow) (p : Option ℕ) (c : ℕ) (row : GenericRow) → p ≡ Some c → slice_get rows c ≡ Some row → owner_named rows p ≡ row.owner
owner_is rows p c row e f = rw e (rw f refl)

pub arguments_is : (found : Option Form) (t : ℕ) (ts : Forms) → found ≡ Some (DataForm t ts) → arguments_of (form_or found) ≡ ts
arguments_is found t ts e = rw e refl

-- what an expression gives is what is computed
pub one_is : (r : Results Form) (t : Form) → r ≡ One t → one_form r ≡ t
one_is r t e = ap one_form e

list_is : (r : Results Form) (ts : List Form) → r ≡ as_results ts → list_results r ≡ ts
list_is r [] e = ap list_results e
list_is r (t ∷ []) e = ap list_results e
list_is r (t ∷ u ∷ us) e = ap list_results e

mutual
  pub results_are : (g : GenericGlobals) (vars : List ℕ) (m : Meant) (e : GenericExpression) (r : Results Form) (scope : FormScope) → HasForm g vars m scope e r → results_of g m scope e ≡ r
  results_are g vars m (GenericVar x) r scope h = ap (λ (o : Option Form). One (form_or o)) h.2 ∙ sym h.1
  results_are g vars m (GenericNum p n) r scope h = sym h
  results_are g vars m (GenericBit p b) r scope h = sym h
  results_are g vars m (GenericParen p e) r scope h = results_are g vars m e r scope h
  results_are g vars m (GenericOp p f a b) r scope h = sym h.0
  results_are g vars m (GenericCall f ws xs) r scope h = ap (λ (u : Option GenericFunctionTree). results_at u (formed_all m ws)) h.1 ∙ sym h.4
  results_are g vars m (GenericMake k ws xs) r scope h = ap (λ (n : ℕ). One (DataForm n (formed_all m ws))) (owner_is g.rows (place_named g.rows (number_of k)) h.0 h.1 h.2 h.3) ∙ sym h.6
  results_are g vars m (GenericLet p xs a b) r scope h =
      ap (λ (fs : List Form). results_of g m (bind_forms xs fs scope) b) (list_is (results_of g m scope a) h.0 (results_are g vars m a (as_results h.0) scope h.3))
      ∙ ap (λ (u : FormScope). results_of g m u b) (sym (binds_inner xs h.0 scope h.1 h.4)) ∙ results_are g vars m b r h.1 h.5
  results_are g vars m (GenericPar p xs a ys b c) r scope h =
      ap (λ (fs : List Form). results_of g m (bind_forms ys (bound_forms g m scope b) (bind_forms xs fs scope)) c) (list_is (results_of g m scope a) h.0 (results_are g vars m a (as_results h.0) scope h.6))
      ∙ ap (λ (fs : List Form). results_of g m (bind_forms ys fs (bind_forms xs h.0 scope)) c) (list_is (results_of g m scope b) h.1 (results_are g vars m b (as_results h.1) scope h.7))
      ∙ ap (λ (u : FormScope). results_of g m (bind_forms ys h.1 u) c) (sym (binds_inner xs h.0 scope h.2 h.8))
      ∙ ap (λ (u : FormScope). results_of g m u c) (sym (binds_inner ys h.1 h.2 h.3 h.9)) ∙ results_are g vars m c r h.3 h.10
  results_are g vars m (GenericIf p a b c) r scope h = results_are g vars m b r scope h.1
  results_are g vars m (GenericCase p x arms) r scope h =
      ap (λ (us : Forms). results_of_arms g m scope us arms) (arguments_is (form_in scope (number_of x)) h.0 h.1 h.2) ∙ arms_are g vars m arms r scope h.0 h.1 h.4
  results_are g vars m (GenericTuple p xs) r scope h = ap Several (forms_are g vars m xs h.0 scope h.2) ∙ sym h.1

  pub forms_are : (g : GenericGlobals) (vars : List ℕ) (m : Meant) (xs : GenericArguments) (ts : List Form) (scope : FormScope) → HaveForms g vars m scope xs ts → forms_of_all g m scope xs ≡ ts
  forms_are g vars m GenericNoArgument [] scope h = refl
  forms_are g vars m GenericNoArgument (t ∷ ts) scope h = absurd h
  forms_are g vars m (GenericArgument a xs) [] scope h = absurd h
  forms_are g vars m (GenericArgument a xs) (t ∷ ts) scope h =
      ap₂ (λ (f : Form) (fs : List Form). f ∷ fs) (one_is (results_of g m scope a) t (results_are g vars m a (One t) scope h.0)) (forms_are g vars m xs ts scope h.1)

  arms_are : (g : GenericGlobals) (vars : List ℕ) (m : Meant) (arms : GenericArms) (r : Results Form) (scope : FormScope) (t : ℕ) (ts : Forms) → ArmsHaveForm g vars m scope t ts arms r → results_of_arms g m scope ts arms ≡ r
  arms_are g vars m (GenericLastArm k xs e) r scope t ts h =
      ap (λ (fs : List Form). results_of g m (bind_forms xs fs scope) e) (forms_is g.rows (place_named g.rows (number_of k)) h.0 h.1 ts h.3 h.4)
      ∙ ap (λ (u : FormScope). results_of g m u e) (sym (binds_inner xs (field_forms h.1 ts) scope h.2 h.6)) ∙ results_are g vars m e r h.2 h.7
  arms_are g vars m (GenericNextArm k xs e arms) r scope t ts h =
      ap (λ (fs : List Form). results_of g m (bind_forms xs fs scope) e) (forms_is g.rows (place_named g.rows (number_of k)) h.0.0 h.0.1 ts h.0.3 h.0.4)
      ∙ ap (λ (u : FormScope). results_of g m u e) (sym (binds_inner xs (field_forms h.0.1 ts) scope h.0.2 h.0.6)) ∙ results_are g vars m e r h.0.2 h.0.7

pub bound_is : (g : GenericGlobals) (vars : List ℕ) (m : Meant) (e : GenericExpression) (ts : List Form) (scope : FormScope) → HasForm g vars m scope e (as_results ts) → bound_forms g m scope e ≡ ts
bound_is g vars m e ts scope h = list_is (results_of g m scope e) ts (results_are g vars m e (as_results ts) scope h)

operator_here : (s : Setting) (f : Operator) → IsHere s.types (operator_form f)
operator_here s f = either_scalar (λ g u. IsHere s.types g) (tt {0}) (tt {0}) f

-- the types of what is given are here
abbrev pub AreHereAll : List Item → Results Form → Type 0
AreHereAll types r = AllByRecursion (IsHere types) (list_results r)

one_here : (s : Setting) (r : Results Form) (t : Form) → r ≡ One t → IsHere s.types t → AreHereAll s.types r
one_here s r t e h = subst (AreHereAll s.types) (sym e) (h, tt {0})

pub bound_all_here : (s : Setting) (ts : List Form) → AreHereAll s.types (as_results ts) → AllByRecursion (IsHere s.types) ts
bound_all_here s [] h = tt {0}
bound_all_here s (t ∷ []) h = h
bound_all_here s (t ∷ u ∷ us) h = h

mutual
  pub results_here : (s : Setting) (copied : IsCopied s) (vars : List ℕ) (m : Meant) (e : GenericExpression) (r : Results Form) (scope : FormScope) →
      ScopeHere s scope → IsAsked s m e → HasForm s.from vars m scope e r → AreHereAll s.types r
  results_here s copied vars m (GenericVar x) r scope here asked h = one_here s r h.0 h.1 (here (number_of x) h.0 h.2)
  results_here s copied vars m (GenericNum p n) r scope here asked h = one_here s r WholeForm h (tt {0})
  results_here s copied vars m (GenericBit p b) r scope here asked h = one_here s r TruthForm h (tt {0})
  results_here s copied vars m (GenericParen p e) r scope here asked h = results_here s copied vars m e r scope here asked h
  results_here s copied vars m (GenericOp p f a b) r scope here asked h = one_here s r (operator_form f) h.0 (operator_here s f)
  results_here s copied vars m (GenericCall f ws xs) r scope here asked h = subst (AreHereAll s.types) (sym h.4) (copied.results_here (number_of f) h.0 (formed_all m ws) h.1 asked.0)
  results_here s copied vars m (GenericMake k ws xs) r scope here asked h =
      one_here s r (DataForm h.1.owner (formed_all m ws)) h.6
      (subst (λ (n : ℕ). IsItem s.types n (formed_all m ws)) (owner_is s.from.rows (place_named s.from.rows (number_of k)) h.0 h.1 h.2 h.3) asked.0, asked.1)
  results_here s copied vars m (GenericLet p xs a b) r scope here asked h =
      results_here s copied vars m b r h.1 (binds_here s xs h.0 scope h.1 h.4 here (bound_all_here s h.0 (results_here s copied vars m a (as_results h.0) scope here asked.0 h.3))) asked.1 h.5
  results_here s copied vars m (GenericPar p xs a ys b c) r scope here asked h =
      results_here s copied vars m c r h.3
      (binds_here s ys h.1 h.2 h.3 h.9 (binds_here s xs h.0 scope h.2 h.8 here (bound_all_here s h.0 (results_here s copied vars m a (as_results h.0) scope here asked.0 h.6))) (bound_all_here s h.1 (results_here s copied vars m b (as_results h.1) scope here asked.1 h.7)))
      asked.2 h.10
  results_here s copied vars m (GenericIf p a b c) r scope here asked h = results_here s copied vars m b r scope here asked.1 h.1
  results_here s copied vars m (GenericCase p x arms) r scope here asked h = arms_here s copied vars m arms r scope h.0 h.1 here (here (number_of x) (DataForm h.0 h.1) h.2).0 asked h.4
  results_here s copied vars m (GenericTuple p xs) r scope here asked h = subst (AreHereAll s.types) (sym h.1) (all_here s copied vars m xs h.0 scope here asked h.2)

  pub all_here : (s : Setting) (copied : IsCopied s) (vars : List ℕ) (m : Meant) (xs : GenericArguments) (ts : List Form) (scope : FormScope) →
      ScopeHere s scope → AreAsked s m xs → HaveForms s.from vars m scope xs ts → AllByRecursion (IsHere s.types) ts
  all_here s copied vars m GenericNoArgument [] scope here asked h = tt {0}
  all_here s copied vars m GenericNoArgument (t ∷ ts) scope here asked h = absurd h
  all_here s copied vars m (GenericArgument a xs) [] scope here asked h = absurd h
  all_here s copied vars m (GenericArgument a xs) (t ∷ ts) scope here asked h = ((results_here s copied vars m a (One t) scope here asked.0 h.0).0, all_here s copied vars m xs ts scope here asked.1 h.1)

  arms_here : (s : Setting) (copied : IsCopied s) (vars : List ℕ) (m : Meant) (arms : GenericArms) (r : Results Form) (scope : FormScope) (t : ℕ) (ts : Forms) →
      ScopeHere s scope → IsItem s.types t ts → ArmsAsked s m arms → ArmsHaveForm s.from vars m scope t ts arms r → AreHereAll s.types r
  arms_here s copied vars m (GenericLastArm k xs e) r scope t ts here item asked h =
      results_here s copied vars m e r h.2
      (binds_here s xs (field_forms h.1 ts) scope h.2 h.6 here (copied.fields_here h.0 h.1 ts h.4 (subst (λ (n : ℕ). IsItem s.types n ts) (sym h.5) item))) asked h.7
  arms_here s copied vars m (GenericNextArm k xs e arms) r scope t ts here item asked h =
      results_here s copied vars m e r h.0.2
      (binds_here s xs (field_forms h.0.1 ts) scope h.0.2 h.0.6 here (copied.fields_here h.0.0 h.0.1 ts h.0.4 (subst (λ (n : ℕ). IsItem s.types n ts) (sym h.0.5) item))) asked.0 h.0.7

-- types of parameters and of a result
pub parameters_step : (nm : Naming) (types : List ℕ) (m : Meant) (qs : List GenericParameterTree) →
    map (λ (q : Parameter). type_of_name types q.ty) (map (copy_parameter nm m) qs) ≡ map (plain_type nm types) (map (λ (q : GenericParameterTree). formed m q.ty) qs)
parameters_step nm types m [] = refl
parameters_step nm types m (q ∷ qs) =
    ap (λ (t : Ty). t ∷ map (λ (q : Parameter). type_of_name types q.ty) (map (copy_parameter nm m) qs)) (named_plain nm types (written_place q.ty) (formed m q.ty))
    ∙ ap (λ (ts : List Ty). plain_type nm types (formed m q.ty) ∷ ts) (parameters_step nm types m qs)

pub parameters_plain : (s : Setting) (h : GenericFunctionTree) (ts : Forms) → parameter_types s.to.table (copy_function s.from s.naming h ts) ≡ map (plain s) (parameter_forms h ts)
parameters_plain s h ts = parameters_step s.naming s.to.table.types (assign h.variables ts) h.parameters

pub result_plain : (s : Setting) (h : GenericFunctionTree) (ts : Forms) → result_types s.to.table (copy_function s.from s.naming h ts) ≡ map_results (plain s) (result_forms h ts)
result_plain s h ts = go h.result where
  m : Meant
  m = assign h.variables ts

  all : (ws : List WrittenType) → map (type_of_name s.to.table.types) (map (copy_written s.naming m) ws) ≡ map (plain s) (map (formed m) ws)
  all [] = refl
  all (w ∷ ws) = ap₂ (λ (t : Ty) (us : List Ty). t ∷ us) (named_plain s.naming s.to.table.types (written_place w) (formed m w)) (all ws)

  go : (r : Results WrittenType) → map_results (type_of_name s.to.table.types) (map_results (copy_written s.naming m) r) ≡ map_results (plain s) (map_results (formed m) r)
  go (One w) = ap One (named_plain s.naming s.to.table.types (written_place w) (formed m w))
  go (Several ws) = ap Several (all ws)
