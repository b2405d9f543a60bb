-- A typed program without type parameters is copied as it stands.
use Rattle.std.proofs.Common.{◌≡◌, ℕ, zero, suc, ◌+◌, Bool, true, false, ◌==◌, if◌then◌else◌, List, [], ◌∷◌, ◌++◌, map, length, Option, Some, None, refl, sym, ap, ap₂, ◌∙◌, subst}
use Rattle.std.specs.Prelude.{slice_get, Result, Ok}
use Rattle.std.specs.List.{AllByRecursion}
use Rattle.std.proofs.lemmas.Option.{same_Some}
use Rattle.std.proofs.lemmas.Bool.{or_left, or_right}
use Rattle.gib_base.specs.declared.Span.{Span}
use Rattle.gib_syntax.specs.declared.tree.Ident.{Ident}
use Rattle.gib_syntax.specs.declared.tree.TypeName.{TypeName}
use Rattle.gib_syntax.specs.declared.tree.TypeName.TheVariants as ty
use Rattle.gib_syntax.specs.declared.tree.Parameter.{Parameter}
use Rattle.gib_syntax.specs.Declarations.{number_of, place_of}
use Rattle.gib_syntax.specs.Tree.{Expression, ConstructorTree, DataTree, FunctionTree, MainTree, ProgramTree}
use Rattle.gib_syntax.specs.Plain.{as_generic, all_as_generic, arms_as_generic}
use Rattle.gib_syntax.specs.Results.{Results, One, Several, map_results, as_results, list_results}
use Rattle.gib_syntax.specs.Forms.{WrittenType, WrittenTypes, WholeAt, TruthAt, VariableAt, DataAt, NoType, MoreTypes, Form, Forms, WholeForm, TruthForm, DataForm, NoForm, Meant, formed, formed_all, assign, count_written}
use Rattle.gib_syntax.specs.GenericTree.{GenericExpression, GenericArguments, GenericArms, GenericVar, GenericNum, GenericBit, GenericParen, GenericOp, GenericCall, GenericMake, GenericLet, GenericPar, GenericIf, GenericCase, GenericTuple, GenericNoArgument, GenericArgument, GenericLastArm, GenericNextArm, GenericConstructorTree, GenericDataTree, GenericParameterTree, GenericFunctionTree, GenericMainTree, GenericProgramTree, GenericRow, row_of, rows_of, GenericGlobals, globals_of_generic, generic_named, data_named}
use Rattle.gib_syntax.specs.GenericTyping.{FormScope, HasForm, HaveForms, ArmsHaveForm, IsKnownType, AreKnownResults, HasKnownForm, HasKnownGenericFields, IsKnownData, IsTypedGenericFunction, IsTypedGenericHere, IsTypedGeneric, field_forms, parameter_forms, variable_numbers}
use Rattle.gib_mono.specs.Copying.{Naming, IsPlainNaming, renamed, copy_written, name_of_form, copy_constructor, copy_data, copy_parameter, copy_function, copy_main, parameter_scope, copy}
use Rattle.gib_mono.specs.Walk.{Ask, Copy, DataOf, FunctionOf, DataCopy, FunctionCopy, data_asked, function_asked, asked, same_copy, is_found, add_short, add_ask, with_found, add_asks, walk_one, walk, written_asks, results_asks, types_asks, asks, constructor_asks, function_asks, copy_asks, copies_asks, main_asks, plain_data, plain_datas, plain_function, plain_functions, plain_copies, copies_of, datas_in, function_copies, copied_program}
use Rattle.gib_types.specs.Form.{has_long}
use Rattle.gib_mono.specs.Bindings.{only_name, let_of, par_of}
use Rattle.gib_mono.specs.Bare.{IsOne, IsPlainData, IsPlainFunction, IsPlainProgram, IsSingle, AreSingle, HasSingle, IsSingleFunction, bare_written, bare, all_bare, arms_bare, bare_constructor, bare_data, bare_parameter, bare_function, bare_main, bare_program}
use Rattle.gib_mono.proofs.Closing.{data_found, parts_same}
use Rattle.gib_mono.proofs.Here.{get_split, map_found}
use Rattle.gib_mono.proofs.OwnCopy.{IsBare, BareGlobals, bare_binds, bare_nothing, copy_own}
use Rattle.gib_mono.proofs.OwnWalk.{Bare, bare_both, bare_asks, short_own, past}

-- Declarations without type variables

record PlainGlobals (g : GenericGlobals) : Type 0 where
  datas : AllByRecursion IsPlainData g.datas
  rows : (c : ℕ) (row : GenericRow) → slice_get g.rows c ≡ Some row → row.variables ≡ []
  functions : AllByRecursion IsPlainFunction g.functions

function_plain : (fs : List GenericFunctionTree) (x : ℕ) (f : GenericFunctionTree) → AllByRecursion IsPlainFunction fs → generic_named fs x ≡ Some f → f.variables ≡ []
function_plain [] x f h e = absurd cc
function_plain (b ∷ fs) x f h e = step (number_of b.name == x) e (function_plain fs x f h.1) where
  step : (t : Bool) → (if t then Some b else generic_named fs x) ≡ Some f → (generic_named fs x ≡ Some f → f.variables ≡ []) → f.variables ≡ []
  step true k go = subst IsPlainFunction (same_Some b f k) h.0
  step false k go = go k

rows_plain : (ds : List GenericDataTree) (c : ℕ) (row : GenericRow) → AllByRecursion IsPlainData ds → slice_get (rows_of ds) c ≡ Some row → row.variables ≡ []
rows_plain [] c row h e = absurd cc
rows_plain (d ∷ ds) c row h e =
    Rattle.std.proofs.Common.⊎_elim
    (λ (a : slice_get (map (row_of d) d.constructors) c ≡ Some row).
    let k = map_found GenericConstructorTree GenericRow (row_of d) d.constructors c row a in
    ap (λ (u : GenericRow). u.variables) k.2 ∙ h.0)
    (λ (b : (j : ℕ) × (slice_get (rows_of ds) j ≡ Some row) × (c ≡ length (map (row_of d) d.constructors) + j)). rows_plain ds b.0 row h.1 b.1)
    (get_split GenericRow (map (row_of d) d.constructors) (rows_of ds) c row e)

plain_globals : (p : GenericProgramTree) → IsPlainProgram p → PlainGlobals (globals_of_generic p)
plain_globals p h = record { datas = h.datas; rows = λ c row e. rows_plain p.datas c row h.datas e; functions = h.functions }

-- A typed expression has no type arguments

no_types : (ws : WrittenTypes) → count_written ws ≡ 0 → ws ≡ NoType
no_types NoType e = refl
no_types (MoreTypes w ws) e = absurd cc

-- a binding of one name is one when its type arguments are left out
let_back : (p : Span) (xs : List Ident) (a b : Expression) → IsOne xs → as_generic (let_of p (only_name xs) [] a b) ≡ GenericLet p xs (as_generic a) (as_generic b)
let_back p xs a b one = subst (λ (ys : List Ident). as_generic (let_of p (only_name ys) [] a b) ≡ GenericLet p ys (as_generic a) (as_generic b)) (sym one.1) refl

-- so are two sides of one name each
par_back : (p : Span) (xs ys : List Ident) (a b c : Expression) → IsOne xs → IsOne ys →
    as_generic (par_of p (only_name xs) [] a (only_name ys) [] b c) ≡ GenericPar p xs (as_generic a) ys (as_generic b) (as_generic c)
par_back p xs ys a b c one other =
    subst (λ (us : List Ident). as_generic (par_of p (only_name us) [] a (only_name ys) [] b c) ≡ GenericPar p us (as_generic a) ys (as_generic b) (as_generic c)) (sym one.1)
    (subst (λ (us : List Ident). as_generic (par_of p (Some one.0) [] a (only_name us) [] b c) ≡ GenericPar p (one.0 ∷ []) (as_generic a) us (as_generic b) (as_generic c)) (sym other.1) refl)

mutual
  own_tree : (g : GenericGlobals) → PlainGlobals g → (vars : List ℕ) (m : Meant) (e : GenericExpression) (scope : FormScope) (t : Results Form) → IsSingle e → HasForm g vars m scope e t → as_generic (bare e) ≡ e
  own_tree g plain vars m (GenericVar x) scope t single h = refl
  own_tree g plain vars m (GenericNum p n) scope t single h = refl
  own_tree g plain vars m (GenericBit p b) scope t single h = refl
  own_tree g plain vars m (GenericParen p e) scope t single h = ap (GenericParen p) (own_tree g plain vars m e scope t single h)
  own_tree g plain vars m (GenericOp p f a b) scope t single h = ap₂ (GenericOp p f) (own_tree g plain vars m a scope (One WholeForm) single.0 h.1) (own_tree g plain vars m b scope (One WholeForm) single.1 h.2)
  own_tree g plain vars m (GenericCall f ws xs) scope t single h =
      ap₂ (GenericCall f) (sym (no_types ws (h.2 ∙ ap length (function_plain g.functions (number_of f) h.0 plain.functions h.1)))) (own_trees g plain vars m xs scope (parameter_forms h.0 (formed_all m ws)) single h.5)
  own_tree g plain vars m (GenericMake k ws xs) scope t single h =
      ap₂ (GenericMake k) (sym (no_types ws (h.4 ∙ ap length (plain.rows h.0 h.1 h.3)))) (own_trees g plain vars m xs scope (field_forms h.1 (formed_all m ws)) single h.7)
  own_tree g plain vars m (GenericLet p xs a b) scope t single h =
      let_back p xs (bare a) (bare b) single.0 ∙ ap₂ (GenericLet p xs) (own_tree g plain vars m a scope (as_results h.0) single.1 h.3) (own_tree g plain vars m b h.1 t single.2 h.5)
  own_tree g plain vars m (GenericPar p xs a ys b c) scope t single h =
      par_back p xs ys (bare a) (bare b) (bare c) single.0 single.1
      ∙ ap (λ (u : GenericExpression). GenericPar p xs u ys (as_generic (bare b)) (as_generic (bare c))) (own_tree g plain vars m a scope (as_results h.0) single.2 h.6)
      ∙ ap₂ (GenericPar p xs a ys) (own_tree g plain vars m b scope (as_results h.1) single.3 h.7) (own_tree g plain vars m c h.3 t single.4 h.10)
  own_tree g plain vars m (GenericIf p a b c) scope t single h =
      ap (λ (u : GenericExpression). GenericIf p u (as_generic (bare b)) (as_generic (bare c))) (own_tree g plain vars m a scope (One TruthForm) single.0 h.0)
      ∙ ap₂ (λ (u v : GenericExpression). GenericIf p a u v) (own_tree g plain vars m b scope t single.1 h.1) (own_tree g plain vars m c scope t single.2 h.2)
  own_tree g plain vars m (GenericCase p x arms) scope t single h = ap (GenericCase p x) (own_arms g plain vars m arms scope h.0 h.1 t single h.4)
  own_tree g plain vars m (GenericTuple p xs) scope t single h = absurd single

  own_trees : (g : GenericGlobals) → PlainGlobals g → (vars : List ℕ) (m : Meant) (xs : GenericArguments) (scope : FormScope) (ts : List Form) → AreSingle xs → HaveForms g vars m scope xs ts → all_as_generic (all_bare xs) ≡ xs
  own_trees g plain vars m GenericNoArgument scope ts single h = refl
  own_trees g plain vars m (GenericArgument a xs) scope [] single h = absurd h
  own_trees g plain vars m (GenericArgument a xs) scope (t ∷ ts) single h = ap₂ GenericArgument (own_tree g plain vars m a scope (One t) single.0 h.0) (own_trees g plain vars m xs scope ts single.1 h.1)

  own_arms : (g : GenericGlobals) → PlainGlobals g → (vars : List ℕ) (m : Meant) (arms : GenericArms) (scope : FormScope) (n : ℕ) (ts : Forms) (t : Results Form) → HasSingle arms → ArmsHaveForm g vars m scope n ts arms t → arms_as_generic (arms_bare arms) ≡ arms
  own_arms g plain vars m (GenericLastArm k xs e) scope n ts t single h = ap (GenericLastArm k xs) (own_tree g plain vars m e h.2 t single h.7)
  own_arms g plain vars m (GenericNextArm k xs e arms) scope n ts t single h = ap₂ (GenericNextArm k xs) (own_tree g plain vars m e h.0.2 t single.0 h.0.7) (own_arms g plain vars m arms scope n ts t single.1 h.1)

-- A known type has no arguments

abbrev IsBareWritten : WrittenType → Type 0
IsBareWritten (WholeAt p) = Unit {0}
IsBareWritten (TruthAt p) = Unit {0}
IsBareWritten (VariableAt x) = ⊥
IsBareWritten (DataAt p x ws) = ws ≡ NoType

known_bare : (ds : List GenericDataTree) → AllByRecursion IsPlainData ds → (vars : List Ident) → vars ≡ [] → (w : WrittenType) → IsKnownType ds (variable_numbers vars) w → IsBareWritten w
known_bare ds plain vars none (WholeAt p) h = tt {0}
known_bare ds plain vars none (TruthAt p) h = tt {0}
known_bare ds plain vars none (VariableAt x) h = let e : place_of [] (number_of x) ≡ Some h.0 = subst (λ (vs : List Ident). place_of (variable_numbers vs) (number_of x) ≡ Some h.0) none h.1 in absurd cc
known_bare ds plain vars none (DataAt p x ws) h = no_types ws (h.2 ∙ ap length (data_found IsPlainData ds (number_of x) h.0 plain h.1))

all_known_bare : (ds : List GenericDataTree) → AllByRecursion IsPlainData ds → (vars : List Ident) → vars ≡ [] → (ws : List WrittenType) → AllByRecursion (IsKnownType ds (variable_numbers vars)) ws → AllByRecursion IsBareWritten ws
all_known_bare ds plain vars none [] h = tt {0}
all_known_bare ds plain vars none (w ∷ ws) h = (known_bare ds plain vars none w h.0, all_known_bare ds plain vars none ws h.1)

abbrev ParameterBare : GenericParameterTree → Type 0
ParameterBare q = IsBareWritten q.ty

parameters_bare : (ds : List GenericDataTree) → AllByRecursion IsPlainData ds → (vars : List Ident) → vars ≡ [] → (qs : List GenericParameterTree) → AllByRecursion (HasKnownForm ds (variable_numbers vars)) qs → AllByRecursion ParameterBare qs
parameters_bare ds plain vars none [] h = tt {0}
parameters_bare ds plain vars none (q ∷ qs) h = (known_bare ds plain vars none q.ty h.0, parameters_bare ds plain vars none qs h.1)

abbrev ConstructorBare : GenericConstructorTree → Type 0
ConstructorBare c = AllByRecursion IsBareWritten c.fields

constructors_bare : (ds : List GenericDataTree) → AllByRecursion IsPlainData ds → (vars : List Ident) → vars ≡ [] → (cs : List GenericConstructorTree) → AllByRecursion (HasKnownGenericFields ds (variable_numbers vars)) cs → AllByRecursion ConstructorBare cs
constructors_bare ds plain vars none [] h = tt {0}
constructors_bare ds plain vars none (c ∷ cs) h = (all_known_bare ds plain vars none c.fields h.0.1, constructors_bare ds plain vars none cs h.1)

abbrev ResultsBare : Results WrittenType → Type 0
ResultsBare r = AllByRecursion IsBareWritten (list_results r)

results_known_bare : (ds : List GenericDataTree) → AllByRecursion IsPlainData ds → (vars : List Ident) → vars ≡ [] → (r : Results WrittenType) → AreKnownResults ds (variable_numbers vars) r → ResultsBare r
results_known_bare ds plain vars none (One w) h = (known_bare ds plain vars none w h, tt {0})
results_known_bare ds plain vars none (Several ws) h = all_known_bare ds plain vars none ws h.1

-- What is left of the types in a declaration, and of its body
record FunctionBare (qs : List GenericParameterTree) (r : Results WrittenType) (e : GenericExpression) : Type 0 where
  parameters : AllByRecursion ParameterBare qs
  result : ResultsBare r
  body : as_generic (bare e) ≡ e
  single : IsSingle e

function_is_bare : (g : GenericGlobals) → PlainGlobals g → (vs : List Ident) (qs : List GenericParameterTree) (r : Results WrittenType) (e : GenericExpression) → vs ≡ [] → IsSingle e → IsTypedGenericFunction g vs qs r e → FunctionBare qs r e
function_is_bare g plain vs qs r e none single h = record {
  parameters = parameters_bare g.datas plain.datas vs none qs h.known;
  result = results_known_bare g.datas plain.datas vs none r h.known_result;
  body = own_tree g plain (variable_numbers vs) Rattle.gib_syntax.specs.GenericTyping.opaque e h.scope (map_results (formed Rattle.gib_syntax.specs.GenericTyping.opaque) r) single h.typed;
  single = single;
}

abbrev DataBare : GenericDataTree → Type 0
DataBare d = (d.variables ≡ []) × AllByRecursion ConstructorBare d.constructors

abbrev HereBare : GenericFunctionTree → Type 0
HereBare f = (f.variables ≡ []) × FunctionBare f.parameters f.result f.body

datas_bare : (all ds : List GenericDataTree) → AllByRecursion IsPlainData all → AllByRecursion IsPlainData ds → AllByRecursion (IsKnownData all) ds → AllByRecursion DataBare ds
datas_bare all [] plain h k = tt {0}
datas_bare all (d ∷ ds) plain h k = ((h.0, constructors_bare all plain d.variables h.0 d.constructors k.0.1), datas_bare all ds plain h.1 k.1)

functions_bare : (g : GenericGlobals) → PlainGlobals g → (fs : List GenericFunctionTree) → AllByRecursion IsPlainFunction fs → AllByRecursion IsSingleFunction fs → AllByRecursion (IsTypedGenericHere g) fs → AllByRecursion HereBare fs
functions_bare g plain [] h single k = tt {0}
functions_bare g plain (f ∷ fs) h single k = ((h.0, function_is_bare g plain f.variables f.parameters f.result f.body h.0 single.0.1 k.0), functions_bare g plain fs h.1 single.1 k.1)

pub record ProgramBare (p : GenericProgramTree) : Type 0 where
  datas : AllByRecursion DataBare p.datas
  functions : AllByRecursion HereBare p.functions
  main : FunctionBare (p.main.parameter ∷ []) (One p.main.result) p.main.body

pub program_bare : (p : GenericProgramTree) → IsPlainProgram p → IsTypedGeneric p → ProgramBare p
program_bare p h typed =
    let g = globals_of_generic p in
    let plain = plain_globals p h in
    record {
      datas = datas_bare p.datas p.datas h.datas h.datas typed.datas;
      functions = functions_bare g plain p.functions h.functions h.singles typed.functions;
      main = function_is_bare g plain [] (p.main.parameter ∷ []) (One p.main.result) p.main.body refl h.main typed.main;
    }

-- Uses have no types

uses_written : (m : Meant) (w : WrittenType) → IsBareWritten w → Bare (written_asks m w)
uses_written m (WholeAt p) h = tt {0}
uses_written m (TruthAt p) h = tt {0}
uses_written m (VariableAt x) h = tt {0}
uses_written m (DataAt p x ws) h = subst (λ (us : WrittenTypes). Bare (written_asks m (DataAt p x us))) (sym h) (refl, tt {0})

uses_types : (m : Meant) (ws : List WrittenType) → AllByRecursion IsBareWritten ws → Bare (types_asks m ws)
uses_types m [] h = tt {0}
uses_types m (w ∷ ws) h = bare_both (written_asks m w) (types_asks m ws) (uses_written m w h.0) (uses_types m ws h.1)

uses_constructors : (m : Meant) (cs : List GenericConstructorTree) → AllByRecursion ConstructorBare cs → Bare (constructor_asks m cs)
uses_constructors m [] h = tt {0}
uses_constructors m (c ∷ cs) h = bare_both (types_asks m c.fields) (constructor_asks m cs) (uses_types m c.fields h.0) (uses_constructors m cs h.1)

uses_parameters : (m : Meant) (qs : List GenericParameterTree) → AllByRecursion ParameterBare qs → Bare (types_asks m (map (λ (q : GenericParameterTree). q.ty) qs))
uses_parameters m [] h = tt {0}
uses_parameters m (q ∷ qs) h = bare_both (written_asks m q.ty) (types_asks m (map (λ (q : GenericParameterTree). q.ty) qs)) (uses_written m q.ty h.0) (uses_parameters m qs h.1)

uses_results : (m : Meant) (r : Results WrittenType) → ResultsBare r → Bare (results_asks m r)
uses_results m (One w) h = uses_written m w h.0
uses_results m (Several ws) h = uses_types m ws h

uses_function : (rows : List GenericRow) (m : Meant) (qs : List GenericParameterTree) (r : Results WrittenType) (e : GenericExpression) → FunctionBare qs r e → Bare (function_asks rows m qs r e)
uses_function rows m qs r e h =
    bare_both (types_asks m (map (λ (q : GenericParameterTree). q.ty) qs)) (results_asks m r ++ asks rows m e) (uses_parameters m qs h.parameters)
    (bare_both (results_asks m r) (asks rows m e) (uses_results m r h.result) (subst (λ (u : GenericExpression). Bare (asks rows m u)) h.body (bare_asks rows m (bare e))))

uses_copies : (rows : List GenericRow) (ds : List GenericDataTree) (fs : List GenericFunctionTree) → AllByRecursion DataBare ds → AllByRecursion HereBare fs → Bare (copies_asks rows (plain_datas ds ++ plain_functions fs))
uses_copies rows [] [] h k = tt {0}
uses_copies rows [] (f ∷ fs) h k =
    subst (λ (vs : List Ident). Bare (copies_asks rows (plain_function f vs (plain_functions fs)))) (sym k.0.0)
    (bare_both (copy_asks rows (FunctionOf f NoForm)) (copies_asks rows (plain_functions fs)) (uses_function rows (assign f.variables NoForm) f.parameters f.result f.body k.0.1) (uses_copies rows [] fs h k.1))
uses_copies rows (d ∷ ds) fs h k =
    subst (λ (vs : List Ident). Bare (copies_asks rows (plain_data d vs (plain_datas ds) ++ plain_functions fs))) (sym h.0.0)
    (bare_both (copy_asks rows (DataOf d NoForm)) (copies_asks rows (plain_datas ds ++ plain_functions fs)) (uses_constructors (assign d.variables NoForm) d.constructors h.0.1) (uses_copies rows ds fs h.1 k))

-- What a name finds is among the copies

data_there : (ds : List GenericDataTree) (fs : List Copy) (x : ℕ) (d : GenericDataTree) → AllByRecursion IsPlainData ds → data_named ds x ≡ Some d → is_found (plain_datas ds ++ fs) (DataOf d NoForm) ≡ true
data_there [] fs x d h e = absurd cc
data_there (b ∷ ds) fs x d h e =
    subst (λ (vs : List Ident). is_found (plain_data b vs (plain_datas ds) ++ fs) (DataOf d NoForm) ≡ true) (sym h.0) (step (number_of b.name == x) e (data_there ds fs x d h.1)) where
      step : (t : Bool) → (if t then Some b else data_named ds x) ≡ Some d → (data_named ds x ≡ Some d → is_found (plain_datas ds ++ fs) (DataOf d NoForm) ≡ true) → is_found (DataOf b NoForm ∷ (plain_datas ds ++ fs)) (DataOf d NoForm) ≡ true
      step true k go =
          or_left (same_copy (DataOf b NoForm) (DataOf d NoForm)) (is_found (plain_datas ds ++ fs) (DataOf d NoForm))
          (parts_same (number_of b.name) (number_of d.name) NoForm NoForm (ap (λ (u : GenericDataTree). number_of u.name) (same_Some b d k)) refl)
      step false k go = or_right (same_copy (DataOf b NoForm) (DataOf d NoForm)) (is_found (plain_datas ds ++ fs) (DataOf d NoForm)) (go k)

function_there : (fs : List GenericFunctionTree) (x : ℕ) (f : GenericFunctionTree) → AllByRecursion IsPlainFunction fs → generic_named fs x ≡ Some f → is_found (plain_functions fs) (FunctionOf f NoForm) ≡ true
function_there [] x f h e = absurd cc
function_there (b ∷ fs) x f h e =
    subst (λ (vs : List Ident). is_found (plain_function b vs (plain_functions fs)) (FunctionOf f NoForm) ≡ true) (sym h.0) (step (number_of b.name == x) e (function_there fs x f h.1)) where
      step : (t : Bool) → (if t then Some b else generic_named fs x) ≡ Some f → (generic_named fs x ≡ Some f → is_found (plain_functions fs) (FunctionOf f NoForm) ≡ true) → is_found (FunctionOf b NoForm ∷ plain_functions fs) (FunctionOf f NoForm) ≡ true
      step true k go =
          or_left (same_copy (FunctionOf b NoForm) (FunctionOf f NoForm)) (is_found (plain_functions fs) (FunctionOf f NoForm))
          (parts_same (number_of b.name) (number_of f.name) NoForm NoForm (ap (λ (u : GenericFunctionTree). number_of u.name) (same_Some b f k)) refl)
      step false k go = or_right (same_copy (FunctionOf b NoForm) (FunctionOf f NoForm)) (is_found (plain_functions fs) (FunctionOf f NoForm)) (go k)

function_behind : (ds : List GenericDataTree) (fs : List Copy) (c : Copy) → AllByRecursion IsPlainData ds → is_found fs c ≡ true → is_found (plain_datas ds ++ fs) c ≡ true
function_behind [] fs c h k = k
function_behind (d ∷ ds) fs c h k =
    subst (λ (vs : List Ident). is_found (plain_data d vs (plain_datas ds) ++ fs) c ≡ true) (sym h.0) (or_right (same_copy (DataOf d NoForm) c) (is_found (plain_datas ds ++ fs) c) (function_behind ds fs c h.1 k))

asked_there : (p : GenericProgramTree) → IsPlainProgram p → (b : Bool) (x : ℕ) (c : Copy) → asked (globals_of_generic p) b x NoForm ≡ Some c → is_found (plain_copies p) c ≡ true
asked_there p plain true x c e = step (generic_named p.functions x) refl e where
  step : (o : Option GenericFunctionTree) → generic_named p.functions x ≡ o → function_asked o NoForm ≡ Some c → is_found (plain_copies p) c ≡ true
  step None h k = absurd cc
  step (Some f) h k =
      subst (λ (u : Copy). is_found (plain_copies p) u ≡ true) (same_Some (FunctionOf f NoForm) c k) (function_behind p.datas (plain_functions p.functions) (FunctionOf f NoForm) plain.datas (function_there p.functions x f plain.functions h))
asked_there p plain false x c e = step (data_named p.datas x) refl e where
  step : (o : Option GenericDataTree) → data_named p.datas x ≡ o → data_asked o NoForm ≡ Some c → is_found (plain_copies p) c ≡ true
  step None h k = absurd cc
  step (Some d) h k = subst (λ (u : Copy). is_found (plain_copies p) u ≡ true) (same_Some (DataOf d NoForm) c k) (data_there p.datas (plain_functions p.functions) x d plain.datas h)

ask_own : (p : GenericProgramTree) → IsPlainProgram p → (a : Ask) → a.types ≡ NoForm → add_ask (globals_of_generic p) (plain_copies p) a ≡ Ok (plain_copies p)
ask_own p plain a e =
    ap (λ (ts : Forms). add_short (plain_copies p) (asked (globals_of_generic p) a.function a.name ts) a.span (has_long ts)) e
    ∙ short_own (plain_copies p) (asked (globals_of_generic p) a.function a.name NoForm) a.span (asked_there p plain a.function a.name)

asks_own : (p : GenericProgramTree) → IsPlainProgram p → (as' : List Ask) → Bare as' → add_asks (globals_of_generic p) (plain_copies p) as' ≡ Ok (plain_copies p)
asks_own p plain [] h = refl
asks_own p plain (a ∷ as') h =
    ap (λ (r : Result (List Copy) Span). with_found r (λ u. add_asks (globals_of_generic p) u as')) (ask_own p plain a h.0) ∙ asks_own p plain as' h.1

pub bare_walk : (p : GenericProgramTree) → IsTypedGeneric p → IsPlainProgram p → copies_of p ≡ Ok (plain_copies p)
bare_walk p typed plain =
    let g = globals_of_generic p in
    let found = plain_copies p in
    let bared = program_bare p plain typed in
    ap (λ (r : Result (List Copy) Span). with_found r (λ u. walk 1201 g u (length found)))
    (asks_own p plain (copies_asks g.rows found ++ main_asks p)
    (bare_both (copies_asks g.rows found) (main_asks p) (uses_copies g.rows p.datas p.functions bared.datas bared.functions) (uses_function g.rows (assign [] NoForm) (p.main.parameter ∷ []) (One p.main.result) p.main.body bared.main)))
    ∙ ap (λ (o : Option Copy). walk_one g found o (λ u. walk 1200 g u (suc (length found)))) (past found)

-- The copy

form_bare : (m : Meant) (w : WrittenType) → IsBareWritten w → IsBare (formed m w)
form_bare m (WholeAt p) h = refl
form_bare m (TruthAt p) h = refl
form_bare m (VariableAt x) h = absurd h
form_bare m (DataAt p x ws) h = ap (formed_all m) h

forms_bare : (m : Meant) (ws : List WrittenType) → AllByRecursion IsBareWritten ws → AllByRecursion IsBare (map (formed m) ws)
forms_bare m [] h = tt {0}
forms_bare m (w ∷ ws) h = (form_bare m w h.0, forms_bare m ws h.1)

parameter_forms_bare : (m : Meant) (qs : List GenericParameterTree) → AllByRecursion ParameterBare qs → AllByRecursion IsBare (map (λ (q : GenericParameterTree). formed m q.ty) qs)
parameter_forms_bare m [] h = tt {0}
parameter_forms_bare m (q ∷ qs) h = (form_bare m q.ty h.0, parameter_forms_bare m qs h.1)

constructor_at : (cs : List GenericConstructorTree) (i : ℕ) (c : GenericConstructorTree) → AllByRecursion ConstructorBare cs → slice_get cs i ≡ Some c → ConstructorBare c
constructor_at [] i c h e = absurd cc
constructor_at (b ∷ cs) zero c h e = subst ConstructorBare (same_Some b c e) h.0
constructor_at (b ∷ cs) (suc i) c h e = constructor_at cs i c h.1 e

row_bare : (ds : List GenericDataTree) (c : ℕ) (row : GenericRow) → AllByRecursion DataBare ds → slice_get (rows_of ds) c ≡ Some row → AllByRecursion IsBareWritten row.fields
row_bare [] c row h e = absurd cc
row_bare (d ∷ ds) c row h e =
    Rattle.std.proofs.Common.⊎_elim
    (λ (a : slice_get (map (row_of d) d.constructors) c ≡ Some row).
    let k = map_found GenericConstructorTree GenericRow (row_of d) d.constructors c row a in
    subst (λ (u : GenericRow). AllByRecursion IsBareWritten u.fields) (sym k.2) (constructor_at d.constructors c k.0 h.0.1 k.1))
    (λ (b : (j : ℕ) × (slice_get (rows_of ds) j ≡ Some row) × (c ≡ length (map (row_of d) d.constructors) + j)). row_bare ds b.0 row h.1 b.1)
    (get_split GenericRow (map (row_of d) d.constructors) (rows_of ds) c row e)

results_bare : (m : Meant) (r : Results WrittenType) → ResultsBare r → AllByRecursion IsBare (list_results (map_results (formed m) r))
results_bare m (One w) h = (form_bare m w h.0, tt {0})
results_bare m (Several ws) h = forms_bare m ws h

result_bare : (fs : List GenericFunctionTree) (x : ℕ) (f : GenericFunctionTree) → AllByRecursion HereBare fs → generic_named fs x ≡ Some f → ResultsBare f.result
result_bare [] x f h e = absurd cc
result_bare (b ∷ fs) x f h e = step (number_of b.name == x) e (result_bare fs x f h.1) where
  step : (t : Bool) → (if t then Some b else generic_named fs x) ≡ Some f → (generic_named fs x ≡ Some f → ResultsBare f.result) → ResultsBare f.result
  step true k go = subst (λ (u : GenericFunctionTree). ResultsBare u.result) (same_Some b f k) h.0.1.result
  step false k go = go k

globals_bare : (p : GenericProgramTree) → ProgramBare p → BareGlobals (globals_of_generic p)
globals_bare p h = record {
  rows = λ c row e ts. forms_bare (assign row.variables ts) row.fields (row_bare p.datas c row h.datas e);
  functions = λ x f e ts. results_bare (assign f.variables ts) f.result (result_bare p.functions x f h.functions e);
}

written_own : (nm : Naming) → IsPlainNaming nm → (m : Meant) (w : WrittenType) → IsBareWritten w → copy_written nm m w ≡ bare_written w
written_own nm plain m (WholeAt p) h = refl
written_own nm plain m (TruthAt p) h = refl
written_own nm plain m (VariableAt x) h = absurd h
written_own nm plain m (DataAt p x ws) h =
    ap (λ (us : WrittenTypes). name_of_form nm p (DataForm (number_of x) (formed_all m us))) h
    ∙ ap (λ (n : ℕ). ty.Declared (record { name = record { 0 = n }; span = p })) (plain.types (number_of x))

all_written_own : (nm : Naming) → IsPlainNaming nm → (m : Meant) (ws : List WrittenType) → AllByRecursion IsBareWritten ws → map (copy_written nm m) ws ≡ map bare_written ws
all_written_own nm plain m [] h = refl
all_written_own nm plain m (w ∷ ws) h = ap₂ (λ (u : TypeName) (us : List TypeName). u ∷ us) (written_own nm plain m w h.0) (all_written_own nm plain m ws h.1)

results_own : (nm : Naming) → IsPlainNaming nm → (m : Meant) (r : Results WrittenType) → ResultsBare r → map_results (copy_written nm m) r ≡ map_results bare_written r
results_own nm plain m (One w) h = ap One (written_own nm plain m w h.0)
results_own nm plain m (Several ws) h = ap Several (all_written_own nm plain m ws h)

constructors_own : (nm : Naming) → IsPlainNaming nm → (m : Meant) (cs : List GenericConstructorTree) → AllByRecursion ConstructorBare cs → map (copy_constructor nm m NoForm) cs ≡ map bare_constructor cs
constructors_own nm plain m [] h = refl
constructors_own nm plain m (c ∷ cs) h =
    ap₂ (λ (u : ConstructorTree) (us : List ConstructorTree). u ∷ us)
    (ap₂ (λ (n : ℕ) (ws : List TypeName). let t : ConstructorTree = record { name = renamed c.name n; fields = ws } in t) (plain.constructors (number_of c.name)) (all_written_own nm plain m c.fields h.0))
    (constructors_own nm plain m cs h.1)

data_own : (nm : Naming) → IsPlainNaming nm → (d : GenericDataTree) → AllByRecursion ConstructorBare d.constructors → copy_data nm d NoForm ≡ bare_data d
data_own nm plain d h =
    ap₂ (λ (n : ℕ) (cs : List ConstructorTree). let t : DataTree = record { name = renamed d.name n; constructors = cs } in t) (plain.types (number_of d.name)) (constructors_own nm plain (assign d.variables NoForm) d.constructors h)

parameters_own : (nm : Naming) → IsPlainNaming nm → (m : Meant) (qs : List GenericParameterTree) → AllByRecursion ParameterBare qs → map (copy_parameter nm m) qs ≡ map bare_parameter qs
parameters_own nm plain m [] h = refl
parameters_own nm plain m (q ∷ qs) h =
    ap₂ (λ (u : Parameter) (us : List Parameter). u ∷ us) (ap (λ (a : TypeName). let t : Parameter = record { name = q.name; ty = a } in t) (written_own nm plain m q.ty h.0)) (parameters_own nm plain m qs h.1)

body_own : (g : GenericGlobals) → BareGlobals g → (nm : Naming) → IsPlainNaming nm → (m : Meant) (qs : List GenericParameterTree) (e : GenericExpression) → AllByRecursion ParameterBare qs → as_generic (bare e) ≡ e → IsSingle e → copy g nm m (parameter_scope m qs) e ≡ bare e
body_own g bared nm plain m qs e h k single =
    ap (copy g nm m (parameter_scope m qs)) (sym k)
    ∙ copy_own g bared nm plain m (bare e) (parameter_scope m qs) (bare_binds (map (λ (q : GenericParameterTree). q.name) qs) (map (λ (q : GenericParameterTree). formed m q.ty) qs) [] bare_nothing (parameter_forms_bare m qs h)) (subst IsSingle (sym k) single)
    ∙ ap bare k

function_own : (g : GenericGlobals) → BareGlobals g → (nm : Naming) → IsPlainNaming nm → (f : GenericFunctionTree) → FunctionBare f.parameters f.result f.body → copy_function g nm f NoForm ≡ bare_function f
function_own g bared nm plain f h =
    let m = assign f.variables NoForm in
    ap (λ (n : ℕ). let t : FunctionTree = record { name = renamed f.name n; parameters = map (copy_parameter nm m) f.parameters; result = map_results (copy_written nm m) f.result; body = copy g nm m (parameter_scope m f.parameters) f.body } in t) (plain.functions (number_of f.name))
    ∙ ap (λ (qs : List Parameter). let t : FunctionTree = record { name = f.name; parameters = qs; result = map_results (copy_written nm m) f.result; body = copy g nm m (parameter_scope m f.parameters) f.body } in t) (parameters_own nm plain m f.parameters h.parameters)
    ∙ ap₂ (λ (a : Results TypeName) (e : Expression). let t : FunctionTree = record { name = f.name; parameters = map bare_parameter f.parameters; result = a; body = e } in t) (results_own nm plain m f.result h.result) (body_own g bared nm plain m f.parameters f.body h.parameters h.body h.single)

main_own : (g : GenericGlobals) → BareGlobals g → (nm : Naming) → IsPlainNaming nm → (f : GenericMainTree) → FunctionBare (f.parameter ∷ []) (One f.result) f.body → copy_main g nm f ≡ bare_main f
main_own g bared nm plain f h =
    let m = assign [] NoForm in
    ap (λ (a : TypeName). let t : MainTree = record { parameter = record { name = f.parameter.name; ty = a }; result = copy_written nm m f.result; body = copy g nm m (parameter_scope m (f.parameter ∷ [])) f.body } in t) (written_own nm plain m f.parameter.ty h.parameters.0)
    ∙ ap₂ (λ (a : TypeName) (e : Expression). let t : MainTree = record { parameter = bare_parameter f.parameter; result = a; body = e } in t) (written_own nm plain m f.result h.result.0) (body_own g bared nm plain m (f.parameter ∷ []) f.body h.parameters h.body h.single)

datas_own : (nm : Naming) → IsPlainNaming nm → (ds : List GenericDataTree) (fs : List GenericFunctionTree) → AllByRecursion DataBare ds → AllByRecursion HereBare fs
    → map (λ (c : DataCopy). copy_data nm c.decl c.types) (datas_in (plain_datas ds ++ plain_functions fs)) ≡ map bare_data ds
datas_own nm plain [] [] h k = refl
datas_own nm plain [] (f ∷ fs) h k =
    subst (λ (vs : List Ident). map (λ (c : DataCopy). copy_data nm c.decl c.types) (datas_in (plain_function f vs (plain_functions fs))) ≡ []) (sym k.0.0) (datas_own nm plain [] fs h k.1)
datas_own nm plain (d ∷ ds) fs h k =
    subst (λ (vs : List Ident). map (λ (c : DataCopy). copy_data nm c.decl c.types) (datas_in (plain_data d vs (plain_datas ds) ++ plain_functions fs)) ≡ map bare_data (d ∷ ds)) (sym h.0.0)
    (ap₂ (λ (u : DataTree) (us : List DataTree). u ∷ us) (data_own nm plain d h.0.1) (datas_own nm plain ds fs h.1 k))

functions_own : (g : GenericGlobals) → BareGlobals g → (nm : Naming) → IsPlainNaming nm → (ds : List GenericDataTree) (fs : List GenericFunctionTree) → AllByRecursion DataBare ds → AllByRecursion HereBare fs
    → map (λ (c : FunctionCopy). copy_function g nm c.function c.types) (function_copies (plain_datas ds ++ plain_functions fs)) ≡ map bare_function fs
functions_own g bared nm plain [] [] h k = refl
functions_own g bared nm plain [] (f ∷ fs) h k =
    subst (λ (vs : List Ident). map (λ (c : FunctionCopy). copy_function g nm c.function c.types) (function_copies (plain_function f vs (plain_functions fs))) ≡ map bare_function (f ∷ fs)) (sym k.0.0)
    (ap₂ (λ (u : FunctionTree) (us : List FunctionTree). u ∷ us) (function_own g bared nm plain f k.0.1) (functions_own g bared nm plain [] fs h k.1))
functions_own g bared nm plain (d ∷ ds) fs h k =
    subst (λ (vs : List Ident). map (λ (c : FunctionCopy). copy_function g nm c.function c.types) (function_copies (plain_data d vs (plain_datas ds) ++ plain_functions fs)) ≡ map bare_function fs) (sym h.0.0)
    (functions_own g bared nm plain ds fs h.1 k)

pub bare_copy : (p : GenericProgramTree) (nm : Naming) → IsPlainNaming nm → IsTypedGeneric p → IsPlainProgram p → copied_program p nm (plain_copies p) ≡ bare_program p
bare_copy p nm plain typed none =
    let g = globals_of_generic p in
    let found = plain_copies p in
    let bared = program_bare p none typed in
    let globals = globals_bare p bared in
    ap (λ (ds : List DataTree). let t : ProgramTree = record { datas = ds; functions = map (λ (c : FunctionCopy). copy_function g nm c.function c.types) (function_copies found); main = copy_main g nm p.main } in t) (datas_own nm plain p.datas p.functions bared.datas bared.functions)
    ∙ ap₂ (λ (fs : List FunctionTree) (f : MainTree). let t : ProgramTree = record { datas = map bare_data p.datas; functions = fs; main = f } in t) (functions_own g globals nm plain p.datas p.functions bared.datas bared.functions) (main_own g globals nm plain p.main bared.main)
