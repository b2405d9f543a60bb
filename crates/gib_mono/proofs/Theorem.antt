-- The copied program is typed, and means what the program means.
use Rattle.std.proofs.Common.{◌≡◌, ◌≢◌, ℕ, suc, List, [], ◌∷◌, map, length, Some, ◌≤◌, refl, sym, ap, ◌∙◌, subst, arith}
use Rattle.std.specs.Prelude.{slice_get, nat_lt, Ok}
use Rattle.std.specs.List.{AllByRecursion}
use Rattle.std.proofs.lemmas.Bool.{ltb-true, and_parts}
use Rattle.gib_base.specs.declared.Span.{Span}
use Rattle.gib_types.specs.declared.table.Ty.{Ty}
use Rattle.gib_types.specs.declared.table.Ty.TheVariants.{Whole, Truth, Tree}
use Rattle.gib_types.specs.Table.{Row}
use Rattle.gib_types.specs.Tree.{Datum, HasType}
use Rattle.gib_syntax.specs.declared.tree.Ident.{Ident}
use Rattle.gib_syntax.specs.declared.tree.Parameter.{Parameter}
use Rattle.gib_syntax.specs.declared.tree.TypeName.{TypeName}
use Rattle.gib_syntax.specs.Tree.{ConstructorTree, DataTree, FunctionTree}
use Rattle.gib_syntax.specs.Declarations.{number_of, AreDifferent, type_names, tree_type, type_of_name, table_of_program, input_type}
use Rattle.gib_syntax.specs.Typing.{globals_of, BindsAll, Has, IsKnown, AreKnown, HasKnownType, HasKnownFields, HasKnownConstructors, IsTypedFunction, IsTypedHere, IsTypedProgram}
use Rattle.gib_syntax.specs.Fine.{HasConstructor, IsFineFunction, IsFineProgram}
use Rattle.gib_syntax.specs.Meaning.{Environment, means, run}
use Rattle.gib_syntax.proofs.Soundness.{Agrees}
use Rattle.gib_syntax.specs.Results.{Results, One, Several, AreResults, map_results, list_results}
use Rattle.gib_syntax.specs.Forms.{WrittenType, written_place, Form, Forms, WholeForm, TruthForm, VariableForm, DataForm, NoForm, Meant, formed, assign}
use Rattle.gib_syntax.specs.GenericTree.{GenericExpression, GenericConstructorTree, GenericDataTree, GenericParameterTree, GenericFunctionTree, GenericProgramTree, rows_of, globals_of_generic}
use Rattle.gib_syntax.specs.GenericFine.{HasGenericConstructor, IsGenericFine, IsGenericFineProgram}
use Rattle.gib_syntax.specs.GenericTyping.{FormScope, HasForm, IsKnownData, AreKnownResults, HasKnownGenericFields, variable_numbers, IsTypedGenericFunction, IsTypedGeneric}
use Rattle.gib_syntax.specs.GenericMeaning.{generic_names, means_generic, run_generic}
use Rattle.gib_mono.specs.Copying.{Naming, name_of_form, plain_type, copy_written, copy_constructor, copy_data, copy_parameter, copy_function, copy, parameter_scope}
use Rattle.gib_mono.specs.Copied.{Item, IsHere, IsAsked, ScopeHere, plain_scope, shown, shown_outcome, shown_given, shown_environment}
use Rattle.gib_mono.specs.Walk.{Copy, DataOf, FunctionOf, DataCopy, FunctionCopy, datas_in, function_copies, constructors_in, functions_in, copied_program, copies_of, type_items, function_items, Made, made_of, made_from, base_of, IsNaming}
use Rattle.gib_mono.proofs.Scopes.{named_plain, parameters_step, binds_plain, binds_here}
use Rattle.gib_mono.proofs.Typing.{copy_has}
use Rattle.gib_mono.proofs.Fine.{fine_copied}
use Rattle.gib_mono.proofs.Counts.{same_expressions, same_bindings}
use Rattle.gib_mono.proofs.Closing.{data_found}
use Rattle.gib_mono.proofs.Copies.{copies_closed, length_both}
use Rattle.gib_mono.proofs.Meaning.{one_shown}
use Rattle.gib_mono.proofs.Running.{generic_found, fine_found, body_put, names_copied, nothing_here, body_shown, calls_shown, means_shown}
use Rattle.gib_mono.proofs.Here.{map_found, copies_here, nothing_meant}
use Rattle.gib_mono.proofs.Tables.{made_row, rows_made}
use Rattle.gib_mono.proofs.Apart.{data_declared, function_declared, types_different}
use Rattle.gib_mono.proofs.Whole.{type_names_are, constructor_names_differ, function_names_differ, IsSet, set_of, type_copied, type_placed, copy_fields_here, IsFunctionHere, function_here, copy_function_here, is_copied, fields_plain}

-- Lists

all_from : (A : Type 0) (P : A → Type 0) (xs : List A) → ((i : ℕ) (x : A) → slice_get xs i ≡ Some x → P x) → AllByRecursion P xs
all_from A P [] h = tt {0}
all_from A P (x ∷ xs) h = (h 0 x refl, all_from A P xs (λ i y e. h (suc i) y e))

length_mapped : (A B : Type 0) (f : A → B) (xs : List A) → length (map f xs) ≡ length xs
length_mapped A B f [] = refl
length_mapped A B f (x ∷ xs) = let rest = length_mapped A B f xs in omega (arith, rest)

some_mapped : (A B : Type 0) (f : A → B) (xs : List A) → xs ≢ [] → map f xs ≢ []
some_mapped A B f [] h e = h refl
some_mapped A B f (x ∷ xs) h e = cc

made_count : (n : ℕ) (found : List Copy) → length (made_from n (datas_in found)) ≡ constructors_in found
made_count n [] = refl
made_count n (DataOf d ts ∷ cs) =
    let both = length_both Made (map (made_of n (record { decl = d; types = ts })) d.constructors) (made_from (suc n) (datas_in cs)) in
    let mine = length_mapped GenericConstructorTree Made (made_of n (record { decl = d; types = ts })) d.constructors in
    let rest = made_count (suc n) cs in
    omega (arith, both, mine, rest)
made_count n (FunctionOf f ts ∷ cs) = made_count n cs

function_count : (found : List Copy) → length (function_copies found) ≡ functions_in found
function_count [] = refl
function_count (DataOf d ts ∷ cs) = function_count cs
function_count (FunctionOf f ts ∷ cs) = let rest = function_count cs in omega (arith, rest)

-- Types of the copy are known

known_copied : (p : GenericProgramTree) (nm : Naming) (names : List Item) (found : List Copy) (at : Span) (f : Form) → IsSet p nm names found → IsHere (type_items found) f → IsKnown (type_names (copied_program p nm found)) (name_of_form nm at f)
known_copied p nm names found at WholeForm is h = (Whole, refl)
known_copied p nm names found at TruthForm is h = (Truth, refl)
known_copied p nm names found at (VariableForm x) is h = absurd h
known_copied p nm names found at (DataForm t ts) is h =
    let c = type_copied p nm names found t ts is h.0 in
    (Tree (record { 0 = c.index }), ap tree_type (type_placed p nm names found t ts is c))

all_known : (p : GenericProgramTree) (nm : Naming) (names : List Item) (found : List Copy) (m : Meant) (ws : List WrittenType) → IsSet p nm names found → AllByRecursion (IsHere (type_items found)) (map (formed m) ws) →
    AllByRecursion (IsKnown (type_names (copied_program p nm found))) (map (copy_written nm m) ws)
all_known p nm names found m [] is h = tt {0}
all_known p nm names found m (w ∷ ws) is h = (known_copied p nm names found (written_place w) (formed m w) is h.0, all_known p nm names found m ws is h.1)

parameters_known_copied : (p : GenericProgramTree) (nm : Naming) (names : List Item) (found : List Copy) (m : Meant) (qs : List GenericParameterTree) → IsSet p nm names found → AllByRecursion (IsHere (type_items found)) (map (λ (q : GenericParameterTree). formed m q.ty) qs) →
    AllByRecursion (HasKnownType (type_names (copied_program p nm found))) (map (copy_parameter nm m) qs)
parameters_known_copied p nm names found m [] is h = tt {0}
parameters_known_copied p nm names found m (q ∷ qs) is h = (known_copied p nm names found (written_place q.ty) (formed m q.ty) is h.0, parameters_known_copied p nm names found m qs is h.1)

constructors_known : (p : GenericProgramTree) (nm : Naming) (names : List Item) (found : List Copy) (m : Meant) (ts : Forms) (vars : List ℕ) (ks : List GenericConstructorTree) → IsSet p nm names found → AllByRecursion (HasKnownGenericFields p.datas vars) ks →
    AllByRecursion (λ (c : GenericConstructorTree). AllByRecursion (IsHere (type_items found)) (map (formed m) c.fields)) ks → AllByRecursion (HasKnownFields (type_names (copied_program p nm found))) (map (copy_constructor nm m ts) ks)
constructors_known p nm names found m ts vars [] is own h = tt {0}
constructors_known p nm names found m ts vars (k ∷ ks) is own h =
    let few = own.0.0 in
    let same = length_mapped WrittenType TypeName (copy_written nm m) k.fields in
    ((omega (arith, few, same), all_known p nm names found m k.fields is h.0), constructors_known p nm names found m ts vars ks is own.1 h.1)

-- Types of what is given are known
abbrev AreCounted : {A : Type 0} → Results A → Type 0
AreCounted (One w) = Unit {0}
AreCounted (Several ws) = length ws ≤ 8

results_counted : (datas : List GenericDataTree) (vars : List ℕ) (r : Results WrittenType) → AreKnownResults datas vars r → AreCounted r
results_counted datas vars (One w) h = tt {0}
results_counted datas vars (Several ws) h = h.0

results_known_copied : (p : GenericProgramTree) (nm : Naming) (names : List Item) (found : List Copy) (m : Meant) (r : Results WrittenType) → IsSet p nm names found → AreCounted r → AllByRecursion (IsHere (type_items found)) (list_results (map_results (formed m) r)) →
    AreKnown (type_names (copied_program p nm found)) (map_results (copy_written nm m) r)
results_known_copied p nm names found m (One w) is few h = known_copied p nm names found (written_place w) (formed m w) is h.0
results_known_copied p nm names found m (Several ws) is few h =
    let same = length_mapped WrittenType TypeName (copy_written nm m) ws in
    (omega (arith, few, same), all_known p nm names found m ws is h)

-- The types of what is given, in the copy

results_plain : (nm : Naming) (types : List ℕ) (m : Meant) (r : Results WrittenType) → map_results (type_of_name types) (map_results (copy_written nm m) r) ≡ map_results (plain_type nm types) (map_results (formed m) r)
results_plain nm types m (One w) = ap One (named_plain nm types (written_place w) (formed m w))
results_plain nm types m (Several ws) = ap Several (fields_plain nm types m ws)

-- A copied function is typed

function_typed : (p : GenericProgramTree) (nm : Naming) (names : List Item) (found : List Copy) (variables : List Ident) (parameters : List GenericParameterTree) (result : Results WrittenType) (body : GenericExpression) (m : Meant) → IsSet p nm names found →
    IsTypedGenericFunction (globals_of_generic p) variables parameters result body → IsFunctionHere p nm found variables parameters result body m →
    IsTypedFunction (globals_of (copied_program p nm found)) (map (copy_parameter nm m) parameters) (map_results (copy_written nm m) result) (copy (globals_of_generic p) nm m (parameter_scope m parameters) body)
function_typed p nm names found variables parameters result body m is own here =
    let g = globals_of_generic p in
    let q = copied_program p nm found in
    let s = set_of p nm found in
    let inner = parameter_scope m parameters in
    let put = body_put g variables parameters result body m own in
    let forms = map (λ (q : GenericParameterTree). formed m q.ty) parameters in
    let variables_same = same_bindings g nm m inner body in
    let expressions_same = same_expressions g nm m inner body in
    let parameters_same = length_mapped GenericParameterTree Parameter (copy_parameter nm m) parameters in
    let few_variables = own.few_variables in
    let few_expressions = own.few_expressions in
    record {
      known = parameters_known_copied p nm names found m parameters is here.parameters_here;
      known_result = results_known_copied p nm names found m result is (results_counted p.datas (variable_numbers variables) result own.known_result) here.results_here;
      scope = plain_scope s inner;
      bound = subst (λ (xs : List Ident). BindsAll [] xs (map (λ (q : Parameter). type_of_name (type_names (copied_program p nm found)) q.ty) (map (copy_parameter nm m) parameters)) (plain_scope s inner)) (sym (names_copied nm m parameters))
          (subst (λ (ts : List Ty). BindsAll [] (generic_names parameters) ts (plain_scope s inner)) (sym (parameters_step nm (type_names q) m parameters))
          (binds_plain s (generic_names parameters) forms [] inner put.bound));
      typed = subst (λ (t : Results Ty). Has (globals_of q) (plain_scope s inner) (copy g nm m inner body) t) (sym (results_plain nm (type_names q) m result))
          (copy_has s (is_copied p nm names found is) (variable_numbers variables) m body (map_results (formed m) result) inner
          (binds_here s (generic_names parameters) forms [] inner put.bound (nothing_here s) here.parameters_here) here.body_asked put.typed);
      few_variables = omega (arith, variables_same, parameters_same, few_variables);
      few_expressions = omega (arith, expressions_same, few_expressions);
    }

main_here : (p : GenericProgramTree) (nm : Naming) (names : List Item) (found : List Copy) → IsSet p nm names found → IsFunctionHere p nm found [] (p.main.parameter ∷ []) (One p.main.result) p.main.body (assign [] NoForm)
main_here p nm names found is = function_here p nm found [] (p.main.parameter ∷ []) (One p.main.result) p.main.body (assign [] NoForm) is.typed is.typed.main (nothing_meant (type_items found)) is.closed.main

-- The copied program is typed

pub copied_typed : (p : GenericProgramTree) (nm : Naming) (names : List Item) (found : List Copy) → IsSet p nm names found → IsTypedProgram (copied_program p nm found)
copied_typed p nm names found is =
    let q = copied_program p nm found in
    let limits = and_parts (nat_lt (constructors_in found) 201) (nat_lt (functions_in found) 1001) is.closed.good.few in
    let few_constructors = ltb-true (constructors_in found) 201 limits.0 in
    let few_functions = ltb-true (functions_in found) 1001 limits.1 in
    let rows : length (table_of_program q).rows ≡ constructors_in found =
    ap length (rows_made nm (type_names q) 0 (datas_in found)) ∙ length_mapped Made Row (made_row nm (type_names q)) (made_from 0 (datas_in found)) ∙ made_count 0 found in
    let functions : length q.functions ≡ functions_in found =
    length_mapped FunctionCopy FunctionTree (λ (c : FunctionCopy). Rattle.gib_mono.specs.Copying.copy_function (globals_of_generic p) nm c.function c.types) (function_copies found) ∙ function_count found in
    record {
      types_differ = subst AreDifferent (sym (type_names_are nm (datas_in found))) (types_different nm names found is.naming is.closed.good.apart);
      constructors_differ = constructor_names_differ p nm names found is;
      few_constructors = omega (arith, rows, few_constructors);
      fields = all_from DataTree (HasKnownConstructors (type_names q)) q.datas (λ i d e.
          let c = map_found DataCopy DataTree (λ (c : DataCopy). copy_data nm c.decl c.types) (datas_in found) i d e in
          let own = data_declared (globals_of_generic p) found i c.0 is.closed.good.declared c.1 in
          subst (HasKnownConstructors (type_names q)) (sym c.2)
          (constructors_known p nm names found (assign (c.0).decl.variables (c.0).types) (c.0).types (variable_numbers (c.0).decl.variables) (c.0).decl.constructors is
          ((data_found (IsKnownData p.datas) p.datas (number_of (c.0).decl.name) (c.0).decl is.typed.datas own).1)
          (copy_fields_here p nm names found i (c.0).decl (c.0).types is c.1)));
      functions_differ = function_names_differ p nm names found is;
      few_functions = omega (arith, functions, few_functions);
      functions = all_from FunctionTree (IsTypedHere (globals_of q)) q.functions (λ i f e.
          let c = map_found FunctionCopy FunctionTree (λ (c : FunctionCopy). copy_function (globals_of_generic p) nm c.function c.types) (function_copies found) i f e in
          let own = function_declared (globals_of_generic p) found i c.0 is.closed.good.declared c.1 in
          subst (IsTypedHere (globals_of q)) (sym c.2)
          (function_typed p nm names found (c.0).function.variables (c.0).function.parameters (c.0).function.result (c.0).function.body (assign (c.0).function.variables (c.0).types) is
          (generic_found (globals_of_generic p) p.functions (number_of (c.0).function.name) (c.0).function is.typed.functions own)
          (copy_function_here p nm names found i (c.0).function (c.0).types is c.1)));
      main = function_typed p nm names found [] (p.main.parameter ∷ []) (One p.main.result) p.main.body (assign [] NoForm) is is.typed.main (main_here p nm names found is);
    }

results_mapped : {A B : Type 0} (f : A → B) (r : Results A) → AreResults r → AreResults (map_results f r)
results_mapped f (One x) h = tt {0}
results_mapped f (Several []) h = absurd h
results_mapped f (Several (x ∷ [])) h = absurd h
results_mapped f (Several (x ∷ y ∷ zs)) h = tt {0}

pub copied_fine : (p : GenericProgramTree) (nm : Naming) (names : List Item) (found : List Copy) → IsGenericFineProgram p → IsSet p nm names found → IsFineProgram (copied_program p nm found)
copied_fine p nm names found fine is =
    let q = copied_program p nm found in
    record {
      datas = all_from DataTree HasConstructor q.datas (λ i d e.
          let c = map_found DataCopy DataTree (λ (c : DataCopy). copy_data nm c.decl c.types) (datas_in found) i d e in
          let own = data_declared (globals_of_generic p) found i c.0 is.closed.good.declared c.1 in
          subst HasConstructor (sym c.2)
          (some_mapped GenericConstructorTree ConstructorTree (copy_constructor nm (assign (c.0).decl.variables (c.0).types) (c.0).types) (c.0).decl.constructors
          (data_found HasGenericConstructor p.datas (number_of (c.0).decl.name) (c.0).decl is.fine own)));
      functions = all_from FunctionTree IsFineFunction q.functions (λ i f e.
          let c = map_found FunctionCopy FunctionTree (λ (c : FunctionCopy). copy_function (globals_of_generic p) nm c.function c.types) (function_copies found) i f e in
          let own = function_declared (globals_of_generic p) found i c.0 is.closed.good.declared c.1 in
          let own_fine = fine_found p.functions (number_of (c.0).function.name) (c.0).function fine.functions own in
          let m = assign (c.0).function.variables (c.0).types in
          subst IsFineFunction (sym c.2)
          (some_mapped GenericParameterTree Parameter (copy_parameter nm m) (c.0).function.parameters own_fine.0, fine_copied (globals_of_generic p) nm m (parameter_scope m (c.0).function.parameters) (c.0).function.body own_fine.1, results_mapped (copy_written nm m) (c.0).function.result own_fine.2));
      main = fine_copied (globals_of_generic p) nm (assign [] NoForm) (parameter_scope (assign [] NoForm) (p.main.parameter ∷ [])) p.main.body fine.main;
    }

-- The copied program means what the program means

pub set_made : (p : GenericProgramTree) (nm : Naming) (names : List Item) (found : List Copy) → AllByRecursion HasGenericConstructor p.datas → IsTypedGeneric p → copies_of p ≡ Ok found → IsNaming nm names found → IsSet p nm names found
set_made p nm names found fine typed e naming = record { fine = fine; typed = typed; naming = naming; closed = (copies_closed p found fine typed e).0; here = copies_here p found fine typed e }

pub copied_runs : (p : GenericProgramTree) (nm : Naming) (names : List Item) (found : List Copy) (depth : ℕ) (v : Datum) → IsGenericFineProgram p → IsSet p nm names found → HasType (table_of_program (copied_program p nm found)) v (input_type (copied_program p nm found)) →
    shown_outcome (base_of (rows_of p.datas) found) (run (copied_program p nm found) depth v) ≡ run_generic p depth (shown (base_of (rows_of p.datas) found) v)
copied_runs p nm names found depth v from_fine is h =
    let q = copied_program p nm found in
    let base = base_of (rows_of p.datas) found in
    let copied = is_copied p nm names found is in
    let fine = copied_fine p nm names found from_fine is in
    let typed = copied_typed p nm names found is in
    let here = main_here p nm names found is in
    sym (one_shown base (formed (assign [] NoForm) p.main.result) (run q depth v))
    ∙ body_shown p q nm base (type_items found) (function_items found) copied fine typed depth
    (calls_shown p q nm base (type_items found) (function_items found) copied fine typed from_fine is.typed depth)
    (variable_numbers []) (assign [] NoForm) (p.main.parameter ∷ []) (One (formed (assign [] NoForm) p.main.result)) p.main.body (v ∷ []) from_fine.main
    (body_put (globals_of_generic p) [] (p.main.parameter ∷ []) (One p.main.result) p.main.body (assign [] NoForm) is.typed.main)
    here.parameters_here here.body_asked
    (subst (λ (t : Ty). HasType (table_of_program q) v t) (named_plain nm (type_names q) (written_place p.main.parameter.ty) (formed (assign [] NoForm) p.main.parameter.ty)) h, tt {0})

pub copied_means : (p : GenericProgramTree) (nm : Naming) (names : List Item) (found : List Copy) → IsGenericFineProgram p → IsSet p nm names found →
    (n : ℕ) (vars : List ℕ) (m : Meant) (e : GenericExpression) (ty : Results Form) (scope : FormScope) (env : Environment) → IsGenericFine e → HasForm (globals_of_generic p) vars m scope e ty → ScopeHere (set_of p nm found) scope → IsAsked (set_of p nm found) m e →
    Agrees (table_of_program (copied_program p nm found)) (plain_scope (set_of p nm found) scope) env →
    shown_given (base_of (rows_of p.datas) found) ty (means (copied_program p nm found) n env (copy (globals_of_generic p) nm m scope e)) ≡ means_generic p n m scope (shown_environment (base_of (rows_of p.datas) found) env) e
copied_means p nm names found from_fine is n vars m e ty scope env fine has here asked agrees =
    means_shown p (copied_program p nm found) nm (base_of (rows_of p.datas) found) (type_items found) (function_items found) (is_copied p nm names found is) (copied_fine p nm names found from_fine is) (copied_typed p nm names found is) from_fine is.typed
    n vars m e ty scope env fine here asked has agrees

-- a copied body, with its types
pub body_asked : (p : GenericProgramTree) (nm : Naming) (names : List Item) (found : List Copy) (i : ℕ) (h : GenericFunctionTree) (ts : Forms) → IsSet p nm names found → slice_get (function_copies found) i ≡ Some (record { function = h; types = ts }) →
    ScopeHere (set_of p nm found) (parameter_scope (assign h.variables ts) h.parameters) × IsAsked (set_of p nm found) (assign h.variables ts) h.body
    × HasForm (globals_of_generic p) (variable_numbers h.variables) (assign h.variables ts) (parameter_scope (assign h.variables ts) h.parameters) h.body (map_results (formed (assign h.variables ts)) h.result)
body_asked p nm names found i h ts is e =
    let own = function_declared (globals_of_generic p) found i (record { function = h; types = ts }) is.closed.good.declared e in
    let put = body_put (globals_of_generic p) h.variables h.parameters h.result h.body (assign h.variables ts) (generic_found (globals_of_generic p) p.functions (number_of h.name) h is.typed.functions own) in
    let here = copy_function_here p nm names found i h ts is e in (
      binds_here (set_of p nm found) (generic_names h.parameters) (map (λ (q : GenericParameterTree). formed (assign h.variables ts) q.ty) h.parameters) [] (parameter_scope (assign h.variables ts) h.parameters) put.bound (nothing_here (set_of p nm found)) here.parameters_here,
      here.body_asked,
      put.typed,
    )
