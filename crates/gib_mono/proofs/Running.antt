-- The copied program means what the program means, at every depth.
use Rattle.std.proofs.Common.{◌≡◌, ℕ, zero, suc, Bool, true, false, ◌==◌, if◌then◌else◌, List, [], ◌∷◌, map, Option, Some, refl, sym, ap, ◌∙◌, subst}
use Rattle.std.specs.List.{AllByRecursion}
use Rattle.std.proofs.lemmas.Option.{same_Some}
use Rattle.gib_types.specs.Tree.{Datum, data_of, HaveTypes}
use Rattle.gib_syntax.specs.declared.tree.Ident.{Ident}
use Rattle.gib_syntax.specs.Tree.{FunctionTree, ProgramTree}
use Rattle.gib_syntax.specs.Declarations.{number_of, table_of_program}
use Rattle.gib_syntax.specs.Typing.{globals_of, IsTypedProgram}
use Rattle.gib_syntax.specs.Fine.{IsFineProgram}
use Rattle.gib_syntax.specs.Meaning.{Environment, bind, names_of, eval, of_function, calls, means}
use Rattle.gib_syntax.proofs.Soundness.{Agrees, binds_agree, calls_have, nothing_agrees}
use Rattle.gib_syntax.specs.Results.{Results, map_results}
use Rattle.gib_syntax.specs.Forms.{WrittenType, Form, Forms, NoForm, Meant, formed, put, assign}
use Rattle.gib_syntax.specs.GenericTree.{GenericExpression, GenericParameterTree, GenericFunctionTree, GenericProgramTree, GenericGlobals, globals_of_generic, generic_named}
use Rattle.gib_syntax.specs.GenericFine.{IsGenericFine, IsGenericFineFunction, IsGenericFineProgram}
use Rattle.gib_syntax.specs.GenericTyping.{FormScope, BindsForms, result_forms, HasForm, variable_numbers, opaque, IsTypedGenericFunction, IsTypedGenericHere, IsTypedGeneric}
use Rattle.gib_syntax.specs.GenericMeaning.{meant, generic_names, of_generic, calls_meant, means_generic}
use Rattle.gib_mono.specs.Copying.{Naming, copy, copy_parameter, parameter_scope}
use Rattle.gib_mono.specs.Copied.{Item, IsHere, Setting, plain, IsAsked, IsCopied, ScopeHere, plain_scope, shown, shown_given, shown_environment}
use Rattle.gib_mono.proofs.Scopes.{binds_plain, binds_inner, binds_here}
use Rattle.gib_mono.proofs.Meaning.{CallsShow, eval_shown, bind_shown}
use Rattle.gib_mono.proofs.Putting.{put_results, put_has, put_parameters, binds_put, put_scope}

-- A program, the copied one, and what was asked for.
abbrev pub setting_of : GenericProgramTree → ProgramTree → Naming → (ℕ → ℕ) → List Item → List Item → Setting
setting_of p q nm base types functions = record { from = globals_of_generic p; naming = nm; to = globals_of q; base = base; types = types; functions = functions }

-- a typed body with types put for its type variables
pub record IsBody (g : GenericGlobals) (vars : List ℕ) (m : Meant) (parameters : List GenericParameterTree) (result : Results Form) (body : GenericExpression) : Type 0 where
  pub bound : BindsForms [] (generic_names parameters) (map (λ (q : GenericParameterTree). formed m q.ty) parameters) (parameter_scope m parameters)
  pub typed : HasForm g vars m (parameter_scope m parameters) body result

pub body_put : (g : GenericGlobals) (variables : List Ident) (parameters : List GenericParameterTree) (result : Results WrittenType) (body : GenericExpression) (m : Meant) →
    IsTypedGenericFunction g variables parameters result body → IsBody g (variable_numbers variables) m parameters (map_results (formed m) result) body
body_put g variables parameters result body m typed =
    let binds : BindsForms [] (generic_names parameters) (map (λ (q : GenericParameterTree). formed m q.ty) parameters) (put_scope m typed.scope) =
    subst (λ (us : List Form). BindsForms [] (generic_names parameters) us (put_scope m typed.scope)) (put_parameters m opaque m (λ x. refl) parameters)
    (binds_put m (generic_names parameters) (map (λ (q : GenericParameterTree). formed opaque q.ty) parameters) [] typed.scope typed.bound) in
    let is : put_scope m typed.scope ≡ parameter_scope m parameters = binds_inner (generic_names parameters) (map (λ (q : GenericParameterTree). formed m q.ty) parameters) [] (put_scope m typed.scope) binds in
    record {
      bound = subst (λ (u : FormScope). BindsForms [] (generic_names parameters) (map (λ (q : GenericParameterTree). formed m q.ty) parameters) u) is binds;
      typed = subst (λ (u : FormScope). HasForm g (variable_numbers variables) m u body (map_results (formed m) result)) is
          (subst (λ (f : Results Form). HasForm g (variable_numbers variables) m (put_scope m typed.scope) body f) (put_results m opaque m (λ x. refl) result)
          (put_has g (variable_numbers variables) m opaque m (λ x. refl) body (map_results (formed opaque) result) typed.scope typed.typed));
    }

pub names_copied : (nm : Naming) (m : Meant) (qs : List GenericParameterTree) → names_of (map (copy_parameter nm m) qs) ≡ generic_names qs
names_copied nm m [] = refl
names_copied nm m (q ∷ qs) = ap (λ (xs : List Ident). q.name ∷ xs) (names_copied nm m qs)

pub nothing_here : (s : Setting) → ScopeHere s []
nothing_here s x f e = absurd cc

-- a body in the environment of its arguments
pub body_shown : (p : GenericProgramTree) (q : ProgramTree) (nm : Naming) (base : ℕ → ℕ) (types functions : List Item) → IsCopied (setting_of p q nm base types functions) → IsFineProgram q → IsTypedProgram q →
    (n : ℕ) → CallsShow (setting_of p q nm base types functions) (calls q n) (calls_meant p n) →
    (vars : List ℕ) (m : Meant) (parameters : List GenericParameterTree) (result : Results Form) (body : GenericExpression) (vs : List Datum) → IsGenericFine body → IsBody (globals_of_generic p) vars m parameters result body →
    AllByRecursion (IsHere types) (map (λ (q : GenericParameterTree). formed m q.ty) parameters) → IsAsked (setting_of p q nm base types functions) m body →
    HaveTypes (table_of_program q) (data_of vs) (map (plain (setting_of p q nm base types functions)) (map (λ (q : GenericParameterTree). formed m q.ty) parameters)) →
    shown_given base result (eval (table_of_program q) (calls q n) (copy (globals_of_generic p) nm m (parameter_scope m parameters) body) (bind (names_of (map (copy_parameter nm m) parameters)) vs []))
    ≡ meant (globals_of_generic p) (calls_meant p n) m (parameter_scope m parameters) body (bind (generic_names parameters) (map (shown base) vs) [])
body_shown p q nm base types functions copied fine typed n show vars m parameters result body vs body_fine is here asked hs =
    let s = setting_of p q nm base types functions in
    let forms = map (λ (q : GenericParameterTree). formed m q.ty) parameters in
    let inner = parameter_scope m parameters in
    ap (λ (xs : List Ident). shown_given base result (eval (table_of_program q) (calls q n) (copy (globals_of_generic p) nm m inner body) (bind xs vs []))) (names_copied nm m parameters)
    ∙ eval_shown s copied typed.constructors_differ (calls q n) (calls_meant p n) (calls_have q fine typed n) show vars m body result inner (bind (generic_names parameters) vs []) body_fine
    (binds_here s (generic_names parameters) forms [] inner is.bound (nothing_here s) here) asked is.typed
    (binds_agree (table_of_program q) (generic_names parameters) (map (plain s) forms) vs [] (plain_scope s inner) [] (binds_plain s (generic_names parameters) forms [] inner is.bound) hs (nothing_agrees (table_of_program q)))
    ∙ ap (λ (u : Environment). meant (globals_of_generic p) (calls_meant p n) m inner body u) (bind_shown base (generic_names parameters) vs [])

-- what holds of all functions holds of the one that is named
pub generic_found : (g : GenericGlobals) (fs : List GenericFunctionTree) (x : ℕ) (h : GenericFunctionTree) → AllByRecursion (IsTypedGenericHere g) fs → generic_named fs x ≡ Some h → IsTypedGenericHere g h
generic_found g [] x h all e = absurd cc
generic_found g (f ∷ fs) x h all e = step g (number_of f.name == x) f h (generic_named fs x) all.0 (λ k. generic_found g fs x h all.1 k) e where
  step : (g : GenericGlobals) (b : Bool) (f h : GenericFunctionTree) (rest : Option GenericFunctionTree) → IsTypedGenericHere g f → (rest ≡ Some h → IsTypedGenericHere g h) → (if b then Some f else rest) ≡ Some h → IsTypedGenericHere g h
  step g true f h rest here go e = subst (IsTypedGenericHere g) (same_Some f h e) here
  step g false f h rest here go e = go e

pub fine_found : (fs : List GenericFunctionTree) (x : ℕ) (h : GenericFunctionTree) → AllByRecursion IsGenericFineFunction fs → generic_named fs x ≡ Some h → IsGenericFineFunction h
fine_found [] x h all e = absurd cc
fine_found (f ∷ fs) x h all e = step (number_of f.name == x) f h (generic_named fs x) all.0 (λ k. fine_found fs x h all.1 k) e where
  step : (b : Bool) (f h : GenericFunctionTree) (rest : Option GenericFunctionTree) → IsGenericFineFunction f → (rest ≡ Some h → IsGenericFineFunction h) → (if b then Some f else rest) ≡ Some h → IsGenericFineFunction h
  step true f h rest here go e = subst IsGenericFineFunction (same_Some f h e) here
  step false f h rest here go e = go e

pub calls_shown : (p : GenericProgramTree) (q : ProgramTree) (nm : Naming) (base : ℕ → ℕ) (types functions : List Item) → IsCopied (setting_of p q nm base types functions) → IsFineProgram q → IsTypedProgram q → IsGenericFineProgram p → IsTypedGeneric p →
    (n : ℕ) → CallsShow (setting_of p q nm base types functions) (calls q n) (calls_meant p n)
calls_shown p q nm base types functions copied fine typed generic_fine generic_typed zero x h ts vs found item hs = refl
calls_shown p q nm base types functions copied fine typed generic_fine generic_typed (suc n) x h ts vs found item hs =
    let s = setting_of p q nm base types functions in
    let is = generic_found (globals_of_generic p) p.functions x h generic_typed.functions found in
    ap (λ (u : Option FunctionTree). shown_given base (result_forms h ts) (of_function u (λ g. eval (table_of_program q) (calls q n) g.body (bind (names_of g.parameters) vs [])))) (copied.functions x h ts found item)
    ∙ body_shown p q nm base types functions copied fine typed n (calls_shown p q nm base types functions copied fine typed generic_fine generic_typed n) (variable_numbers h.variables) (assign h.variables ts) h.parameters (result_forms h ts) h.body vs
    ((fine_found p.functions x h generic_fine.functions found).1)
    (body_put (globals_of_generic p) h.variables h.parameters h.result h.body (assign h.variables ts) is)
    (copied.parameters_here x h ts found item) (copied.bodies_asked x h ts found item) hs
    ∙ ap (λ (u : Option GenericFunctionTree). of_generic u (λ g. meant (globals_of_generic p) (calls_meant p n) (assign g.variables ts) (parameter_scope (assign g.variables ts) g.parameters) g.body (bind (generic_names g.parameters) (map (shown base) vs) []))) (sym found)

-- at every depth and environment
pub means_shown : (p : GenericProgramTree) (q : ProgramTree) (nm : Naming) (base : ℕ → ℕ) (types functions : List Item) → IsCopied (setting_of p q nm base types functions) → IsFineProgram q → IsTypedProgram q → IsGenericFineProgram p → IsTypedGeneric p →
    (n : ℕ) (vars : List ℕ) (m : Meant) (e : GenericExpression) (ty : Results Form) (scope : FormScope) (env : Environment) → IsGenericFine e → ScopeHere (setting_of p q nm base types functions) scope → IsAsked (setting_of p q nm base types functions) m e →
    HasForm (globals_of_generic p) vars m scope e ty → Agrees (table_of_program q) (plain_scope (setting_of p q nm base types functions) scope) env →
    shown_given base ty (means q n env (copy (globals_of_generic p) nm m scope e)) ≡ means_generic p n m scope (shown_environment base env) e
means_shown p q nm base types functions copied fine typed generic_fine generic_typed n vars m e ty scope env e_fine here asked h agrees =
    eval_shown (setting_of p q nm base types functions) copied typed.constructors_differ (calls q n) (calls_meant p n) (calls_have q fine typed n)
    (calls_shown p q nm base types functions copied fine typed generic_fine generic_typed n) vars m e ty scope env e_fine here asked h agrees
