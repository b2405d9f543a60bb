-- The rules of declarations and bodies, and typing.
use Rattle.std.proofs.Common.{◌≡◌, ℕ, ◌+◌, ◌<◌, ◌≤◌, Bool, true, false, cond, eqb, ltb, List, [], ◌∷◌, ◌++◌, map, length, Some, None, Ok, Err, refl, sym, ap, ◌∙◌, subst, arith}
use Rattle.std.proofs.lemmas.Bool.{ltb-true, lt-ltb}
use Rattle.std.proofs.lemmas.List.{append-nil, length-append, length-map}
use Rattle.std.specs.List.{AllByRecursion}
use Rattle.gib_syntax.specs.declared.tree.Ident.{Ident}
use Rattle.gib_syntax.specs.Declarations.{number_of, place_of, AreDifferent}
use Rattle.gib_syntax.specs.Results.{Results, One, Several, map_results}
use Rattle.gib_types.specs.Form.{Form}
use Rattle.gib_syntax.specs.Forms.{WrittenType, written_place, formed}
use Rattle.gib_syntax.specs.GenericTree.{GenericExpression, GenericDataTree, GenericParameterTree, GenericFunctionTree, GenericProgramTree, GenericGlobals, globals_of_generic}
use Rattle.gib_syntax.specs.GenericTyping.{FormScope, form_in, form_bound, BindsForms, IsKnownType, HasForm, generic_expressions, generic_bindings, variable_numbers, opaque, AreTypeVariables, HasKnownForm, AreKnownResults, IsTypedGenericFunction, IsTypedGenericHere, IsTypedGeneric}
use Rattle.gib_check.specs.declared.fault.Fault.{Fault}
use Rattle.gib_check.specs.declared.fault.Kind.TheVariants as kind
use Rattle.gib_check.specs.declared.fault.TypeFault.{TypeFault}
use Rattle.gib_check.specs.declared.fault.TypeFault.TheVariants as t
use Rattle.gib_check.specs.Answers.{IsFaultOf}
use Rattle.gib_check.specs.Refusals.{IsFirst, IsMemory, IsMemoryOr}
use Rattle.gib_check.specs.Faults.{Checked, and_then, allowed, known, standing_of, MayGive, place}
use Rattle.gib_check.specs.FirstFault.{check_datas, check_fields, check_parameters, check_parts, check_results, check_head, check_heads, with_parameters, parameters_met, check_body, check_bodies, check_declarations, check_program, fault_in, first_fault}
use Rattle.gib_check.proofs.Different.{different_push, new_of, snoc, none_push, none_front, none_in}
use Rattle.gib_check.proofs.Steps.{Holds, holds_ok, then_holds, allowed_holds, known_holds, wanted_holds}
use Rattle.gib_check.proofs.Sound.{infer_sound}
use Rattle.gib_check.proofs.Complete.{Yields, yields, then_yields, known_ok, wanted_ok, infer_ok}
use Rattle.gib_check.proofs.DataRules.{DatasTyped, are_variables, datas_ok, datas_typed, fewer_holds, fewer_ok, fields_ok, function_number, long_push, names_rows, new_name_holds, new_name_ok, parameter_number, rows_long, shorts_of, type_variables_ok, variables_hold, variables_of}

-- Parameters.
abbrev parameter_name : GenericParameterTree → Ident
parameter_name q = q.name

abbrev parameter_form : GenericParameterTree → Form
parameter_form q = formed opaque q.ty

pub record ParametersHold (datas : List GenericDataTree) (vars names : List ℕ) (qs : List GenericParameterTree) : Type 0 where
  pub known : AllByRecursion (HasKnownForm datas vars) qs
  pub differ : AreDifferent names → AreDifferent (names ++ map parameter_number qs)
  pub few : length names ≤ 200 → length (names ++ map parameter_number qs) ≤ 200

parameters_hold : (datas : List GenericDataTree) (vars names : List ℕ) (qs : List GenericParameterTree) → Holds (check_parameters datas vars names qs) (λ _. ParametersHold datas vars names qs)
parameters_hold datas vars names [] =
    holds_ok (tt {0}) (record {
      known = tt;
      differ = λ h. subst AreDifferent (sym (append-nil names)) h;
      few = λ h. subst (λ (z : List ℕ). length z ≤ 200) (sym (append-nil names)) h;
    })
parameters_hold datas vars names (q ∷ qs) =
    then_holds (new_name_holds names q.name) (λ _ p. then_holds (fewer_holds 200 names q.name) (λ _ l. then_holds (known_holds datas vars q.ty) (λ _ k.
    record {
      by = λ u e. (let o = (parameters_hold datas vars (names ++ number_of q.name ∷ []) qs).by u e in
          let same = sym (snoc names (map parameter_number qs) (number_of q.name)) in
          record {
            known = (k, o.known);
            differ = λ d. subst AreDifferent same (o.differ (different_push names (number_of q.name) d p));
            few = λ d. subst (λ (z : List ℕ). length z ≤ 200) same (o.few (let g = long_push names (number_of q.name) in omega (arith, g, l)));
          });
    })))

parameters_ok : (datas : List GenericDataTree) (vars names : List ℕ) (qs : List GenericParameterTree) → AllByRecursion (HasKnownForm datas vars) qs → AreDifferent (names ++ map parameter_number qs) → length (names ++ map parameter_number qs) ≤ 200 → check_parameters datas vars names qs ≡ Ok (tt {0})
parameters_ok datas vars names [] h d l = refl
parameters_ok datas vars names (q ∷ qs) h d l =
    let k = length-append names (number_of q.name ∷ map parameter_number qs) in
    let e = snoc names (map parameter_number qs) (number_of q.name) in
    let all : Yields (check_parameters datas vars names (q ∷ qs)) (λ _. Unit {0}) =
    then_yields (yields (tt {0}) (new_name_ok names q.name (new_of names (map parameter_number qs) (number_of q.name) d))) (λ _ _.
    then_yields (yields (tt {0}) (fewer_ok 200 names q.name (omega (arith, k, l)))) (λ _ _.
    then_yields (yields (tt {0}) (known_ok datas vars q.ty h.0)) (λ _ _.
    record { value = tt {0}; is = parameters_ok datas vars (names ++ number_of q.name ∷ []) qs h.1 (subst AreDifferent e d) (subst (λ (z : List ℕ). length z ≤ 200) e l); so = tt }))) in
    all.is

-- Parameters of different names are bound.
not_here : (x y : ℕ) (t : Form) (scope : FormScope) → eqb x y ≡ false → form_in scope y ≡ None → form_in ((x, t) ∷ scope) y ≡ None
not_here x y t scope e h = ap (λ b. cond b (Some t) (form_in scope y)) e ∙ h

here_not : (x y : ℕ) (t : Form) (scope : FormScope) → form_in ((x, t) ∷ scope) y ≡ None → (eqb x y ≡ false) × (form_in scope y ≡ None)
here_not x y t scope e = split (eqb x y) e where
  split : (b : Bool) → cond b (Some t) (form_in scope y) ≡ None → (b ≡ false) × (form_in scope y ≡ None)
  split true e = absurd cc
  split false e = (refl, e)

binds_different : (names : List ℕ) (scope : FormScope) (qs : List GenericParameterTree) → ((y : ℕ) → place_of names y ≡ None → form_in scope y ≡ None) → AreDifferent (names ++ map parameter_number qs) → BindsForms scope (map parameter_name qs) (map parameter_form qs) (with_parameters qs scope)
binds_different names scope [] same d = refl
binds_different names scope (q ∷ qs) same d =
    let x = number_of q.name in (
      same x (new_of names (map parameter_number qs) x d),
      binds_different (names ++ x ∷ []) (form_bound q.name (parameter_form q) scope) qs
          (λ y e. not_here x y (parameter_form q) scope (none_in names [] x y e) (same y (none_front names (x ∷ []) y e)))
          (subst AreDifferent (snoc names (map parameter_number qs) x) d),
    )

different_binds : (names : List ℕ) (scope inner : FormScope) (qs : List GenericParameterTree) → ((y : ℕ) → form_in scope y ≡ None → place_of names y ≡ None) → AreDifferent names → BindsForms scope (map parameter_name qs) (map parameter_form qs) inner → AreDifferent (names ++ map parameter_number qs)
different_binds names scope inner [] same d b = subst AreDifferent (sym (append-nil names)) d
different_binds names scope inner (q ∷ qs) same d b =
    let x = number_of q.name in
    subst AreDifferent (sym (snoc names (map parameter_number qs) x))
    (different_binds (names ++ x ∷ []) (form_bound q.name (parameter_form q) scope) inner qs
    (λ y e. (let h = here_not x y (parameter_form q) scope e in none_push names x y (same y h.1) h.0))
    (different_push names x d (same x b.0)) b.1)

scope_is : (scope inner : FormScope) (qs : List GenericParameterTree) → BindsForms scope (map parameter_name qs) (map parameter_form qs) inner → inner ≡ with_parameters qs scope
scope_is scope inner [] b = b
scope_is scope inner (q ∷ qs) b = scope_is (form_bound q.name (parameter_form q) scope) inner qs b.1

-- What a function gives.
pub record TypesHold (datas : List GenericDataTree) (vars : List ℕ) (i : ℕ) (ws : List WrittenType) : Type 0 where
  pub known : AllByRecursion (IsKnownType datas vars) ws
  pub few : i ≤ 8 → i + length ws ≤ 8

parts_hold : (datas : List GenericDataTree) (vars : List ℕ) (i : ℕ) (ws : List WrittenType) → Holds (check_parts datas vars i ws) (λ _. TypesHold datas vars i ws)
parts_hold datas vars i [] = holds_ok (tt {0}) (record { known = tt; few = λ h. omega (arith, h) })
parts_hold datas vars i (w ∷ ws) =
    then_holds (allowed_holds (ltb i 8) kind.Limit (written_place w) (tt {0})) (λ _ p. then_holds (known_holds datas vars w) (λ _ k.
    record {
      by = λ u e. let o = (parts_hold datas vars (i + 1) ws).by u e in
          record { known = (k, o.known); few = λ h. (let l = ltb-true i 8 p.0 in let q = o.few (omega (arith, l)) in omega (arith, q)) };
    }))

results_hold : (datas : List GenericDataTree) (vars : List ℕ) (r : Results WrittenType) → Holds (check_results datas vars r) (λ _. AreKnownResults datas vars r)
results_hold datas vars (One w) = known_holds datas vars w
results_hold datas vars (Several ws) = record { by = λ u e. let o = (parts_hold datas vars 0 ws).by u e in ((let l = o.few (omega arith) in omega (arith, l)), o.known) }

parts_ok : (datas : List GenericDataTree) (vars : List ℕ) (i : ℕ) (ws : List WrittenType) → AllByRecursion (IsKnownType datas vars) ws → i + length ws ≤ 8 → check_parts datas vars i ws ≡ Ok (tt {0})
parts_ok datas vars i [] h l = refl
parts_ok datas vars i (w ∷ ws) h l =
    ap (λ b. and_then (allowed b kind.Limit (written_place w) (tt {0})) (λ _. and_then (known datas vars w) (λ _. check_parts datas vars (i + 1) ws))) (lt-ltb i 8 (omega (arith, l)))
    ∙ ap (λ z. and_then z (λ _. check_parts datas vars (i + 1) ws)) (known_ok datas vars w h.0) ∙ parts_ok datas vars (i + 1) ws h.1 (omega (arith, l))

results_ok : (datas : List GenericDataTree) (vars : List ℕ) (r : Results WrittenType) → AreKnownResults datas vars r → check_results datas vars r ≡ Ok (tt {0})
results_ok datas vars (One w) h = known_ok datas vars w h
results_ok datas vars (Several ws) h = parts_ok datas vars 0 ws h.1 (let l = h.0 in omega (arith, l))

-- Heads.
pub record HeadHolds (datas : List GenericDataTree) (vs : List Ident) (qs : List GenericParameterTree) (result : Results WrittenType) : Type 0 where
  pub variables : AreTypeVariables vs
  pub parameters : ParametersHold datas (variable_numbers vs) [] qs
  pub known : AreKnownResults datas (variable_numbers vs) result

head_holds : (datas : List GenericDataTree) (vs : List Ident) (qs : List GenericParameterTree) (result : Results WrittenType) → Holds (check_head datas vs qs result) (λ _. HeadHolds datas vs qs result)
head_holds datas vs qs result =
    then_holds (variables_hold [] vs) (λ _ v. then_holds (parameters_hold datas (variable_numbers vs) [] qs) (λ _ p.
    record { by = λ u e. record { variables = are_variables vs v; parameters = p; known = (results_hold datas (variable_numbers vs) result).by u e } }))

abbrev HasHead : List GenericDataTree → GenericFunctionTree → Type 0
HasHead datas f = HeadHolds datas f.variables f.parameters f.result

pub record HeadsHold (datas : List GenericDataTree) (names : List ℕ) (fs : List GenericFunctionTree) : Type 0 where
  pub differ : AreDifferent names → AreDifferent (names ++ map function_number fs)
  pub few : length names ≤ 1000 → length (names ++ map function_number fs) ≤ 1000
  pub heads : AllByRecursion (HasHead datas) fs

heads_hold : (datas : List GenericDataTree) (names : List ℕ) (fs : List GenericFunctionTree) → Holds (check_heads datas names fs) (λ _. HeadsHold datas names fs)
heads_hold datas names [] =
    holds_ok (tt {0}) (record {
      differ = λ h. subst AreDifferent (sym (append-nil names)) h;
      few = λ h. subst (λ (z : List ℕ). length z ≤ 1000) (sym (append-nil names)) h;
      heads = tt;
    })
heads_hold datas names (f ∷ fs) =
    then_holds (fewer_holds 1000 names f.name) (λ _ l. then_holds (new_name_holds names f.name) (λ _ p. then_holds (head_holds datas f.variables f.parameters f.result) (λ _ h.
    record {
      by = λ u e. (let o = (heads_hold datas (names ++ number_of f.name ∷ []) fs).by u e in
          let same = sym (snoc names (map function_number fs) (number_of f.name)) in
          record {
            differ = λ d. subst AreDifferent same (o.differ (different_push names (number_of f.name) d p));
            few = λ d. subst (λ (z : List ℕ). length z ≤ 1000) same (o.few (let g = long_push names (number_of f.name) in omega (arith, g, l)));
            heads = (h, o.heads);
          });
    })))

-- Bodies.
pub record BodyHolds (g : GenericGlobals) (vs : List Ident) (qs : List GenericParameterTree) (result : Results WrittenType) (body : GenericExpression) : Type 0 where
  pub has : HasForm g (variable_numbers vs) opaque (with_parameters qs []) body (map_results (formed opaque) result)
  pub expressions : generic_expressions body ≤ 2000
  pub few : length qs ≤ 200 → length qs + generic_bindings body ≤ 200

body_holds : (g : GenericGlobals) (vs : List Ident) (qs : List GenericParameterTree) (result : Results WrittenType) (body : GenericExpression) → Holds (check_body g vs qs result body) (λ _. BodyHolds g vs qs result body)
body_holds g vs qs result body =
    then_holds (infer_sound g (variable_numbers vs) opaque (standing_of (map_results (formed opaque) result)) (with_parameters qs []) (parameters_met qs) body) (λ r s.
    record {
      by = λ u e. (let w = (wanted_holds (map_results (formed opaque) result) (record { ty = r.0; place = place body })).by u e in
          let se = s.expressions in let sv = s.variables in let short = s.short (omega arith) in
          record {
            has = subst (λ z. HasForm g (variable_numbers vs) opaque (with_parameters qs []) body z) w s.has;
            expressions = omega (arith, se, short);
            few = λ h. (let f = s.few h in omega (arith, sv, f));
          });
    })

abbrev HasBody : GenericGlobals → GenericFunctionTree → Type 0
HasBody g f = BodyHolds g f.variables f.parameters f.result f.body

bodies_hold : (g : GenericGlobals) (fs : List GenericFunctionTree) → Holds (check_bodies g fs) (λ _. AllByRecursion (HasBody g) fs)
bodies_hold g [] = holds_ok (tt {0}) tt
bodies_hold g (f ∷ fs) = then_holds (body_holds g f.variables f.parameters f.result f.body) (λ _ p. record { by = λ u e. (p, (bodies_hold g fs).by u e) })

typed_function : (g : GenericGlobals) (vs : List Ident) (qs : List GenericParameterTree) (result : Results WrittenType) (body : GenericExpression) → HeadHolds g.datas vs qs result → BodyHolds g vs qs result body → IsTypedGenericFunction g vs qs result body
typed_function g vs qs result body h b =
    let few = h.parameters.few (omega arith) in let long = length-map qs parameter_number in
    record {
      type_variables = h.variables;
      known = h.parameters.known;
      known_result = h.known;
      scope = with_parameters qs [];
      bound = binds_different [] [] qs (λ y e. refl) (h.parameters.differ tt);
      typed = b.has;
      few_variables = b.few (omega (arith, few, long));
      few_expressions = b.expressions;
    }

typed_functions : (g : GenericGlobals) (fs : List GenericFunctionTree) → AllByRecursion (HasHead g.datas) fs → AllByRecursion (HasBody g) fs → AllByRecursion (IsTypedGenericHere g) fs
typed_functions g [] h b = tt
typed_functions g (f ∷ fs) h b = (typed_function g f.variables f.parameters f.result f.body h.0 b.0, typed_functions g fs h.1 b.1)

-- The declarations are typed.
pub record DeclarationsTyped (p : GenericProgramTree) : Type 0 where
  pub datas : DatasTyped p
  pub heads : HeadsHold p.datas [] p.functions
  pub main : HeadHolds p.datas [] (p.main.parameter ∷ []) (One p.main.result)

pub declarations_hold : (p : GenericProgramTree) → Holds (check_declarations p) (λ _. DeclarationsTyped p)
unfolding check_declarations
declarations_hold p =
    then_holds datas (λ _ d. then_holds fields (λ _ k. then_holds (heads_hold p.datas [] p.functions) (λ _ h.
    record { by = λ u e. record { datas = datas_typed p d k; heads = h; main = (head_holds p.datas [] (p.main.parameter ∷ []) (One p.main.result)).by u e } }))) where
      datas : Holds (check_datas [] [] p.datas) (λ _. check_datas [] [] p.datas ≡ Ok (tt {0}))
      datas = record { by = λ u q. q }

      fields : Holds (check_fields p.datas p.datas) (λ _. check_fields p.datas p.datas ≡ Ok (tt {0}))
      fields = record { by = λ u q. q }

-- A program that breaks no rule is typed.
program_holds : (p : GenericProgramTree) → Holds (check_program p) (λ _. IsTypedGeneric p)
unfolding check_program
program_holds p =
    then_holds (declarations_hold p) (λ _ d. then_holds (bodies_hold (globals_of_generic p) p.functions) (λ _ b.
    record {
      by = λ u e. (let w = (body_holds (globals_of_generic p) [] (p.main.parameter ∷ []) (One p.main.result) p.main.body).by u e in
          let few = d.heads.few (omega arith) in let long = length-map p.functions function_number in
          record {
            types_differ = d.datas.types_differ;
            constructors_differ = d.datas.constructors_differ;
            few_constructors = d.datas.few;
            datas = d.datas.datas;
            functions_differ = d.heads.differ tt;
            few_functions = omega (arith, few, long);
            functions = typed_functions (globals_of_generic p) p.functions d.heads.heads b;
            main = typed_function (globals_of_generic p) [] (p.main.parameter ∷ []) (One p.main.result) p.main.body d.main w;
          });
    }))

pub program_typed : (p : GenericProgramTree) → check_program p ≡ Ok (tt {0}) → IsTypedGeneric p
program_typed p e = (program_holds p).by (tt {0}) e

head_ok : (g : GenericGlobals) (vs : List Ident) (qs : List GenericParameterTree) (result : Results WrittenType) (body : GenericExpression) → IsTypedGenericFunction g vs qs result body → check_head g.datas vs qs result ≡ Ok (tt {0})
head_ok g vs qs result body h =
    let few = h.few_variables in let long = length-map qs parameter_number in
    ap (λ z. and_then z (λ _. and_then (check_parameters g.datas (variable_numbers vs) [] qs) (λ _. check_results g.datas (variable_numbers vs) result))) (type_variables_ok vs h.type_variables)
    ∙ ap (λ z. and_then z (λ _. check_results g.datas (variable_numbers vs) result))
    (parameters_ok g.datas (variable_numbers vs) [] qs h.known (different_binds [] [] h.scope qs (λ y e. refl) tt h.bound) (omega (arith, few, long)))
    ∙ results_ok g.datas (variable_numbers vs) result h.known_result

heads_ok : (g : GenericGlobals) (names : List ℕ) (fs : List GenericFunctionTree) → AreDifferent (names ++ map function_number fs) → length (names ++ map function_number fs) ≤ 1000 → AllByRecursion (IsTypedGenericHere g) fs → check_heads g.datas names fs ≡ Ok (tt {0})
heads_ok g names [] d l h = refl
heads_ok g names (f ∷ fs) d l h =
    let k = length-append names (number_of f.name ∷ map function_number fs) in
    let e = snoc names (map function_number fs) (number_of f.name) in
    let all : Yields (check_heads g.datas names (f ∷ fs)) (λ _. Unit {0}) =
    then_yields (yields (tt {0}) (fewer_ok 1000 names f.name (omega (arith, k, l)))) (λ _ _.
    then_yields (yields (tt {0}) (new_name_ok names f.name (new_of names (map function_number fs) (number_of f.name) d))) (λ _ _.
    then_yields (yields (tt {0}) (head_ok g f.variables f.parameters f.result f.body h.0)) (λ _ _.
    record { value = tt {0}; is = heads_ok g (names ++ number_of f.name ∷ []) fs (subst AreDifferent e d) (subst (λ (z : List ℕ). length z ≤ 1000) e l) h.1; so = tt }))) in
    all.is

stands_there : (r : Results Form) → MayGive (standing_of r) r
stands_there (One t) = tt
stands_there (Several ts) = refl

body_ok : (g : GenericGlobals) (vs : List Ident) (qs : List GenericParameterTree) (result : Results WrittenType) (body : GenericExpression) → IsTypedGenericFunction g vs qs result body → check_body g vs qs result body ≡ Ok (tt {0})
body_ok g vs qs result body h =
    let scope = with_parameters qs [] in
    let has : HasForm g (variable_numbers vs) opaque scope body (map_results (formed opaque) result) = subst (λ z. HasForm g (variable_numbers vs) opaque z body (map_results (formed opaque) result)) (scope_is [] h.scope qs h.bound) h.typed in
    let fe = h.few_expressions in let fv = h.few_variables in
    let all : Yields (check_body g vs qs result body) (λ _. Unit {0}) =
    then_yields (infer_ok g (variable_numbers vs) opaque (standing_of (map_results (formed opaque) result)) scope (parameters_met qs) body (map_results (formed opaque) result) has (stands_there (map_results (formed opaque) result)) (omega (arith, fe)) (omega (arith, fv))) (λ r s.
    record { value = tt {0}; is = wanted_ok (map_results (formed opaque) result) (record { ty = r.0; place = place body }) s.type; so = tt }) in
    all.is

bodies_ok : (g : GenericGlobals) (fs : List GenericFunctionTree) → AllByRecursion (IsTypedGenericHere g) fs → check_bodies g fs ≡ Ok (tt {0})
bodies_ok g [] h = refl
bodies_ok g (f ∷ fs) h = ap (λ z. and_then z (λ _. check_bodies g fs)) (body_ok g f.variables f.parameters f.result f.body h.0) ∙ bodies_ok g fs h.1

-- A typed program breaks no rule.
declarations_yield : (p : GenericProgramTree) → IsTypedGeneric p → Yields (check_declarations p) (λ _. Unit {0})
unfolding check_declarations
declarations_yield p h =
    let g = globals_of_generic p in
    let few = h.few_constructors in let long = rows_long p.datas in
    let fewf = h.few_functions in let longf = length-map p.functions function_number in
    then_yields (yields (tt {0}) (datas_ok [] [] p.datas h.types_differ (subst AreDifferent (names_rows p.datas) h.constructors_differ) (omega (arith, few, long)) (shorts_of p.datas p.datas h.datas) (variables_of p.datas p.datas h.datas))) (λ _ _.
    then_yields (yields (tt {0}) (fields_ok p.datas p.datas h.datas)) (λ _ _.
    then_yields (yields (tt {0}) (heads_ok g [] p.functions h.functions_differ (omega (arith, fewf, longf)) h.functions)) (λ _ _.
    record { value = tt {0}; is = head_ok g [] (p.main.parameter ∷ []) (One p.main.result) p.main.body h.main; so = tt })))

program_yields : (p : GenericProgramTree) → IsTypedGeneric p → Yields (check_program p) (λ _. Unit {0})
unfolding check_program
program_yields p h =
    let g = globals_of_generic p in
    then_yields (declarations_yield p h) (λ _ _.
    then_yields (yields (tt {0}) (bodies_ok g p.functions h.functions)) (λ _ _.
    record { value = tt {0}; is = body_ok g [] (p.main.parameter ∷ []) (One p.main.result) p.main.body h.main; so = tt }))

pub typed_program : (p : GenericProgramTree) → IsTypedGeneric p → check_program p ≡ Ok (tt {0})
typed_program p h = (program_yields p h).is

abbrev refusal : Fault → Checked (Unit {0})
refusal f = Err f

pub no_fault : (c : Checked (Unit {0})) → fault_in c ≡ None → c ≡ Ok (tt {0})
no_fault (Ok u) e = refl
no_fault (Err f) e = absurd cc

-- A refusal is the first broken rule, and none is met where the program is typed.
pub refused_first : (p : GenericProgramTree) (e : TypeFault) → IsFaultOf e (check_program p) → IsFirst p e
refused_first p t.Memory h = tt
refused_first p (t.Broken fault) h = ap fault_in h

pub refused_memory : (p : GenericProgramTree) (e : TypeFault) → IsFaultOf e (check_program p) → IsTypedGeneric p → IsMemory e
refused_memory p t.Memory h k = tt
refused_memory p (t.Broken fault) h k = let both = sym h ∙ typed_program p k in absurd (no_both fault both) where
  no_both : (fault : Fault) → refusal fault ≡ Ok (tt {0}) → ⊥
  no_both fault e = absurd cc

-- Where a rule is broken, a typed program is not answered.
pub broken_no_answer : (p : GenericProgramTree) (fault : Fault) → check_program p ≡ Ok (tt {0}) → first_fault p ≡ Some fault → ⊥
broken_no_answer p fault ok e = let clash : None ≡ Some fault = sym (ap fault_in ok) ∙ e in cc

-- Where a rule is broken, a refusal is for it.
pub broken_told : (p : GenericProgramTree) (fault : Fault) (answer : TypeFault) → IsFaultOf answer (check_program p) → first_fault p ≡ Some fault → IsMemoryOr fault answer
broken_told p fault t.Memory h e = tt
broken_told p fault (t.Broken other) h e = let same : Some other ≡ Some fault = sym (ap fault_in h) ∙ e in cc
