-- The laws of the readers of declarations and programs.
use Rattle.std.proofs.Common.{◌≡◌, ◌≢◌, ℕ, ◌≤◌, List, [], ◌∷◌, refl, ap, ◌∙◌, subst, arith}
use Rattle.std.specs.List.{AllByRecursion}
use Rattle.gib_base.specs.declared.Span.{Span}
use Rattle.gib_base.specs.declared.token.Sign.TheVariants as s
use Rattle.gib_base.specs.declared.token.Token.{Token}
use Rattle.gib_base.specs.declared.token.Token.TheVariants as t
use Rattle.gib_syntax.specs.declared.tree.Ident.{Ident}
use Rattle.gib_syntax.specs.GenericTree.{GenericExpression, GenericConstructorTree, GenericDataTree, GenericParameterTree, GenericFunctionTree, GenericMainTree, GenericProgramTree}
use Rattle.gib_syntax.specs.GenericFine.{IsGenericFine, HasGenericConstructor, IsGenericFineFunction, IsGenericFineProgram}
use Rattle.gib_syntax.specs.Results.{Results, One, Several, AreResults}
use Rattle.gib_syntax.specs.Forms.{WrittenType, WholeAt, DataAt, NoType}
use Rattle.gib_syntax.specs.Spelling.{Places, IsAt, AreAt, IsPlaced, IsTypeAt, AreTypesAt, IsConstructorAt, AreConstructorsAt, IsDataAt, AreDatasAt, IsParameterAt, AreParametersAt, AreFurtherTypesAt, AreResultsAt, AreTypeParametersAt, IsFunctionAt, AreFunctionsAt, IsMainAt, spell, spell_type, spell_types, spell_variables, spell_constructor, spell_more, spell_constructors, spell_data, spell_datas, spell_parameter, spell_parameters, spell_further_types, spell_results, spell_body, spell_type_parameters, spell_function, spell_functions, spell_main, spell_program, levels, levels_functions, levels_program}
use Rattle.gib_parse.specs.Reading.{Any, Reader, Parts, before, named, then_at, many, is_sign, starts_type, type_at, inside, constructor_at, alternative_at, constructors_at, data_at, parameter_at, parameters_at, next_type_at, further_types_at, one_type_at, declared_at, open_results_at, results_at, body_at, names_at, type_parameters_at, function_at, main_at, program_at, ends_at}
use Rattle.gib_reads.proofs.Tools.{done}
use Rattle.gib_reads.proofs.Laws.{World, Form, Reads, pure_reads, fail_reads, token_reads, choice_nil, choice_reads, weaken, as_reads, then_behind, then_reads, then_sign, var_reads, con_reads, many_reads, write_all, fine_all, good_all, a_name}
use Rattle.gib_parse.proofs.TypeLaws.{type_reads, inside_reads}
use Rattle.gib_parse.proofs.ExpressionLaws.{PartsRead, zero_is, zero_fine, variables_reads}

-- ---- what is read

abbrev types : Places → Form (List WrittenType)
types at = record { write = spell_types; fine = λ xs. Unit {0}; good = AreTypesAt at }

abbrev constructor : Places → Form GenericConstructorTree
constructor at = record { write = spell_constructor; fine = λ c. Unit {0}; good = IsConstructorAt at }

abbrev pub alternative : Places → Form GenericConstructorTree
alternative at = record { write = λ c l. t.Sign s.Bar ∷ spell_constructor c l; fine = λ c. Unit {0}; good = IsConstructorAt at }

abbrev constructors : Places → Form (List GenericConstructorTree)
constructors at = record { write = spell_constructors; fine = λ cs. cs ≢ []; good = AreConstructorsAt at }

abbrev pub data_form : Places → Form GenericDataTree
data_form at = record { write = spell_data; fine = HasGenericConstructor; good = IsDataAt at }

abbrev pub parameter : Places → Form GenericParameterTree
parameter at = record { write = spell_parameter; fine = λ q. Unit {0}; good = IsParameterAt at }

abbrev parameters : Places → Form (List GenericParameterTree)
parameters at = record { write = spell_parameters; fine = λ qs. qs ≢ []; good = AreParametersAt at }

abbrev pub next_type : Places → Form WrittenType
next_type at = record { write = λ a l. t.Sign s.Comma ∷ spell_type a l; fine = λ a. Unit {0}; good = IsTypeAt at }

abbrev further_types : Places → Form (List WrittenType)
further_types at = record { write = spell_further_types; fine = λ xs. Unit {0}; good = AreFurtherTypesAt at }

abbrev results : Places → Form (Results WrittenType)
results at = record { write = spell_results; fine = AreResults; good = AreResultsAt at }

abbrev body : Places → ℕ → Form GenericExpression
body at n = record {
  write = λ e l. t.Sign s.Equals ∷ spell e (t.Sign s.Semicolon ∷ l);
  fine = IsGenericFine;
  good = λ e rest. (levels e ≤ n) × IsPlaced at e (t.Sign s.Semicolon ∷ rest);
}

abbrev type_parameters : Places → Form (List Ident)
type_parameters at = record { write = spell_type_parameters; fine = λ vs. Unit {0}; good = AreTypeParametersAt at }

abbrev pub function : Places → ℕ → Form GenericFunctionTree
function at n = record { write = spell_function; fine = IsGenericFineFunction; good = λ f rest. (levels f.body ≤ n) × IsFunctionAt at f rest }

abbrev main_form : Places → ℕ → Form GenericMainTree
main_form at n = record { write = spell_main; fine = λ m. IsGenericFine m.body; good = λ m rest. (levels m.body ≤ n) × IsMainAt at m rest }

abbrev pub program : Places → ℕ → Form GenericProgramTree
program at n = record {
  write = spell_program;
  fine = IsGenericFineProgram;
  good = λ g rest. (levels_program g ≤ n) × AreDatasAt at g.datas (spell_functions g.functions (spell_main g.main rest))
      × AreFunctionsAt at g.functions (spell_main g.main rest) × IsMainAt at g.main rest;
}

-- A program, with nothing behind it.
abbrev pub whole_form : Places → ℕ → Form GenericProgramTree
whole_form at n = record { write = spell_program; fine = IsGenericFineProgram; good = λ g rest. (program at n).good g rest × (rest ≡ []) }

abbrev datas : Places → Form (List GenericDataTree)
datas at = record { write = spell_datas; fine = AllByRecursion HasGenericConstructor; good = AreDatasAt at }

abbrev functions : Places → ℕ → Form (List GenericFunctionTree)
functions at n = record {
  write = spell_functions;
  fine = AllByRecursion IsGenericFineFunction;
  good = λ fs rest. (levels_functions fs ≤ n) × AreFunctionsAt at fs rest;
}

-- ---- lists

types_spelled : (xs : List WrittenType) (l : List Token) → write_all spell_type xs l ≡ spell_types xs l
types_spelled [] l = refl
types_spelled (x ∷ xs) l = ap (spell_type x) (types_spelled xs l)

types_good : (at : Places) (xs : List WrittenType) (l : List Token) → good_all spell_type (IsTypeAt at) xs l → AreTypesAt at xs l
types_good at [] l h = tt
types_good at (x ∷ xs) l h = (subst (IsTypeAt at x) (types_spelled xs l) h.0, types_good at xs l h.1)

abbrev alternative_then : GenericConstructorTree → List Token → List Token
alternative_then c l = t.Sign s.Bar ∷ spell_constructor c l

more_spelled : (cs : List GenericConstructorTree) (l : List Token) → write_all alternative_then cs l ≡ spell_more cs l
more_spelled [] l = refl
more_spelled (c ∷ cs) l = ap alternative_then_at (more_spelled cs l) where
  alternative_then_at : List Token → List Token
  alternative_then_at m = t.Sign s.Bar ∷ spell_constructor c m

more_good : (at : Places) (cs : List GenericConstructorTree) (l : List Token) → good_all alternative_then (IsConstructorAt at) cs l → AreConstructorsAt at cs l
more_good at [] l h = tt
more_good at (c ∷ cs) l h = (subst (IsConstructorAt at c) (more_spelled cs l) h.0, more_good at cs l h.1)

parameters_spelled : (qs : List GenericParameterTree) (l : List Token) → write_all spell_parameter qs l ≡ spell_parameters qs l
parameters_spelled [] l = refl
parameters_spelled (q ∷ qs) l = ap (spell_parameter q) (parameters_spelled qs l)

parameters_good : (at : Places) (qs : List GenericParameterTree) (l : List Token) → good_all spell_parameter (IsParameterAt at) qs l → AreParametersAt at qs l
parameters_good at [] l h = tt
parameters_good at (q ∷ qs) l h = (subst (IsParameterAt at q) (parameters_spelled qs l) h.0, parameters_good at qs l h.1)

abbrev next_then : WrittenType → List Token → List Token
next_then a l = t.Sign s.Comma ∷ spell_type a l

further_spelled : (xs : List WrittenType) (l : List Token) → write_all next_then xs l ≡ spell_further_types xs l
further_spelled [] l = refl
further_spelled (x ∷ xs) l = ap (λ (m : List Token). next_then x m) (further_spelled xs l)

further_good : (at : Places) (xs : List WrittenType) (l : List Token) → good_all next_then (IsTypeAt at) xs l → AreFurtherTypesAt at xs l
further_good at [] l h = tt
further_good at (x ∷ xs) l h = (subst (IsTypeAt at x) (further_spelled xs l) h.0, further_good at xs l h.1)

datas_spelled : (ds : List GenericDataTree) (l : List Token) → write_all spell_data ds l ≡ spell_datas ds l
datas_spelled [] l = refl
datas_spelled (d ∷ ds) l = ap (spell_data d) (datas_spelled ds l)

pub datas_fine : (ds : List GenericDataTree) → fine_all HasGenericConstructor ds → AllByRecursion HasGenericConstructor ds
datas_fine [] h = tt
datas_fine (d ∷ ds) h = (h.0, datas_fine ds h.1)

datas_good : (at : Places) (ds : List GenericDataTree) (l : List Token) → good_all spell_data (IsDataAt at) ds l → AreDatasAt at ds l
datas_good at [] l h = tt
datas_good at (d ∷ ds) l h = (subst (IsDataAt at d) (datas_spelled ds l) h.0, datas_good at ds l h.1)

functions_spelled : (fs : List GenericFunctionTree) (l : List Token) → write_all spell_function fs l ≡ spell_functions fs l
functions_spelled [] l = refl
functions_spelled (f ∷ fs) l = ap (spell_function f) (functions_spelled fs l)

functions_fine : (fs : List GenericFunctionTree) → fine_all IsGenericFineFunction fs → AllByRecursion IsGenericFineFunction fs
functions_fine [] h = tt
functions_fine (f ∷ fs) h = (h.0, functions_fine fs h.1)

functions_good : (at : Places) (n : ℕ) (fs : List GenericFunctionTree) (l : List Token)
    → good_all spell_function (λ f rest. (levels f.body ≤ n) × IsFunctionAt at f rest) fs l → (levels_functions fs ≤ n) × AreFunctionsAt at fs l
functions_good at n [] l h = (omega arith, tt)
functions_good at n (f ∷ fs) l h = let more = functions_good at n fs l h.1 in
    (omega (arith, h.0.0, more.0), (subst (IsFunctionAt at f) (functions_spelled fs l) h.0.1, more.1))

-- ---- the plainest trees

abbrev a_type : WrittenType
a_type = WholeAt (record { start = 0; end = 0 })

abbrev a_constructor : GenericConstructorTree
a_constructor = record { name = a_name; fields = [] }

abbrev a_parameter : GenericParameterTree
a_parameter = record { name = a_name; ty = a_type }

abbrev a_result : Results WrittenType
a_result = One a_type

abbrev a_main : GenericMainTree
a_main = record { parameter = a_parameter; result = a_type; body = zero_is }

some_constructors : (c : GenericConstructorTree) (cs : List GenericConstructorTree) → c ∷ cs ≢ []
some_constructors c cs e = cc

some_parameters : (q : GenericParameterTree) (qs : List GenericParameterTree) → q ∷ qs ≢ []
some_parameters q qs e = cc

abbrev no_names : Reader (List Ident)
no_names = done []

abbrev first_then : Places → Parts → Reader (Results WrittenType)
first_then at sub l = then_at (type_at at l) (λ a ts. further_types_at at a ts)

-- ---- data declarations

module _ {w : World Parts} where
  types_reads : (r ws : List Token) → Reads w 0 (types w.text.here) r (λ l. l) (λ at sub. many starts_type (type_at at)) ws
  types_reads r ws = as_reads types_spelled (λ xs o. tt) (λ xs rest o p. types_good w.text.here xs rest p)
      (many_reads starts_type (λ at sub. type_at at) type_reads r ws)

  constructor_reads : (r ws : List Token) → Reads w 1 (constructor w.text.here) r (λ l. l) (λ at sub. constructor_at at) ws
  unfolding constructor_at
  constructor_reads r ws =
      then_reads (con_reads r ws) (λ k o. (record { name = k; fields = [] }, tt, refl)) (λ k r1 e1 o1 p1.
      then_reads (types_reads r r1) (λ xs o. (record { name = k; fields = xs }, tt, refl)) (λ xs r2 e2 o2 p2.
      let made : GenericConstructorTree = record { name = k; fields = xs } in
      pure_reads made r2 (λ l. refl) tt (subst (IsAt w.text.here k) e2 p1, p2)))

  pub alternative_reads : (r ws : List Token) → Reads w 1 (alternative w.text.here) r (λ l. l) (λ at sub. alternative_at at) ws
  unfolding alternative_at
  alternative_reads r ws = then_sign s.Bar (spell_constructor a_constructor r) (a_constructor, tt, refl)
      (λ u r1 e1. as_reads (λ c l. refl) (λ c o. tt) (λ c rest o p. p) (constructor_reads r r1))

  constructors_reads : (r ws : List Token) → Reads w 1 (constructors w.text.here) r (λ l. l) (λ at sub. constructors_at at) ws
  unfolding constructors_at
  constructors_reads r ws =
      then_reads (constructor_reads r ws) (λ c o. (c ∷ [], some_constructors c [], refl)) (λ c r1 e1 o1 p1.
      then_reads (many_reads (is_sign s.Bar) (λ at sub. alternative_at at) alternative_reads r r1)
      (λ cs o. (c ∷ cs, some_constructors c cs, ap (spell_constructor c) (more_spelled cs r))) (λ cs r2 e2 o2 p2.
      pure_reads (c ∷ cs) r2 (λ l. ap (spell_constructor c) (more_spelled cs l)) (some_constructors c cs)
      (subst (IsConstructorAt w.text.here c) (e2 ∙ more_spelled cs r2) p1, more_good w.text.here cs r2 p2)))

  pub data_reads : (r ws : List Token) → Reads w 1 (data_form w.text.here) r (λ l. l) (λ at sub. data_at at) ws
  unfolding data_at
  data_reads r ws =
      let end = t.Sign s.Semicolon ∷ r in
      let one : List GenericConstructorTree = a_constructor ∷ [] in
      let some = some_constructors a_constructor [] in
      let more = t.Sign s.Equals ∷ spell_constructors one end in
      then_sign s.Data (t.Constructor a_name.name ∷ more) (record { name = a_name; variables = []; constructors = one }, some, refl) (λ u r1 e1.
      then_reads (con_reads more r1) (λ d o. (record { name = d; variables = []; constructors = one }, some, refl)) (λ d r2 e2 o2 p2.
      then_reads (variables_reads more r2) (λ vs o. (record { name = d; variables = vs; constructors = one }, some, refl)) (λ vs r3 e3 o3 p3.
      then_sign s.Equals (spell_constructors one end) (record { name = d; variables = vs; constructors = one }, some, refl) (λ u r4 e4.
      then_reads (constructors_reads end r4) (λ cs o. (record { name = d; variables = vs; constructors = cs }, o, refl)) (λ cs r5 e5 o5 p5.
      then_sign s.Semicolon r (record { name = d; variables = vs; constructors = cs }, o5, refl) (λ u r6 e6.
      let i3 : r3 ≡ t.Sign s.Equals ∷ spell_constructors cs (t.Sign s.Semicolon ∷ r6) = e4
      ∙ ap (λ (l : List Token). t.Sign s.Equals ∷ l) (e5 ∙ ap (spell_constructors cs) e6) in
      let made : GenericDataTree = record { name = d; variables = vs; constructors = cs } in
      pure_reads made r6 (λ l. refl) o5 (
        subst (IsAt w.text.here d) (e3 ∙ ap (spell_variables vs) i3) p2,
        subst (AreAt w.text.here vs) i3 p3,
        subst (AreConstructorsAt w.text.here cs) e6 p5,
      )))))))

  -- ---- parameters

  pub parameter_reads : (r ws : List Token) → Reads w 1 (parameter w.text.here) r (λ l. l) (λ at sub. parameter_at at) ws
  unfolding parameter_at
  parameter_reads r ws =
      let end = t.Sign s.Close ∷ r in
      then_sign s.Open (t.Variable a_name.name ∷ t.Sign s.Colon ∷ t.Sign s.Int ∷ end) (a_parameter, tt, refl) (λ u r1 e1.
      then_reads (var_reads (t.Sign s.Colon ∷ t.Sign s.Int ∷ end) r1) (λ x o. (record { name = x; ty = a_type }, tt, refl)) (λ x r2 e2 o2 p2.
      then_sign s.Colon (t.Sign s.Int ∷ end) (record { name = x; ty = a_type }, tt, refl) (λ u r3 e3.
      then_reads (type_reads end r3) (λ a o. (record { name = x; ty = a }, tt, refl)) (λ a r4 e4 o4 p4.
      then_sign s.Close r (record { name = x; ty = a }, tt, refl) (λ u r5 e5.
      let made : GenericParameterTree = record { name = x; ty = a } in
      pure_reads made r5 (λ l. refl) tt (
        subst (IsAt w.text.here x) (e3 ∙ ap (λ (l : List Token). t.Sign s.Colon ∷ l) (e4 ∙ ap (spell_type a) e5)) p2,
        subst (IsTypeAt w.text.here a) e5 p4,
      ))))))

  parameters_reads : (r ws : List Token) → Reads w 1 (parameters w.text.here) r (λ l. l) (λ at sub. parameters_at at) ws
  unfolding parameters_at
  parameters_reads r ws =
      then_reads (parameter_reads r ws) (λ q o. (q ∷ [], some_parameters q [], refl)) (λ q r1 e1 o1 p1.
      then_reads (many_reads (is_sign s.Open) (λ at sub. parameter_at at) parameter_reads r r1)
      (λ qs o. (q ∷ qs, some_parameters q qs, ap (spell_parameter q) (parameters_spelled qs r))) (λ qs r2 e2 o2 p2.
      pure_reads (q ∷ qs) r2 (λ l. ap (spell_parameter q) (parameters_spelled qs l)) (some_parameters q qs)
      (subst (IsParameterAt w.text.here q) (e2 ∙ parameters_spelled qs r2) p1, parameters_good w.text.here qs r2 p2)))

  -- ---- what a function gives

  pub next_type_reads : (r ws : List Token) → Reads w 1 (next_type w.text.here) r (λ l. l) (λ at sub. next_type_at at) ws
  unfolding next_type_at
  next_type_reads r ws = then_sign s.Comma (t.Sign s.Int ∷ r) (a_type, tt, refl)
      (λ u r1 e1. as_reads (λ a l. refl) (λ a o. tt) (λ a rest o p. p) (type_reads r r1))

  further_types_reads : (a : WrittenType) (r ws : List Token) → IsTypeAt w.text.here a ws
      → Reads w 1 (results w.text.here) r (λ l. t.Sign s.Open ∷ spell_type a l) (λ at sub. further_types_at at a) ws
  unfolding further_types_at
  further_types_reads a r ws pa =
      let end = t.Sign s.Close ∷ r in
      then_reads (next_type_reads end ws) (λ b o. (Several (a ∷ b ∷ []), tt, refl)) (λ b r1 e1 o1 p1.
      then_reads (as_reads {F = further_types w.text.here} further_spelled (λ xs o. tt) (λ xs rest o p. further_good w.text.here xs rest p)
      (many_reads (is_sign s.Comma) (λ at sub. next_type_at at) next_type_reads end r1)) (λ xs o. (Several (a ∷ b ∷ xs), tt, refl))
      (λ xs r2 e2 o2 p2.
      then_sign s.Close r (Several (a ∷ b ∷ xs), tt, refl) (λ u r3 e3.
      let i1 : r1 ≡ spell_further_types xs (t.Sign s.Close ∷ r3) = e2 ∙ ap (spell_further_types xs) e3 in
      let i0 : ws ≡ spell_further_types (b ∷ xs) (t.Sign s.Close ∷ r3) = e1 ∙ ap (λ (l : List Token). t.Sign s.Comma ∷ spell_type b l) i1 in
      pure_reads (Several (a ∷ b ∷ xs)) r3 (λ l. refl) tt
      (subst (IsTypeAt w.text.here a) i0 pa, (subst (IsTypeAt w.text.here b) i1 p1, subst (AreFurtherTypesAt w.text.here xs) e3 p2)))))

  one_type_reads : (r ws : List Token) → Reads w 1 (results w.text.here) r (λ l. l) (λ at sub. one_type_at (type_at at)) ws
  unfolding one_type_at
  one_type_reads r ws = then_reads (type_reads r ws) (λ a o. (One a, tt, refl)) (λ a r1 e1 o1 p1. pure_reads (One a) r1 (λ l. refl) tt p1)

  applied_reads : (z : Span) (k : Ident) (r ws : List Token) → z ≡ before w.text.here (t.Constructor k.name ∷ ws) → IsAt w.text.here k ws
      → Reads w 1 (results w.text.here) r (λ l. t.Sign s.Open ∷ t.Constructor k.name ∷ l) (λ at sub. one_type_at (inside at z k [] [])) ws
  unfolding one_type_at
  applied_reads z k r ws ze ke = then_behind (λ l. l) (inside_reads z k [] [] r ws (ze, ke, tt) tt) (λ a o. (One a, tt, refl))
      (λ a r1 e1 o1 p1. pure_reads (One a) r1 (λ l. refl) tt p1)

  declared_reads : (z : Span) (k : Ident) (r ws : List Token) → z ≡ before w.text.here (t.Constructor k.name ∷ ws) → IsAt w.text.here k ws
      → Reads w 1 (results w.text.here) r (λ l. t.Sign s.Open ∷ t.Constructor k.name ∷ l) (λ at sub. declared_at at z k) ws
  declared_reads z k r [] ze ke = choice_nil (λ at sub. declared_at at z k) (λ at sub. one_type_at (inside at z k [] [])) (λ at sub. refl)
      (applied_reads z k r [] ze ke)
  declared_reads z k r (t.Sign s.Comma ∷ ws) ze ke =
      choice_reads (λ at sub. declared_at at z k) (λ at sub. further_types_at at (DataAt k.span k NoType)) (t.Sign s.Comma) ws (λ at sub l. refl)
      (further_types_reads (DataAt k.span k NoType) r (t.Sign s.Comma ∷ ws) (ke, ke))
  declared_reads z k r (c ∷ ws) ze ke = choice_reads (λ at sub. declared_at at z k) (λ at sub. one_type_at (inside at z k [] [])) c ws
      (λ at sub l. refl) (applied_reads z k r (c ∷ ws) ze ke)

  first_reads : (r ws : List Token) → Reads w 1 (results w.text.here) r (λ l. t.Sign s.Open ∷ l) first_then ws
  first_reads r ws = then_reads (type_reads (t.Sign s.Comma ∷ t.Sign s.Int ∷ t.Sign s.Close ∷ r) ws) (λ a o. (Several (a ∷ a_type ∷ []), tt, refl))
      (λ a r1 e1 o1 p1. further_types_reads a r r1 p1)

  open_results_reads : (z : Span) (r ws : List Token) → z ≡ before w.text.here ws
      → Reads w 1 (results w.text.here) r (λ l. t.Sign s.Open ∷ l) (λ at sub. open_results_at at z) ws
  open_results_reads z r [] ze = choice_nil (λ at sub. open_results_at at z) first_then (λ at sub. refl) (first_reads r [])
  open_results_reads z r (t.Constructor k ∷ ws) ze =
      token_reads (λ at sub. open_results_at at z) (λ y at sub. declared_at at z (record { name = k; span = y })) (t.Constructor k) ws
      (λ at sub l. refl) (declared_reads z (named w.text.here k ws) r ws ze refl)
  open_results_reads z r (c ∷ ws) ze = choice_reads (λ at sub. open_results_at at z) first_then c ws (λ at sub l. refl) (first_reads r (c ∷ ws))

  results_reads : (r ws : List Token) → Reads w 1 (results w.text.here) r (λ l. l) (λ at sub. results_at at) ws
  results_reads r [] = choice_nil (λ at sub. results_at at) (λ at sub. one_type_at (type_at at)) (λ at sub. refl) (one_type_reads r [])
  results_reads r (t.Sign s.Open ∷ ws) = token_reads (λ at sub. results_at at) (λ z at sub. open_results_at at z) (t.Sign s.Open) ws
      (λ at sub l. refl) (open_results_reads (before w.text.here ws) r ws refl)
  results_reads r (c ∷ ws) = choice_reads (λ at sub. results_at at) (λ at sub. one_type_at (type_at at)) c ws (λ at sub l. refl) (one_type_reads r (c ∷ ws))

  -- ---- type parameters

  names_reads : (r ws : List Token) → Reads w 1 (type_parameters w.text.here) r (λ l. t.Sign s.OpenBracket ∷ l) (λ at sub. names_at at) ws
  unfolding names_at
  names_reads r ws =
      let end = t.Sign s.CloseBracket ∷ r in
      then_reads (var_reads end ws) (λ v o. (v ∷ [], tt, refl)) (λ v r1 e1 o1 p1.
      then_reads (variables_reads end r1) (λ vs o. (v ∷ vs, tt, refl)) (λ vs r2 e2 o2 p2.
      then_sign s.CloseBracket r (v ∷ vs, tt, refl) (λ u r3 e3.
      pure_reads (v ∷ vs) r3 (λ l. refl) tt (subst (IsAt w.text.here v) (e2 ∙ ap (spell_variables vs) e3) p1, subst (AreAt w.text.here vs) e3 p2))))

  type_parameters_reads : (r ws : List Token) → Reads w 0 (type_parameters w.text.here) r (λ l. l) (λ at sub. type_parameters_at at) ws
  type_parameters_reads r [] = choice_nil (λ at sub. type_parameters_at at) (λ at sub. no_names) (λ at sub. refl) (pure_reads [] [] (λ l. refl) tt tt)
  type_parameters_reads r (t.Sign s.OpenBracket ∷ ws) =
      weaken (token_reads (λ at sub. type_parameters_at at) (λ z at sub. names_at at) (t.Sign s.OpenBracket) ws (λ at sub l. refl) (names_reads r ws))
  type_parameters_reads r (c ∷ ws) = choice_reads (λ at sub. type_parameters_at at) (λ at sub. no_names) c ws (λ at sub l. refl)
      (pure_reads [] (c ∷ ws) (λ l. refl) tt tt)

-- ---- functions, main and the whole

module _ {w : World Parts} {n : ℕ} (h : PartsRead w n) where
  body_reads : (r ws : List Token) → Reads w 1 (body w.text.here n) r (λ l. l) (λ at sub. body_at (sub Any)) ws
  unfolding body_at
  body_reads r ws =
      let end = t.Sign s.Semicolon ∷ r in
      then_sign s.Equals (spell zero_is end) (zero_is, zero_fine, refl) (λ u r1 e1.
      then_reads (h Any end r1) (λ e o. (e, o.0, refl)) (λ e r2 e2 o2 p2.
      then_sign s.Semicolon r (e, o2.0, refl) (λ u r3 e3.
      pure_reads e r3 (λ l. refl) o2.0 (p2.0, subst (IsPlaced w.text.here e) e3 p2.1))))

  pub function_reads : (r ws : List Token) → Reads w 1 (function w.text.here n) r (λ l. l) (λ at sub. function_at at (sub Any)) ws
  unfolding function_at
  function_reads r ws =
      let one : List GenericParameterTree = a_parameter ∷ [] in
      let sm = some_parameters a_parameter [] in
      let end = spell_body a_result zero_is r in
      let front = spell_parameters one end in
      let body_end = t.Sign s.Equals ∷ spell zero_is (t.Sign s.Semicolon ∷ r) in
      then_sign s.Fun (t.Variable a_name.name ∷ front)
      (record { name = a_name; variables = []; parameters = one; result = a_result; body = zero_is }, (sm, zero_fine, tt), refl) (λ u r1 e1.
      then_reads (var_reads front r1)
      (λ f o. (record { name = f; variables = []; parameters = one; result = a_result; body = zero_is }, (sm, zero_fine, tt), refl))
      (λ f r2 e2 o2 p2.
      then_reads (type_parameters_reads front r2)
      (λ vs o. (record { name = f; variables = vs; parameters = one; result = a_result; body = zero_is }, (sm, zero_fine, tt), refl))
      (λ vs r3 e3 o3 p3.
      then_reads (parameters_reads end r3)
      (λ qs o. (record { name = f; variables = vs; parameters = qs; result = a_result; body = zero_is }, (o, zero_fine, tt), refl))
      (λ qs r4 e4 some p4.
      then_sign s.Colon (spell_results a_result body_end)
      (record { name = f; variables = vs; parameters = qs; result = a_result; body = zero_is }, (some, zero_fine, tt), refl) (λ u r5 e5.
      then_reads (results_reads body_end r5)
      (λ g o. (record { name = f; variables = vs; parameters = qs; result = g; body = zero_is }, (some, zero_fine, o), refl)) (λ g r6 e6 o6 p6.
      then_reads (body_reads r r6) (λ e o. (record { name = f; variables = vs; parameters = qs; result = g; body = e }, (some, o, o6), refl)) (λ e r7 e7 o7 p7.
      let i4 : r4 ≡ spell_body g e r7 = e5 ∙ ap (λ (l : List Token). t.Sign s.Colon ∷ l) (e6 ∙ ap (spell_results g) e7) in
      let i3 : r3 ≡ spell_parameters qs (spell_body g e r7) = e4 ∙ ap (spell_parameters qs) i4 in
      let made : GenericFunctionTree = record { name = f; variables = vs; parameters = qs; result = g; body = e } in
      pure_reads made r7 (λ l. refl) (some, o7, o6) (
        p7.0,
        (
          subst (IsAt w.text.here f) (e3 ∙ ap (spell_type_parameters vs) i3) p2,
          subst (AreTypeParametersAt w.text.here vs) i3 p3,
          subst (AreParametersAt w.text.here qs) i4 p4,
          (subst (AreResultsAt w.text.here g) e7 p6, p7.1),
        ),
      ))))))))

  main_reads : (r ws : List Token) → Reads w 1 (main_form w.text.here n) r (λ l. l) (λ at sub. main_at at (sub Any)) ws
  unfolding main_at
  main_reads r ws =
      let body_end = t.Sign s.Equals ∷ spell zero_is (t.Sign s.Semicolon ∷ r) in
      let end = t.Sign s.Colon ∷ spell_type a_type body_end in
      then_sign s.Main (spell_parameter a_parameter end) (a_main, zero_fine, refl) (λ u r1 e1.
      then_reads (parameter_reads end r1) (λ q o. (record { parameter = q; result = a_type; body = zero_is }, zero_fine, refl)) (λ q r2 e2 o2 p2.
      then_sign s.Colon (spell_type a_type body_end) (record { parameter = q; result = a_type; body = zero_is }, zero_fine, refl) (λ u r3 e3.
      then_reads (type_reads body_end r3) (λ a o. (record { parameter = q; result = a; body = zero_is }, zero_fine, refl)) (λ a r4 e4 o4 p4.
      then_reads (body_reads r r4) (λ e o. (record { parameter = q; result = a; body = e }, o, refl)) (λ e r5 e5 o5 p5.
      let made : GenericMainTree = record { parameter = q; result = a; body = e } in
      pure_reads made r5 (λ l. refl) o5 (
        p5.0,
        (
          subst (IsParameterAt w.text.here q) (e3 ∙ ap (λ (l : List Token). t.Sign s.Colon ∷ l) (e4 ∙ ap (spell_type a) e5)) p2,
          (subst (IsTypeAt w.text.here a) e5 p4, p5.1),
        ),
      ))))))

  pub program_reads : (r ws : List Token) → Reads w 0 (program w.text.here n) r (λ l. l) (λ at sub. program_at at (sub Any)) ws
  unfolding program_at
  program_reads r ws =
      let last = spell_main a_main r in
      then_reads (as_reads {F = datas w.text.here} datas_spelled datas_fine (λ ds rest o p. datas_good w.text.here ds rest p)
      (many_reads (is_sign s.Data) (λ at sub. data_at at) data_reads last ws))
      (λ ds o. (record { datas = ds; functions = []; main = a_main }, record { datas = o; functions = tt; main = zero_fine }, refl))
      (λ ds r1 e1 o1 p1.
      then_reads (as_reads {F = functions w.text.here n} functions_spelled functions_fine (λ fs rest o p. functions_good w.text.here n fs rest p)
      (many_reads (is_sign s.Fun) (λ at sub. function_at at (sub Any)) function_reads last r1))
      (λ fs o. (record { datas = ds; functions = fs; main = a_main }, record { datas = o1; functions = o; main = zero_fine }, refl))
      (λ fs r2 e2 o2 p2.
      then_reads (main_reads r r2) (λ m o. (record { datas = ds; functions = fs; main = m }, record { datas = o1; functions = o2; main = o }, refl))
      (λ m r3 e3 o3 p3.
      let i1 : r1 ≡ spell_functions fs (spell_main m r3) = e2 ∙ ap (spell_functions fs) e3 in
      let made : GenericProgramTree = record { datas = ds; functions = fs; main = m } in
      pure_reads made r3 (λ l. refl) (record { datas = o1; functions = o2; main = o3 })
      (omega (arith, p2.0, p3.0), subst (AreDatasAt w.text.here ds) i1 p1, subst (AreFunctionsAt w.text.here fs) e3 p2.1, p3.1))))

  -- ---- all of the tokens

  ends_reads : (g : GenericProgramTree) (ws : List Token) → IsGenericFineProgram g → (program w.text.here n).good g ws
      → Reads w 0 (whole_form w.text.here n) [] (λ l. spell_program g l) (λ at sub. ends_at g) ws
  ends_reads g [] o p = choice_nil (λ at sub. ends_at g) (λ at sub. done g) (λ at sub. refl) (pure_reads g [] (λ l. refl) o (p, refl))
  ends_reads g (c ∷ ws) o p = weaken (fail_reads (λ at sub. ends_at g) c ws [] (λ at sub l. refl) (g, o, refl))

  pub all_reads : (ws : List Token) → Reads w 0 (whole_form w.text.here n) [] (λ l. l) (λ at sub l. then_at (program_at at (sub Any) l) ends_at) ws
  all_reads ws = then_reads (program_reads [] ws) (λ g o. (g, o, refl)) (λ g rest e o p. ends_reads g rest o p)
