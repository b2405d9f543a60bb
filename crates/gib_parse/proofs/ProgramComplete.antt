-- What is spelled as a program is read, where the levels serve.
use Rattle.std.proofs.Common.{◌≡◌, ◌≢◌, ℕ, false, List, [], ◌∷◌, Ok, refl, ap, ◌∙◌}
use Rattle.std.specs.List.{AllByRecursion}
use Rattle.gib_base.specs.declared.token.Sign.TheVariants as s
use Rattle.gib_base.specs.declared.token.Token.{Token}
use Rattle.gib_base.specs.declared.token.Token.TheVariants as t
use Rattle.gib_syntax.specs.declared.tree.Ident.{Ident}
use Rattle.gib_syntax.specs.Forms.{WrittenType, WholeAt, TruthAt, VariableAt, DataAt, NoType, MoreTypes}
use Rattle.gib_syntax.specs.Results.{Results, One, Several, AreResults}
use Rattle.gib_syntax.specs.GenericTree.{GenericExpression, GenericConstructorTree, GenericDataTree, GenericFunctionTree, GenericMainTree, GenericProgramTree, GenericParameterTree}
use Rattle.gib_syntax.specs.GenericFine.{IsGenericFine, IsGenericFineFunction, IsGenericFineProgram, HasGenericConstructor}
use Rattle.gib_syntax.specs.Spelling.{Places, spell_variables, spell_type_parameters, spell, spell_type, spell_types, spell_constructor, spell_more, spell_constructors, spell_data, spell_datas, spell_parameter, spell_parameters, spell_further_types, spell_results, spell_body, spell_function, spell_functions, spell_main, spell_program}
use Rattle.gib_parse.specs.Reading.{Any, Read, then_at, want, names_at, type_parameters_at, type_at, next_is, many, starts_type, is_sign, constructor_at, alternative_at, constructors_at, data_at, parameter_at, parameters_at, next_type_at, further_types_at, one_type_at, results_at, body_at, function_at, main_at, program_at, ends_at, whole_in, parse}
use Rattle.gib_parse.specs.Nesting.{below, below_functions, below_program}
use Rattle.gib_reads.proofs.Tools.{done}
use Rattle.gib_parse.proofs.WholeLaws.{type_shrinks, next_types_shrink, type_parameters_none, alternative_shrinks, data_shrinks, parameter_shrinks, function_shrinks}
use Rattle.gib_parse.proofs.Settle.{settle, settle_name, settle_names, settle_type}
use Rattle.gib_parse.proofs.WrittenComes.{type_comes, type_begins}
use Rattle.gib_parse.proofs.Come.{Comes, Came, then_comes, then_last, comes_at, Steps, many_comes}
use Rattle.gib_parse.proofs.Complete.{complete}
use Rattle.gib_parse.proofs.Starts.{variables_come}
use Rattle.gib_parse.proofs.ProgramSettle.{settle_type_parameters, settle_types, settle_constructor, settle_constructors, settle_data, settle_datas, settle_parameter, settle_parameters, settle_further_types, settle_results, settle_function, settle_functions, settle_main, settle_program}

-- ---- data declarations

types_step : (at : Places) (xs : List WrittenType) (rest : List Token) → next_is starts_type rest ≡ false → Steps [] starts_type (type_at at) (spell_types xs rest) (settle_types at xs rest) rest
types_step at [] rest en = (refl, en, refl)
types_step at (x ∷ xs) rest en = (spell_types xs rest, [], [], type_begins x (spell_types xs rest), Came (type_comes at x (spell_types xs rest)) refl, types_step at xs rest en, refl)

constructor_comes : (at : Places) (c : GenericConstructorTree) (rest : List Token) → next_is starts_type rest ≡ false → Comes [] (constructor_at at (spell_constructor c rest)) (settle_constructor at c rest) rest
unfolding constructor_at
constructor_comes at c rest en =
    then_last (λ fields left. done (let made : GenericConstructorTree = record { name = settle_name at c.name (spell_types c.fields rest); fields = fields } in made) left) (settle_constructor at c rest) rest
    (many_comes [] starts_type (type_at at) (type_shrinks at) (settle_types at c.fields rest) (spell_types c.fields rest) rest (types_step at c.fields rest en)) refl

more_ends : (cs : List GenericConstructorTree) (rest : List Token) → next_is starts_type (spell_more cs (t.Sign s.Semicolon ∷ rest)) ≡ false
more_ends [] rest = refl
more_ends (c ∷ cs) rest = refl

alternative_comes : (at : Places) (c : GenericConstructorTree) (rest : List Token) → next_is starts_type rest ≡ false → Comes [] (alternative_at at (t.Sign s.Bar ∷ spell_constructor c rest)) (settle_constructor at c rest) rest
unfolding alternative_at
alternative_comes at c rest en = constructor_comes at c rest en

more_step : (at : Places) (cs : List GenericConstructorTree) (rest : List Token) → Steps [] (is_sign s.Bar) (alternative_at at) (spell_more cs (t.Sign s.Semicolon ∷ rest)) (settle_constructors at cs (t.Sign s.Semicolon ∷ rest)) (t.Sign s.Semicolon ∷ rest)
more_step at [] rest = (refl, refl, refl)
more_step at (c ∷ cs) rest = (spell_more cs (t.Sign s.Semicolon ∷ rest), [], [], refl, alternative_comes at c (spell_more cs (t.Sign s.Semicolon ∷ rest)) (more_ends cs rest), more_step at cs rest, refl)

constructors_come : (at : Places) (cs : List GenericConstructorTree) (rest : List Token) → cs ≢ [] → Comes [] (constructors_at at (spell_constructors cs (t.Sign s.Semicolon ∷ rest))) (settle_constructors at cs (t.Sign s.Semicolon ∷ rest)) (t.Sign s.Semicolon ∷ rest)
unfolding constructors_at
constructors_come at [] rest some = absurd (some refl)
constructors_come at (c ∷ cs) rest some =
    let after = t.Sign s.Semicolon ∷ rest in
    let first = settle_constructor at c (spell_more cs after) in
    then_comes (λ c ts. then_at (many (is_sign s.Bar) (alternative_at at) ts) (λ cs ts. Ok (c ∷ cs, ts))) (settle_constructors at (c ∷ cs) after) after (constructor_comes at c (spell_more cs after) (more_ends cs rest))
    (then_last (λ cs ts. Ok (first ∷ cs, ts)) (settle_constructors at (c ∷ cs) after) after
    (many_comes [] (is_sign s.Bar) (alternative_at at) (alternative_shrinks at) (settle_constructors at cs after) (spell_more cs after) after (more_step at cs rest)) refl)

data_comes : (at : Places) (d : GenericDataTree) (rest : List Token) → HasGenericConstructor d → Comes [] (data_at at (spell_data d rest)) (settle_data at d rest) rest
unfolding data_at
data_comes at d rest some =
    let behind = t.Sign s.Equals ∷ spell_constructors d.constructors (t.Sign s.Semicolon ∷ rest) in
    let name = settle_name at d.name (spell_variables d.variables behind) in
    let vs = settle_names at d.variables behind in
    comes_at (ap (λ (r : Read (List Ident)). then_at r (λ vs ts. then_at (want s.Equals ts) (λ _ ts. then_at (constructors_at at ts) (λ cs ts. then_at (want s.Semicolon ts) (λ _ ts.
    done (let made : GenericDataTree = record { name = name; variables = vs; constructors = cs } in made) ts))))) (variables_come at d.variables s.Equals (spell_constructors d.constructors (t.Sign s.Semicolon ∷ rest))))
    (then_last (λ cs ts. then_at (want s.Semicolon ts) (λ _ ts. done (let made : GenericDataTree = record { name = name; variables = vs; constructors = cs } in made) ts)) (settle_data at d rest) rest
    (constructors_come at d.constructors rest some) refl)

datas_step : (at : Places) (ds : List GenericDataTree) (rest : List Token) → AllByRecursion HasGenericConstructor ds → next_is (is_sign s.Data) rest ≡ false → Steps [] (is_sign s.Data) (data_at at) (spell_datas ds rest) (settle_datas at ds rest) rest
datas_step at [] rest h en = (refl, en, refl)
datas_step at (d ∷ ds) rest h en = (spell_datas ds rest, [], [], refl, data_comes at d (spell_datas ds rest) h.0, datas_step at ds rest h.1 en, refl)

-- ---- functions

parameter_comes : (at : Places) (q : GenericParameterTree) (rest : List Token) → Comes [] (parameter_at at (spell_parameter q rest)) (settle_parameter at q rest) rest
unfolding parameter_at
parameter_comes at q rest =
    let name = settle_name at q.name (t.Sign s.Colon ∷ spell_type q.ty (t.Sign s.Close ∷ rest)) in
    Came (ap (λ (r : Read WrittenType). then_at r (λ a ts. then_at (want s.Close ts) (λ _ ts. done (let made : GenericParameterTree = record { name = name; ty = a } in made) ts))) (type_comes at q.ty (t.Sign s.Close ∷ rest))) refl

parameters_step : (at : Places) (qs : List GenericParameterTree) (rest : List Token) → next_is (is_sign s.Open) rest ≡ false → Steps [] (is_sign s.Open) (parameter_at at) (spell_parameters qs rest) (settle_parameters at qs rest) rest
parameters_step at [] rest en = (refl, en, refl)
parameters_step at (q ∷ qs) rest en = (spell_parameters qs rest, [], [], refl, parameter_comes at q (spell_parameters qs rest), parameters_step at qs rest en, refl)

parameters_come : (at : Places) (qs : List GenericParameterTree) (rest : List Token) → qs ≢ [] → next_is (is_sign s.Open) rest ≡ false → Comes [] (parameters_at at (spell_parameters qs rest)) (settle_parameters at qs rest) rest
unfolding parameters_at
parameters_come at [] rest some en = absurd (some refl)
parameters_come at (q ∷ qs) rest some en =
    let first = settle_parameter at q (spell_parameters qs rest) in
    then_comes (λ q ts. then_at (many (is_sign s.Open) (parameter_at at) ts) (λ qs ts. Ok (q ∷ qs, ts))) (settle_parameters at (q ∷ qs) rest) rest (parameter_comes at q (spell_parameters qs rest))
    (then_last (λ qs ts. Ok (first ∷ qs, ts)) (settle_parameters at (q ∷ qs) rest) rest
    (many_comes [] (is_sign s.Open) (parameter_at at) (parameter_shrinks at) (settle_parameters at qs rest) (spell_parameters qs rest) rest (parameters_step at qs rest en)) refl)

-- ---- what a function gives

further_types_step : (at : Places) (xs : List WrittenType) (rest : List Token) → Steps [] (is_sign s.Comma) (next_type_at at) (spell_further_types xs (t.Sign s.Close ∷ rest)) (settle_further_types at xs (t.Sign s.Close ∷ rest)) (t.Sign s.Close ∷ rest)
unfolding next_type_at
further_types_step at [] rest = (refl, refl, refl)
further_types_step at (x ∷ xs) rest =
    (spell_further_types xs (t.Sign s.Close ∷ rest), [], [], refl, Came (type_comes at x (spell_further_types xs (t.Sign s.Close ∷ rest))) refl, further_types_step at xs rest, refl)

part_types_come : (at : Places) (a b : WrittenType) (more : List WrittenType) (rest : List Token) → Comes [] (further_types_at at a (spell_further_types (b ∷ more) (t.Sign s.Close ∷ rest))) (Several (a ∷ settle_further_types at (b ∷ more) (t.Sign s.Close ∷ rest))) rest
unfolding further_types_at next_type_at
part_types_come at a b more rest =
    let last = t.Sign s.Close ∷ rest in
    let b' = settle_type at b (spell_further_types more last) in
    comes_at (ap (λ (r : Read WrittenType). then_at r (λ b ts. then_at (many (is_sign s.Comma) (next_type_at at) ts) (λ more ts. then_at (want s.Close ts) (λ _ ts. Ok (Several (a ∷ b ∷ more), ts))))) (type_comes at b (spell_further_types more last)))
    (then_last (λ more ts. then_at (want s.Close ts) (λ _ ts. Ok (Several (a ∷ b' ∷ more), ts))) (Several (a ∷ settle_further_types at (b ∷ more) last)) rest
    (many_comes [] (is_sign s.Comma) (next_type_at at) (next_types_shrink at) (settle_further_types at more last) (spell_further_types more last) last (further_types_step at more rest)) refl)

-- A type that begins with a parenthesis has arguments, so no comma stands behind its name.
results_of_one : (at : Places) (a : WrittenType) (rest : List Token) → results_at at (spell_type a rest) ≡ one_type_at (type_at at) (spell_type a rest)
unfolding one_type_at
results_of_one at (WholeAt p) rest = refl
results_of_one at (TruthAt p) rest = refl
results_of_one at (VariableAt x) rest = refl
results_of_one at (DataAt p x NoType) rest = refl
results_of_one at (DataAt p x (MoreTypes (WholeAt q) ws)) rest = refl
results_of_one at (DataAt p x (MoreTypes (TruthAt q) ws)) rest = refl
results_of_one at (DataAt p x (MoreTypes (VariableAt y) ws)) rest = refl
results_of_one at (DataAt p x (MoreTypes (DataAt q y NoType) ws)) rest = refl
results_of_one at (DataAt p x (MoreTypes (DataAt q y (MoreTypes v vs)) ws)) rest = refl

one_type_comes : (at : Places) (a : WrittenType) (rest : List Token) → results_at at (spell_type a rest) ≡ done (One (settle_type at a rest)) rest
unfolding one_type_at
one_type_comes at a rest = results_of_one at a rest ∙ ap (λ (r : Read WrittenType). then_at r (λ a ts. Ok (One a, ts))) (type_comes at a rest)

first_type_comes : (at : Places) (a b : WrittenType) (more : List WrittenType) (rest : List Token) → results_at at (t.Sign s.Open ∷ spell_type a (spell_further_types (b ∷ more) (t.Sign s.Close ∷ rest))) ≡ further_types_at at (settle_type at a (spell_further_types (b ∷ more) (t.Sign s.Close ∷ rest))) (spell_further_types (b ∷ more) (t.Sign s.Close ∷ rest))
first_type_comes at (WholeAt p) b more rest = refl
first_type_comes at (TruthAt p) b more rest = refl
first_type_comes at (VariableAt x) b more rest = refl
first_type_comes at (DataAt p x NoType) b more rest = refl
first_type_comes at (DataAt p x (MoreTypes w ws)) b more rest =
    ap (λ (r : Read WrittenType). then_at r (λ a ts. further_types_at at a ts)) (type_comes at (DataAt p x (MoreTypes w ws)) (spell_further_types (b ∷ more) (t.Sign s.Close ∷ rest)))

results_come : (at : Places) (r : Results WrittenType) (rest : List Token) → AreResults r → Comes [] (results_at at (spell_results r rest)) (settle_results at r rest) rest
results_come at (One a) rest h = Came (one_type_comes at a rest) refl
results_come at (Several []) rest h = absurd h
results_come at (Several (a ∷ [])) rest h = absurd h
results_come at (Several (a ∷ b ∷ more)) rest h = comes_at (first_type_comes at a b more rest) (part_types_come at (settle_type at a (spell_further_types (b ∷ more) (t.Sign s.Close ∷ rest))) b more rest)

body_comes : (at : Places) (l : ℕ) (e : GenericExpression) (rest : List Token) → IsGenericFine e → Comes (below l e (t.Sign s.Semicolon ∷ rest)) (body_at (parse at l Any) (t.Sign s.Equals ∷ spell e (t.Sign s.Semicolon ∷ rest))) (settle at e (t.Sign s.Semicolon ∷ rest)) rest
unfolding body_at
body_comes at l e rest f = then_last (λ e ts. then_at (want s.Semicolon ts) (λ _ ts. Ok (e, ts))) (settle at e (t.Sign s.Semicolon ∷ rest)) rest (complete at e l Any (t.Sign s.Semicolon ∷ rest) f tt refl) refl

names_come : (at : Places) (v : Ident) (vs : List Ident) (rest : List Token) → names_at at (spell_variables (v ∷ vs) (t.Sign s.CloseBracket ∷ rest)) ≡ done (settle_names at (v ∷ vs) (t.Sign s.CloseBracket ∷ rest)) rest
unfolding names_at
names_come at v vs rest =
    let first = settle_name at v (spell_variables vs (t.Sign s.CloseBracket ∷ rest)) in
    ap (λ (r : Read (List Ident)). then_at r (λ vs ts. then_at (want s.CloseBracket ts) (λ _ ts. Ok (first ∷ vs, ts)))) (variables_come at vs s.CloseBracket rest)

type_parameters_come : (at : Places) (vs : List Ident) (rest : List Token) → next_is (is_sign s.OpenBracket) rest ≡ false → type_parameters_at at (spell_type_parameters vs rest) ≡ done (settle_type_parameters at vs rest) rest
type_parameters_come at [] rest e = type_parameters_none at rest e
type_parameters_come at (v ∷ vs) rest e = names_come at v vs rest

parameters_open : (qs : List GenericParameterTree) (rest : List Token) → qs ≢ [] → next_is (is_sign s.OpenBracket) (spell_parameters qs rest) ≡ false
parameters_open [] rest some = absurd (some refl)
parameters_open (q ∷ qs) rest some = refl

abbrev function_of : Ident → List Ident → List GenericParameterTree → Results WrittenType → GenericExpression → GenericFunctionTree
function_of f vs qs r e = record { name = f; variables = vs; parameters = qs; result = r; body = e }

function_comes : (at : Places) (l : ℕ) (f : GenericFunctionTree) (rest : List Token) → IsGenericFineFunction f → Comes (below l f.body (t.Sign s.Semicolon ∷ rest)) (function_at at (parse at l Any) (spell_function f rest)) (settle_function at f rest) rest
unfolding function_at
function_comes at l f rest h =
    let behind = spell_body f.result f.body rest in
    let last = t.Sign s.Equals ∷ spell f.body (t.Sign s.Semicolon ∷ rest) in
    let parameters = spell_parameters f.parameters behind in
    let name = settle_name at f.name (spell_type_parameters f.variables parameters) in
    let vs = settle_type_parameters at f.variables parameters in
    let qs = settle_parameters at f.parameters behind in
    let gives = settle_results at f.result last in
    comes_at (ap (λ (r : Read (List Ident)). then_at r (λ vs ts. then_at (parameters_at at ts) (λ qs ts. then_at (want s.Colon ts) (λ _ ts. then_at (results_at at ts) (λ r ts. then_at (body_at (parse at l Any) ts) (λ e ts. done (function_of name vs qs r e) ts))))))
    (type_parameters_come at f.variables parameters (parameters_open f.parameters behind h.0)))
    (then_comes (λ qs ts. then_at (want s.Colon ts) (λ _ ts. then_at (results_at at ts) (λ r ts. then_at (body_at (parse at l Any) ts) (λ e ts. done (function_of name vs qs r e) ts)))) (settle_function at f rest) rest
    (parameters_come at f.parameters behind h.0 refl)
    (then_comes (λ r ts. then_at (body_at (parse at l Any) ts) (λ e ts. done (function_of name vs qs r e) ts)) (settle_function at f rest) rest
    (results_come at f.result last h.2)
    (then_last (λ e ts. done (function_of name vs qs gives e) ts) (settle_function at f rest) rest (body_comes at l f.body rest h.1) refl)))

functions_step : (at : Places) (l : ℕ) (fs : List GenericFunctionTree) (rest : List Token) → AllByRecursion IsGenericFineFunction fs → next_is (is_sign s.Fun) rest ≡ false
    → Steps (below_functions l fs rest) (is_sign s.Fun) (function_at at (parse at l Any)) (spell_functions fs rest) (settle_functions at fs rest) rest
functions_step at l [] rest h en = (refl, en, refl)
functions_step at l (f ∷ fs) rest h en =
    (spell_functions fs rest, below l f.body (t.Sign s.Semicolon ∷ spell_functions fs rest), below_functions l fs rest, refl, function_comes at l f (spell_functions fs rest) h.0, functions_step at l fs rest h.1 en, refl)

-- ---- main and the whole

abbrev main_of : GenericParameterTree → WrittenType → GenericExpression → GenericMainTree
main_of q a e = record { parameter = q; result = a; body = e }

main_comes : (at : Places) (l : ℕ) (m : GenericMainTree) (rest : List Token) → IsGenericFine m.body → Comes (below l m.body (t.Sign s.Semicolon ∷ rest)) (main_at at (parse at l Any) (spell_main m rest)) (settle_main at m rest) rest
unfolding main_at
main_comes at l m rest f =
    let behind = spell_body (One m.result) m.body rest in
    let last = t.Sign s.Equals ∷ spell m.body (t.Sign s.Semicolon ∷ rest) in
    let q = settle_parameter at m.parameter behind in
    let a = settle_type at m.result last in
    then_comes (λ q ts. then_at (want s.Colon ts) (λ _ ts. then_at (type_at at ts) (λ a ts. then_at (body_at (parse at l Any) ts) (λ e ts. done (main_of q a e) ts)))) (settle_main at m rest) rest
    (parameter_comes at m.parameter behind)
    (comes_at (ap (λ (r : Read WrittenType). then_at r (λ a ts. then_at (body_at (parse at l Any) ts) (λ e ts. done (main_of q a e) ts))) (type_comes at m.result last))
    (then_last (λ e ts. done (main_of q a e) ts) (settle_main at m rest) rest (body_comes at l m.body rest f) refl))

no_data : (fs : List GenericFunctionTree) (m : GenericMainTree) → next_is (is_sign s.Data) (spell_functions fs (spell_main m [])) ≡ false
no_data [] m = refl
no_data (f ∷ fs) m = refl

program_comes : (at : Places) (l : ℕ) (p : GenericProgramTree) → IsGenericFineProgram p → Comes (below_program l p) (program_at at (parse at l Any) (spell_program p [])) (settle_program at p) []
unfolding program_at
program_comes at l p f =
    let last = spell_main p.main [] in
    let behind = spell_functions p.functions last in
    let ds = settle_datas at p.datas behind in
    let fs = settle_functions at p.functions last in
    then_comes (λ ds ts. then_at (many (is_sign s.Fun) (function_at at (parse at l Any)) ts) (λ fs ts. then_at (main_at at (parse at l Any) ts) (λ m ts. done (let made : GenericProgramTree = record { datas = ds; functions = fs; main = m } in made) ts))) (settle_program at p) []
    (many_comes [] (is_sign s.Data) (data_at at) (data_shrinks at) ds (spell_datas p.datas behind) behind (datas_step at p.datas behind f.datas (no_data p.functions p.main)))
    (then_comes (λ fs ts. then_at (main_at at (parse at l Any) ts) (λ m ts. done (let made : GenericProgramTree = record { datas = ds; functions = fs; main = m } in made) ts)) (settle_program at p) []
    (many_comes (below_functions l p.functions last) (is_sign s.Fun) (function_at at (parse at l Any)) (function_shrinks at l) fs behind last (functions_step at l p.functions last f.functions refl))
    (then_last (λ m ts. done (let made : GenericProgramTree = record { datas = ds; functions = fs; main = m } in made) ts) (settle_program at p) [] (main_comes at l p.main [] f.main) refl))

-- The program comes, with the spans of its tokens, or too deep.
pub whole_comes : (at : Places) (l : ℕ) (p : GenericProgramTree) → IsGenericFineProgram p → Comes (below_program l p) (whole_in l at (spell_program p [])) (settle_program at p) []
unfolding whole_in
whole_comes at l p f = then_last ends_at (settle_program at p) [] (program_comes at l p f) refl
