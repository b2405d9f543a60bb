-- What the passes make of a source has the form of cores.
use Rattle.std.proofs.Common.{ℕ, ◌<◌, List, [], ◌∷◌, ◌++◌, map, length, sym, subst}
use Rattle.std.proofs.lemmas.List.{length-map}
use Rattle.std.specs.List.{AllByRecursion}
use Rattle.gib_types.specs.declared.table.Ty.{Ty}
use Rattle.gib_types.specs.Table.{Table, IsTable}
use Rattle.gib_syntax.specs.declared.tree.Ident.{Ident}
use Rattle.gib_syntax.specs.declared.tree.Parameter.{Parameter}
use Rattle.gib_syntax.specs.Tree.{FunctionTree, ProgramTree}
use Rattle.gib_syntax.specs.Typing.{Globals, globals_of, parameter_types}
use Rattle.gib_syntax.specs.Meaning.{names_of}
use Rattle.gib_syntax.specs.Results as results
use Rattle.gib_syntax.specs.Declarations.{type_of_name, table_of_program}
use Rattle.gib_core.specs.declared.atom.AccessMode.{AccessMode}
use Rattle.gib_core.specs.Tree.{Term, FunctionTerm}
use Rattle.gib_core.specs.Met.{Body}
use Rattle.gib_core.specs.Inferring.{infer_function, infer_body, infer_program, with_fields}
use Rattle.gib_core.specs.declared.atom.Ended.{Ended}
use Rattle.gib_core.specs.Reaching.{ended_by, reach, reach_function, reach_core}
use Rattle.gib_core.specs.Walk.{with_body}
use Rattle.gib_place.specs.Placing.{place_body}
use Rattle.gib_place.specs.Numbering.{place_core, place_anew, number_anew, place_in, variables_in}
use Rattle.gib_local_print.specs.Covered.{Covered, IsCovered}
use Rattle.gib_local_print.specs.HasShape.{IsWrite}
use Rattle.gib_local_print.specs.HasForm.{FillsNext, HasForm, AreFormed}
use Rattle.gib_local_print.proofs.Inferred.{infer_shape}
use Rattle.gib_local_print.proofs.Placing.{place_shape, rename_shape}
use Rattle.gib_local_print.proofs.Shapes.{reach_form}

abbrev body_of : FunctionTerm → Body
body_of f = record { parameters = f.parameters; result = f.result; term = f.body }

-- All passes on a function.
abbrev passed : AccessMode → List Ended → Globals → FunctionTree → FunctionTerm
passed mode es g f = reach_function mode g.table es (with_body place_anew (infer_function g f))

term_shape : (mode : AccessMode) (es : List Ended) (tb : Table) (n : ℕ) (t : Term) → HasForm IsWrite tb t → HasForm FillsNext tb (reach mode tb es [] (number_anew n (place_body t)))
term_shape mode es tb n t s = reach_form mode tb es (number_anew n (place_body t)) (rename_shape tb (place_in (variables_in n (place_body t))) (place_body t) (place_shape tb t s))

functions_shape : (mode : AccessMode) (es : List Ended) (g : Globals) → IsTable g.table → (fs : List FunctionTree) (m : Body) → AllByRecursion (λ (f : FunctionTree). Covered g f.body) fs → HasForm FillsNext g.table m.term
    → AllByRecursion (λ (b : Body). HasForm FillsNext g.table b.term) (map body_of (map (reach_function mode g.table es) (map (with_body place_anew) (map (infer_function g) fs))) ++ m ∷ [])
functions_shape mode es g is [] m c h = (h, tt)
functions_shape mode es g is (f ∷ fs) m c h =
    let types : List Ty = parameter_types g.table f in
    let t : Term = infer_body g (names_of f.parameters) types f.body in
    (term_shape mode es g.table (length types) t (infer_shape g is f.body c.0 (with_fields (names_of f.parameters) types 0 []) (length (names_of f.parameters))), functions_shape mode es g is fs m c.1 h)

some_parameters : (mode : AccessMode) (es : List Ended) (g : Globals) (fs : List FunctionTree) → AllByRecursion (λ (f : FunctionTree). 0 < length f.parameters) fs
    → AllByRecursion (λ (f : FunctionTerm). 0 < length f.parameters) (map (reach_function mode g.table es) (map (with_body place_anew) (map (infer_function g) fs)))
some_parameters mode es g [] h = tt
some_parameters mode es g (f ∷ fs) h = (subst (λ (n : ℕ). 0 < n) (sym (length-map f.parameters (λ (q : Parameter). type_of_name g.table.types q.ty))) h.0, some_parameters mode es g fs h.1)

-- The core of a source after all passes has such a form.
pub passes_form : (mode : AccessMode) (p : ProgramTree) → IsTable (table_of_program p) → IsCovered p → AreFormed (reach_core mode (place_core (infer_program p)))
passes_form mode p is c =
    let es : List Ended = ended_by mode (place_core (infer_program p)) in
    let g : Globals = globals_of p in
    let ty : Ty = type_of_name g.table.types p.main.parameter.ty in
    let names : List Ident = p.main.parameter.name ∷ [] in
    let t : Term = infer_body g names (ty ∷ []) p.main.body in
    let m : Body = record { parameters = ty ∷ []; result = results.One (type_of_name g.table.types p.main.result); term = reach mode g.table es [] (number_anew 1 (place_body t)) } in
    record {
      bodies = functions_shape mode es g is p.functions m c.functions (term_shape mode es g.table 1 t (infer_shape g is p.main.body c.main (with_fields names (ty ∷ []) 0 []) 1));
      parameters = some_parameters mode es g p.functions c.parameters;
    }
