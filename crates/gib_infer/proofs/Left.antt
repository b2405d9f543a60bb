-- What a typed program becomes is ordered, and what is left of it means what the program means.
use Rattle.std.proofs.Common.{◌≡◌, ℕ, List, [], ◌∷◌, ◌++◌, map, length, refl, sym, ◌∙◌, subst}
use Rattle.std.proofs.lemmas.List.{length-map}
use Rattle.std.specs.List.{AllByRecursion}
use Rattle.gib_types.specs.Table.{IsTable}
use Rattle.gib_types.specs.Tree.{Datum}
use Rattle.gib_syntax.specs.declared.tree.Parameter.{Parameter}
use Rattle.gib_syntax.specs.Results as results
use Rattle.gib_syntax.specs.Tree.{FunctionTree, ProgramTree}
use Rattle.gib_syntax.specs.Declarations.{table_of_program, type_of_name}
use Rattle.gib_syntax.specs.Typing as typing
use Rattle.gib_syntax.specs.Typing.{Globals, globals_of, parameter_types, IsTypedHere, IsTypedProgram}
use Rattle.gib_syntax.specs.Meaning.{names_of, calls, run}
use Rattle.gib_core.specs.Tree.{FunctionTerm}
use Rattle.gib_core.specs.Met.{Body}
use Rattle.gib_core.specs.Erasing.{erase_core}
use Rattle.gib_core.specs.Inferring.{infer_body, infer_function, infer_program}
use Rattle.gib_core.specs.Ordered.{IsOrdered, AreOrdered}
use Rattle.gib_core.proofs.Left.{calls_left as calls_erased, run_left as run_erased}
use Rattle.gib_infer.proofs.Ordered.{body_ordered}
use Rattle.gib_infer.proofs.Whole.{calls_same, run_same}

function_ordered : (g : Globals) (h : FunctionTree) → IsTypedHere g h → IsOrdered g.table (length (parameter_types g.table h)) (infer_function g h).body
function_ordered g h typed =
    let long : length (names_of h.parameters) ≡ length (parameter_types g.table h) =
    length-map h.parameters (λ (q : Parameter). q.name) ∙ sym (length-map h.parameters (λ (q : Parameter). type_of_name g.table.types q.ty)) in
    subst (λ n. IsOrdered g.table n (infer_function g h).body) long (body_ordered g (names_of h.parameters) (parameter_types g.table h) h.body typed.scope (typing.result_types g.table h) typed.typed)

functions_ordered : (g : Globals) (fs : List FunctionTree) (last : Body) → AllByRecursion (IsTypedHere g) fs → IsOrdered g.table (length last.parameters) last.term
    → AllByRecursion (λ (b : Body). IsOrdered g.table (length b.parameters) b.term)
    (map (λ (f : FunctionTerm). record { parameters = f.parameters; result = f.result; term = f.body }) (map (infer_function g) fs) ++ last ∷ [])
functions_ordered g [] last typed h = (h, tt)
functions_ordered g (f ∷ fs) last typed h = (function_ordered g f typed.0, functions_ordered g fs last typed.1 h)

pub infer_ordered : (p : ProgramTree) → IsTypedProgram p → AreOrdered (infer_program p)
infer_ordered p typed =
    let g = globals_of p in
    let parameter = type_of_name g.table.types p.main.parameter.ty in
    let result = results.One (type_of_name g.table.types p.main.result) in
    let names = p.main.parameter.name ∷ [] in
    functions_ordered g p.functions (record { parameters = parameter ∷ []; result = result; term = infer_body g names (parameter ∷ []) p.main.body }) typed.functions
    (body_ordered g names (parameter ∷ []) p.main.body typed.main.scope result typed.main.typed)

pub calls_left : (p : ProgramTree) → IsTable (table_of_program p) → IsTypedProgram p → (n : ℕ) → calls (erase_core p.datas (infer_program p)) n ≡ calls p n
calls_left p is typed n = calls_erased p.datas (infer_program p) refl (infer_ordered p typed) n ∙ calls_same p is typed n

pub run_left : (p : ProgramTree) → IsTable (table_of_program p) → IsTypedProgram p → (depth : ℕ) (v : Datum) → run (erase_core p.datas (infer_program p)) depth v ≡ run p depth v
run_left p is typed depth v = run_erased p.datas (infer_program p) refl (infer_ordered p typed) depth v ∙ run_same p is typed depth v
