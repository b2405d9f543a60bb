-- The types of a program's functions and of its main are declared.
use Rattle.std.proofs.Common.{false, ◌≡◌, ℕ, ◌<◌, List, [], ◌∷◌, length, map, Option, Some, None, refl, subst, sym}
use Rattle.std.specs.List.{AllByRecursion}
use Rattle.gib_types.specs.declared.table.ConId.{ConId}
use Rattle.gib_types.specs.Row.{Table}
use Rattle.gib_types.specs.Table.{IsTyBelow}
use Rattle.gib_syntax.specs.declared.tree.Parameter.{Parameter}
use Rattle.gib_syntax.specs.declared.tree.TypeName.{TypeName}
use Rattle.gib_syntax.specs.declared.tree.TypeName.TheVariants as ty
use Rattle.gib_syntax.specs.Declarations.{place_of, number_of, tree_type, type_or, type_of_name}
use Rattle.gib_syntax.specs.Parts.{Parts, program_of}
use Rattle.gib_syntax.specs.Tree.{FunctionTree, ProgramTree}
use Rattle.gib_syntax.specs.Results as results
use Rattle.gib_syntax.specs.Results.{Results, map_results}
use Rattle.gib_syntax.specs.Typing.{Globals}
use Rattle.gib_check.proofs.Different.{place_within}
use Rattle.gib_core.specs.declared.program.CoreFunction.{CoreFunction}
use Rattle.gib_core.specs.declared.program.CoreMain.{CoreMain}
use Rattle.gib_core.specs.Arena.{term_of}
use Rattle.gib_core.specs.Inferring.{infer_function, infer_program}
use Rattle.gib_core.specs.Parts.{AreDeclared, IsResultDeclared, AreInside, function_term, main_term}
use Rattle.gib_core.specs.Tree.{FunctionTerm, MainTerm}
use Rattle.gib_core.proofs.Signatures.{declared_functions}
use Rattle.gib_infer.specs.declared.work.Work.{Work}
use Rattle.gib_infer.specs.Made.{globals_in}
use Rattle.gib_infer.specs.Bodies.{MakesFunctions, MakesMain}
use Rattle.gib_core.proofs.Inside.{functions_more}

place_below : (types : List ℕ) (o : Option ℕ) → ((i : ℕ) → o ≡ Some i → i < length types) → IsTyBelow (length types) (type_or (tree_type o))
place_below types None h = tt
place_below types (Some i) h = h i refl

pub name_below : (types : List ℕ) (a : TypeName) → IsTyBelow (length types) (type_of_name types a)
name_below types (ty.Whole p) = tt
name_below types (ty.Truth p) = tt
name_below types (ty.Declared x) = place_below types (place_of types (number_of x)) (λ i e. place_within types (number_of x) i e)

parameters_below : (types : List ℕ) (qs : List Parameter) → AllByRecursion (IsTyBelow (length types)) (map (λ (q : Parameter). type_of_name types q.ty) qs)
parameters_below types [] = tt
parameters_below types (q ∷ qs) = (name_below types q.ty, parameters_below types qs)

names_below : (types : List ℕ) (as' : List TypeName) → AllByRecursion (IsTyBelow (length types)) (map (type_of_name types) as')
names_below types [] = tt
names_below types (a ∷ as') = (name_below types a, names_below types as')

results_below : (types : List ℕ) (given : Results TypeName) → IsResultDeclared (length types) (map_results (type_of_name types) given)
results_below types (results.One a) = name_below types a
results_below types (results.Several as') = names_below types as'

functions_below : (g : Globals) (fs : List FunctionTree) → AllByRecursion (λ (f : FunctionTerm). AreDeclared (length g.table.types) f.parameters f.result) (map (infer_function g) fs)
functions_below g [] = tt
functions_below g (f ∷ fs) = ((parameters_below g.table.types f.parameters, results_below g.table.types f.result), functions_below g fs)

main_below : (p : ProgramTree) (n : ℕ) (m : MainTerm) → length (infer_program p).table.types ≡ n → m ≡ (infer_program p).main → AreDeclared n (m.parameter ∷ []) (results.One m.result)
main_below p n m e h =
    let types = (infer_program p).table.types in
    subst (λ (k : ℕ). AreDeclared k (m.parameter ∷ []) (results.One m.result)) e
    (subst (λ (x : MainTerm). AreDeclared (length types) (x.parameter ∷ []) (results.One x.result)) (sym h) ((name_below types p.main.parameter.ty, tt), name_below types p.main.result))

-- The parts of the core that is made.
pub parts_inside : (parts : Parts) (w0 w1 w2 : Work) (table : Table) (fs : List CoreFunction) (main : CoreMain) (offsets : List ConId) → table ≡ (infer_program (program_of parts)).table
    → MakesFunctions w0 w1 fs (map (infer_function (globals_in parts)) (program_of parts).functions) → MakesMain w1 w2 main (infer_program (program_of parts)).main
    → AreInside (record { table = table; terms = w2.terms; functions = fs; main = main; offsets = offsets; marked = false })
parts_inside parts w0 w1 w2 table fs main offsets et hf hm =
    let n = length table.types in
    let same : length (infer_program (program_of parts)).table.types ≡ n = λ i. length (sym et i).types in
    record {
      functions = functions_more (length w1.terms) (length w2.terms) fs hm.grows.longer hf.inside;
      main = hm.inside;
      types = declared_functions n (term_of w1.terms) fs
          (subst (λ (k : ℕ). AllByRecursion (λ (f : FunctionTerm). AreDeclared k f.parameters f.result) (map (function_term (term_of w1.terms)) fs)) same
          (subst (λ (gs : List FunctionTerm). AllByRecursion (λ (f : FunctionTerm). AreDeclared (length (infer_program (program_of parts)).table.types) f.parameters f.result) gs) (sym hf.are)
          (functions_below (globals_in parts) (program_of parts).functions)));
      main_types = main_below (program_of parts) n (main_term (term_of w2.terms) main) same hm.is;
    }
