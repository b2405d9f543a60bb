-- The types of functions and of main, in a core and in its parts.
use Rattle.std.proofs.Common.{ℕ, List, [], ◌∷◌, length, map}
use Rattle.std.specs.List.{AllByRecursion}
use Rattle.gib_core.specs.declared.program.CoreFunction.{CoreFunction}
use Rattle.gib_core.specs.Arena.{term_of}
use Rattle.gib_core.specs.Parts.{Parts, AreInside, AreDeclared, IsDeclared, core_of, function_term}
use Rattle.gib_core.specs.Tree.{Term, FunctionTerm}
use Rattle.gib_core.specs.TypesNamed.{SignaturesDeclared}

-- The types of functions are those of their terms.

pub functions_declared : (n : ℕ) (f : ℕ → Term) (ds : List CoreFunction) → AllByRecursion (IsDeclared n) ds → AllByRecursion (λ (g : FunctionTerm). AreDeclared n g.parameters g.result) (map (function_term f) ds)
functions_declared n f [] h = tt
functions_declared n f (d ∷ ds) h = (h.0, functions_declared n f ds h.1)

pub declared_functions : (n : ℕ) (f : ℕ → Term) (ds : List CoreFunction) → AllByRecursion (λ (g : FunctionTerm). AreDeclared n g.parameters g.result) (map (function_term f) ds) → AllByRecursion (IsDeclared n) ds
declared_functions n f [] h = tt
declared_functions n f (d ∷ ds) h = (h.0, declared_functions n f ds h.1)

pub parts_declared : (parts : Parts) → AreInside parts → SignaturesDeclared (core_of parts)
parts_declared parts h = record {
  functions = functions_declared (length parts.table.types) (term_of parts.terms) parts.functions h.types;
  main = h.main_types;
}
