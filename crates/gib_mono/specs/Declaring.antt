-- What copying of declarations leaves.
use Rattle.std.specs.Prelude.{◌≡◌, ℕ, ◌<◌, ◌≤◌, List, [], ◌∷◌, ◌++◌, length, map, Option, Some, None, Ok}
use Rattle.std.specs.List.{AllByRecursion}
use Rattle.gib_base.specs.declared.Span.{Span}
use Rattle.gib_types.specs.Form.{Form, Forms, Meant}
use Rattle.gib_types.specs.Types.{form_at, AreBelow, GrowsTo}
use Rattle.gib_syntax.specs.declared.tree.TypeName.{TypeName}
use Rattle.gib_syntax.specs.declared.tree.ResultTypes.{ResultTypes}
use Rattle.gib_syntax.specs.Results.{Results, map_results}
use Rattle.gib_syntax.specs.declared.tree.Parameter.{Parameter}
use Rattle.gib_syntax.specs.declared.tree.DataDecl.{DataDecl}
use Rattle.gib_syntax.specs.declared.tree.FunctionDecl.{FunctionDecl}
use Rattle.gib_syntax.specs.declared.tree.MainDecl.{MainDecl}
use Rattle.gib_syntax.specs.declared.program.GenericConstructor.{GenericConstructor}
use Rattle.gib_syntax.specs.Tree.{ConstructorTree, ProgramTree}
use Rattle.gib_syntax.specs.Arena.{tree_of, Grows}
use Rattle.gib_syntax.specs.Declarations.{number_of}
use Rattle.gib_syntax.specs.Parts.{data_tree, results_tree, function_tree, main_tree, IsFunctionInside}
use Rattle.gib_syntax.specs.Forms.{WrittenType, formed}
use Rattle.gib_syntax.specs.GenericParts.{GenericParts, generic_program_of}
use Rattle.gib_syntax.specs.GenericTree.{GenericExpression, GenericConstructorTree, GenericDataTree, GenericParameterTree, GenericFunctionTree, GenericMainTree, GenericGlobals, GenericProgramTree}
use Rattle.gib_syntax.specs.GenericTyping.{FormScope}
use Rattle.gib_mono.specs.declared.copier.Copier.{Copier}
use Rattle.gib_mono.specs.declared.declaring.CopiedParts.{CopiedParts}
use Rattle.gib_mono.specs.declared.declaring.Written.{Written}
use Rattle.gib_mono.specs.declared.find.Asked.{Asked}
use Rattle.gib_mono.specs.declared.found.CopyKey.{CopyKey}
use Rattle.gib_mono.specs.declared.found.CopyKey.TheVariants as k
use Rattle.gib_mono.specs.Contexts.{forms as forms_met}
use Rattle.gib_mono.specs.Copied.{Item}
use Rattle.gib_mono.specs.Copying.{Naming, name_of_form, copy, copy_written, copy_constructor, copy_data, copy_parameter, copy_function, copy_main, bind_forms}
use Rattle.gib_mono.specs.Found.{copy_from, IsFound}
use Rattle.gib_mono.specs.Made.{naming, Stays, Binds}
use Rattle.gib_mono.specs.Naming.{entry, entries, listed_entries, naming_of, with_entries}
use Rattle.gib_mono.specs.Scenes.{forms, meaning, scope_in, names_in}
use Rattle.gib_mono.specs.Sources.{globals_in}
use Rattle.gib_mono.specs.Walk.{Copy, DataCopy, FunctionCopy, datas_in, function_copies, copies_of, copied_program}

-- The copies that keys stand for.
abbrev pub copies_with : Option Copy → List Copy → List Copy
copies_with None cs = cs
copies_with (Some c) cs = c ∷ cs

-- Those of all keys, where each stands for one.
abbrev pub copies_from : GenericGlobals → List Form → List CopyKey → List Copy
copies_from g fs [] = []
copies_from g fs (key ∷ keys) = copies_with (copy_from g fs key) (copies_from g fs keys)

-- A key is of a declaration, at types that have numbers.
abbrev pub IsKeyInside : GenericGlobals → ℕ → CopyKey → Type 0
IsKeyInside g n (k.Data i is) = (i < length g.datas) × AreBelow n is.items
IsKeyInside g n (k.Function i is) = (i < length g.functions) × AreBelow n is.items

-- All keys are.
abbrev pub AreKeysInside : GenericGlobals → ℕ → List CopyKey → Type 0
AreKeysInside g n keys = AllByRecursion (IsKeyInside g n) keys

-- The name of a constructor, at these types.
abbrev pub own_entry : Forms → GenericConstructor → Item
own_entry ts c = entry (number_of c.name) ts

-- Names came, and nothing else changed.
pub record Enters (old new : Copier) (items : List Item) : Type 0 where
  pub types : new.scene.types ≡ old.scene.types
  pub names : names_in new.scene ≡ items
  pub base : new.base ≡ old.base
  pub exprs : new.exprs ≡ old.exprs

-- Types as the copy writes them, each where it is written.
abbrev pub named_forms : Naming → List Span → List Form → List TypeName
named_forms nm [] fs = []
named_forms nm (p ∷ ps) [] = []
named_forms nm (p ∷ ps) (f ∷ fs) = name_of_form nm p f ∷ named_forms nm ps fs

-- The first of places.
abbrev pub first_span : List Span → Span
first_span [] = record { start = 0; end = 0 }
first_span (p ∷ ps) = p

-- Types are written in the copy, and nothing but expressions and types came.
pub record WritesAll (old new : Copier) (names made : List TypeName) : Type 0 where
  pub stays : Stays old new
  pub is : names ≡ made

-- A written type was copied.
pub record Writes (old new : Copier) (w : Written) (t : WrittenType) : Type 0 where
  pub stays : Stays old new
  pub below : w.ty.0 < length new.scene.types
  pub form : form_at (forms new.scene) w.ty.0 ≡ formed (meaning old.scene) t
  pub name : w.name ≡ copy_written (naming old) (meaning old.scene) t

-- What a function gives is written in the copy, and nothing but expressions and types came.
pub record WritesResults (old new : Copier) (types : ResultTypes) (r : Results WrittenType) : Type 0 where
  pub stays : Stays old new
  pub is : results_tree types ≡ map_results (copy_written (naming old) (meaning old.scene)) r

-- Constructors were.
pub record CopiesConstructors (old new : Copier) (made : List ConstructorTree) (ts : Forms) (cs : List GenericConstructorTree) : Type 0 where
  pub stays : Stays old new
  pub is : made ≡ map (copy_constructor (naming old) (meaning old.scene) ts) cs

-- Expressions were put and types were met; type variables may stand for others, and other variables be in scope.
pub record Goes (old new : Copier) : Type 0 where
  pub grows : GrowsTo (forms old.scene) (forms new.scene)
  pub longer : length old.scene.types ≤ length new.scene.types
  pub names : names_in new.scene ≡ names_in old.scene
  pub base : new.base ≡ old.base
  pub puts : Grows old.exprs new.exprs

-- A data declaration was copied.
pub record CopiesData (old new : Copier) (c : DataDecl) (d : GenericDataTree) (ts : Forms) : Type 0 where
  pub goes : Goes old new
  pub is : data_tree c ≡ copy_data (naming old) d ts

-- Parameters with the types that type variables stand for.
abbrev pub parameters_bound : Meant → List GenericParameterTree → FormScope → FormScope
parameters_bound m qs scope = bind_forms (map (λ (q : GenericParameterTree). q.name) qs) (map (λ (q : GenericParameterTree). formed m q.ty) qs) scope

-- Parameters were copied and are in scope.
pub record CopiesParameters (old new : Copier) (ps : List Parameter) (qs : List GenericParameterTree) : Type 0 where
  pub binds : Binds old new (parameters_bound (meaning old.scene) qs (scope_in old.scene))
  pub is : ps ≡ map (copy_parameter (naming old) (meaning old.scene)) qs

-- Parameters, what is given and a body were copied.
pub record CopiesParts (g : GenericGlobals) (old new : Copier) (c : CopiedParts) (qs : List GenericParameterTree) (r : Results WrittenType) (e : GenericExpression) : Type 0 where
  pub goes : Goes old new
  pub parameters : c.parameters.items ≡ map (copy_parameter (naming old) (meaning old.scene)) qs
  pub result : results_tree c.result ≡ map_results (copy_written (naming old) (meaning old.scene)) r
  pub inside : c.body.0 < length new.exprs
  pub body : tree_of new.exprs c.body.0 ≡ copy g (naming old) (meaning old.scene) (parameters_bound (meaning old.scene) qs (scope_in old.scene)) e

-- A function was copied.
pub record CopiesFunction (g : GenericGlobals) (old new : Copier) (c : FunctionDecl) (f : GenericFunctionTree) (ts : Forms) : Type 0 where
  pub goes : Goes old new
  pub inside : c.body.0 < length new.exprs
  pub is : function_tree (tree_of new.exprs) c ≡ copy_function g (naming old) f ts

-- Main was copied.
pub record CopiesMain (g : GenericGlobals) (old new : Copier) (c : MainDecl) (f : GenericMainTree) : Type 0 where
  pub goes : Goes old new
  pub inside : c.body.0 < length new.exprs
  pub is : main_tree (tree_of new.exprs) c ≡ copy_main g (naming old) f

-- Copies were put behind other declarations.
pub record Declares (g : GenericGlobals) (old new : Copier) (datas_before : List DataDecl) (functions_before : List FunctionDecl) (datas_after : List DataDecl) (functions_after : List FunctionDecl) (cs : List Copy) : Type 0 where
  pub goes : Goes old new
  pub more_datas : List DataDecl
  pub datas : datas_after ≡ datas_before ++ more_datas
  pub datas_are : map data_tree more_datas ≡ map (λ (c : DataCopy). copy_data (naming old) c.decl c.types) (datas_in cs)
  pub more_functions : List FunctionDecl
  pub functions : functions_after ≡ functions_before ++ more_functions
  pub inside : AllByRecursion (IsFunctionInside (length new.exprs)) more_functions
  pub functions_are : map (function_tree (tree_of new.exprs)) more_functions ≡ map (λ (c : FunctionCopy). copy_function g (naming old) c.function c.types) (function_copies cs)

-- The copies of keys were named, then put, and main was copied: what was copied stands in between.
pub record CopiesKeys (p : GenericParts) (old new : Copier) (keys : List CopyKey) (ds : List DataDecl) (fs : List FunctionDecl) (main : MainDecl) : Type 0 where
  pub named : Copier
  pub put : Copier
  pub enters : Enters old named (with_entries (names_in old.scene) (listed_entries (copies_from (globals_in p) (forms old.scene) keys)))
  pub declares : Declares (globals_in p) named put [] [] ds fs (copies_from (globals_in p) (forms named.scene) keys)
  pub ends : CopiesMain (globals_in p) put new main (generic_program_of p).main

-- A program and its names are the copy of one with type parameters.
abbrev pub IsCopyOf : GenericProgramTree → ℕ → ProgramTree → List Item → Type 0
IsCopyOf p base made names =
    (found : List Copy) × (copies_of p ≡ Ok found) × (made ≡ copied_program p (naming_of base (entries found)) found) × (names ≡ entries found)

-- The copies that were found are those of the program.
pub record Finds (parts : GenericParts) (asked : Asked) : Type 0 where
  pub copies : List Copy
  pub are : copies_of (generic_program_of parts) ≡ Ok copies
  pub kept : IsFound (globals_in parts) (forms_met asked.context) asked.found copies
