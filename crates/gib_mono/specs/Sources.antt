-- A program, and where its names are declared.
use Rattle.std.specs.Prelude.{ℕ, List}
use Rattle.gib_syntax.specs.GenericTree.{GenericGlobals, globals_of_generic}
use Rattle.gib_syntax.specs.GenericArena.{tree_of}
use Rattle.gib_types.specs.Form.{Meant}
pub use Rattle.gib_check.specs.NameViews.{data_number, function_number}
use Rattle.gib_mono.specs.Walk.{Ask, asks}
use Rattle.gib_syntax.specs.GenericParts.{GenericParts, generic_program_of}

-- What the bodies of a program may name.
abbrev pub globals_in : GenericParts → GenericGlobals
globals_in parts = globals_of_generic (generic_program_of parts)

-- What the expression of a number uses, where type variables stand for types.
abbrev pub asks_in : GenericParts → ℕ → Meant → List Ask
asks_in parts id m = asks (globals_in parts).rows m (tree_of parts.exprs id)
