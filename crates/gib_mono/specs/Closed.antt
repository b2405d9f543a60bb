-- Copies of which each has all that it asks for among them.
use Rattle.std.specs.Prelude.{◌≡◌, ℕ, true, false, List, [], ◌∷◌, slice_get, Option, Some, None}
use Rattle.std.specs.List.{AllByRecursion}
use Rattle.gib_syntax.specs.Declarations.{number_of}
use Rattle.gib_syntax.specs.Forms.{Forms}
use Rattle.gib_syntax.specs.GenericTree.{GenericProgramTree, GenericGlobals, globals_of_generic, generic_named, data_named}
use Rattle.gib_syntax.specs.GenericFine.{HasGenericConstructor}
use Rattle.gib_mono.specs.Walk.{Ask, Copy, DataOf, FunctionOf, asked, is_found, are_few, copy_asks, main_asks}
use Rattle.gib_types.specs.Form.{has_long}

-- What is asked for is there.
abbrev pub IsThere : List Copy → Option Copy → Type 0
IsThere found None = Unit {0}
IsThere found (Some c) = is_found found c ≡ true

-- The use has its copy, and is short.
abbrev pub IsAnswered : GenericGlobals → List Copy → Ask → Type 0
IsAnswered g found a = (has_long a.types ≡ false) × IsThere found (asked g a.function a.name a.types)

-- All these uses have theirs.
abbrev pub AreAnswered : GenericGlobals → List Copy → List Ask → Type 0
AreAnswered g found asks = AllByRecursion (IsAnswered g found) asks

-- The types of a copy.
abbrev pub types_of : Copy → Forms
types_of (DataOf d ts) = ts
types_of (FunctionOf f ts) = ts

-- A copy of a declaration of the program, which its name finds; a type has a constructor.
abbrev pub IsDeclared : GenericGlobals → Copy → Type 0
IsDeclared g (DataOf d ts) = (data_named g.datas (number_of d.name) ≡ Some d) × HasGenericConstructor d
IsDeclared g (FunctionOf f ts) = generic_named g.functions (number_of f.name) ≡ Some f

-- No copy stands twice.
abbrev pub AreApart : List Copy → Type 0
AreApart [] = Unit {0}
AreApart (c ∷ cs) = (is_found cs c ≡ false) × AreApart cs

-- Copies so far: none twice, each of a declaration, few, each at types that are here.
pub record IsGood (g : GenericGlobals) (found : List Copy) : Type 0 where
  pub apart : AreApart found
  pub declared : AllByRecursion (IsDeclared g) found
  pub few : are_few found ≡ true

-- All that the copies and main ask for is there, and each copy is at types that are here.
pub record IsClosed (p : GenericProgramTree) (found : List Copy) : Type 0 where
  pub good : IsGood (globals_of_generic p) found
  pub each : (i : ℕ) (c : Copy) → slice_get found i ≡ Some c → AreAnswered (globals_of_generic p) found (copy_asks (globals_of_generic p).rows c)
  pub main : AreAnswered (globals_of_generic p) found (main_asks p)
