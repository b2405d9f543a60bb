-- What the walk that places fields leaves behind.
use Rattle.std.specs.Prelude.{◌≡◌, ◌<◌, List, length, map, Some}
use Rattle.std.specs.List.{AllByRecursion}
use Rattle.gib_core.specs.declared.node.Binding.{Binding}
use Rattle.gib_core.specs.declared.node.BoundSide.{BoundSide}
use Rattle.gib_core.specs.declared.node.Branch.{Branch}
use Rattle.gib_core.specs.declared.node.Node.{Node}
use Rattle.gib_core.specs.declared.node.TermId.{TermId}
use Rattle.gib_core.specs.declared.program.CoreFunction.{CoreFunction}
use Rattle.gib_core.specs.declared.program.CoreMain.{CoreMain}
use Rattle.gib_core.specs.Tree.{Term, Bind, Side, PartTerms, Branches, FunctionTerm, MainTerm}
use Rattle.gib_core.specs.Parts.{IsFunctionInside, function_term, main_term}
use Rattle.gib_core.specs.Walk.{with_body, with_main}
use Rattle.gib_place.specs.Numbering.{place_anew}
use Rattle.gib_core.specs.Arena.{Grows, IsBindingBelow, IsBranchBelow, IsPartBelow, PartsBelow, term_in, term_of, bind_from, binds_from, side_from, parts_from, branches_from, layer}
use Rattle.gib_place.specs.Filled.{IsOtherEnd}

-- A term was made, and those that were there stay.
pub record MakesTerm (old new : List Node) (id : TermId) (term : Term) : Type 0 where
  pub grows : Grows old new
  pub inside : id.0 < length new
  pub is : term_of new id.0 ≡ term

-- A binding was made.
pub record MakesBinding (old new : List Node) (made : Binding) (bind : Bind) : Type 0 where
  pub grows : Grows old new
  pub inside : IsBindingBelow (length new) made
  pub is : bind_from (term_of new) made ≡ bind

-- Bindings were made.
pub record MakesBindings (old new : List Node) (made : List Binding) (binds : List Bind) : Type 0 where
  pub grows : Grows old new
  pub inside : AllByRecursion (IsBindingBelow (length new)) made
  pub are : binds_from (term_of new) made ≡ binds

-- A side was made.
pub record MakesSide (old new : List Node) (made : BoundSide) (side : Side) : Type 0 where
  pub grows : Grows old new
  pub inside : (term_in made).0 < length new
  pub is : side_from (term_of new) made ≡ side

-- The end of a line that fills no head was made.
pub record MakesEnd (old new : List Node) (made : Node) (end : Term) : Type 0 where
  pub grows : Grows old new
  pub inside : PartsBelow made (length new)
  pub other : IsOtherEnd made
  pub is : layer (term_of new) (Some made) ≡ end

-- Parts were made.
pub record MakesParts (old new : List Node) (made : List TermId) (parts : PartTerms) : Type 0 where
  pub grows : Grows old new
  pub inside : AllByRecursion (IsPartBelow (length new)) made
  pub are : parts_from (term_of new) made ≡ parts

-- A branch like another one was made, with this term.
pub record MakesBranch (old new : List Node) (made was : Branch) (term : Term) : Type 0 where
  pub grows : Grows old new
  pub inside : made.term.0 < length new
  pub constructor : made.constructor ≡ was.constructor
  pub variables : made.variables.items ≡ was.variables.items
  pub is : term_of new made.term.0 ≡ term

-- Branches were made.
pub record MakesBranches (old new : List Node) (made : List Branch) (branches : Branches) : Type 0 where
  pub grows : Grows old new
  pub inside : AllByRecursion (IsBranchBelow (length new)) made
  pub are : branches_from (term_of new) made ≡ branches

-- The function was placed.
pub record PlacesFunction (old new : List Node) (made : CoreFunction) (f : FunctionTerm) : Type 0 where
  pub grows : Grows old new
  pub inside : made.body.0 < length new
  pub is : function_term (term_of new) made ≡ with_body place_anew f

-- The functions were placed.
pub record PlacesFunctions (old new : List Node) (made : List CoreFunction) (fs : List FunctionTerm) : Type 0 where
  pub grows : Grows old new
  pub inside : AllByRecursion (IsFunctionInside (length new)) made
  pub are : map (function_term (term_of new)) made ≡ map (with_body place_anew) fs

-- Main was placed.
pub record PlacesMain (old new : List Node) (made : CoreMain) (m : MainTerm) : Type 0 where
  pub grows : Grows old new
  pub inside : made.body.0 < length new
  pub is : main_term (term_of new) made ≡ with_main place_anew m
