-- What the walk over a whole program leaves behind.
use Rattle.std.specs.Prelude.{◌≡◌, ◌<◌, List, length, map}
use Rattle.std.specs.List.{AllByRecursion}
use Rattle.gib_core.specs.declared.node.TermId.{TermId}
use Rattle.gib_core.specs.declared.program.CoreFunction.{CoreFunction}
use Rattle.gib_core.specs.declared.program.CoreMain.{CoreMain}
use Rattle.gib_core.specs.Tree.{Term, FunctionTerm, MainTerm}
use Rattle.gib_core.specs.Arena.{Grows, term_of}
use Rattle.gib_core.specs.Parts.{IsFunctionInside, function_term, main_term}
use Rattle.gib_infer.specs.declared.work.Work.{Work}

-- The term of a body was made.
pub record MakesBody (old new : Work) (id : TermId) (term : Term) : Type 0 where
  pub grows : Grows old.terms new.terms
  pub inside : id.0 < length new.terms
  pub is : term_of new.terms id.0 ≡ term

-- A function was made.
pub record MakesFunction (old new : Work) (made : CoreFunction) (f : FunctionTerm) : Type 0 where
  pub grows : Grows old.terms new.terms
  pub inside : made.body.0 < length new.terms
  pub is : function_term (term_of new.terms) made ≡ f

-- Functions were made.
pub record MakesFunctions (old new : Work) (made : List CoreFunction) (fs : List FunctionTerm) : Type 0 where
  pub grows : Grows old.terms new.terms
  pub inside : AllByRecursion (IsFunctionInside (length new.terms)) made
  pub are : map (function_term (term_of new.terms)) made ≡ fs

-- Main was made.
pub record MakesMain (old new : Work) (made : CoreMain) (f : MainTerm) : Type 0 where
  pub grows : Grows old.terms new.terms
  pub inside : made.body.0 < length new.terms
  pub is : main_term (term_of new.terms) made ≡ f
