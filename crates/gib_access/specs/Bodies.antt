-- What the walk over a whole core leaves behind.
use Rattle.std.specs.Prelude.{◌≡◌, ◌<◌, List, [], ◌++◌, length, map}
use Rattle.std.specs.List.{AllByRecursion, flat_map}
use Rattle.gib_types.specs.declared.table.ConId.{ConId}
use Rattle.gib_core.specs.declared.atom.AccessMode.{AccessMode}
use Rattle.gib_core.specs.declared.atom.AccessMode.TheVariants.{Skips, Offsets, Ends}
use Rattle.gib_core.specs.declared.program.CoreFunction.{CoreFunction}
use Rattle.gib_core.specs.declared.program.CoreMain.{CoreMain}
use Rattle.gib_core.specs.Tree.{FunctionTerm, MainTerm}
use Rattle.gib_core.specs.Arena.{Grows, term_of}
use Rattle.gib_core.specs.Parts.{IsFunctionInside, function_term, main_term}
use Rattle.gib_core.specs.Reaching.{reach, reach_function, offsets_in}
use Rattle.gib_access.specs.declared.work.Work.{Work}
use Rattle.gib_access.specs.Made.{Way}

-- The function was reached.
pub record ReachesFunction (w : Way) (old new : Work) (made : CoreFunction) (f : FunctionTerm) : Type 0 where
  pub grows : Grows old.terms new.terms
  pub offsets : new.offsets ≡ offsets_in w.mode w.table w.ended f.body ++ old.offsets
  pub inside : made.body.0 < length new.terms
  pub is : function_term (term_of new.terms) made ≡ reach_function w.mode w.table w.ended f

-- The constructors with an arm that uses a packed field but the first, in functions.
abbrev pub offsets_of : Way → List FunctionTerm → List ConId
offsets_of w fs = flat_map (λ (f : FunctionTerm). offsets_in w.mode w.table w.ended f.body) fs

-- The functions were reached.
pub record ReachesFunctions (w : Way) (old new : Work) (made : List CoreFunction) (fs : List FunctionTerm) : Type 0 where
  pub grows : Grows old.terms new.terms
  pub offsets : new.offsets ≡ offsets_of w fs ++ old.offsets
  pub inside : AllByRecursion (IsFunctionInside (length new.terms)) made
  pub are : map (function_term (term_of new.terms)) made ≡ map (reach_function w.mode w.table w.ended) fs

-- Main, with the fields of all arms reached.
abbrev pub reach_main : Way → MainTerm → MainTerm
reach_main w m = record { parameter = m.parameter; result = m.result; body = reach w.mode w.table w.ended [] m.body }

-- Main was reached.
pub record ReachesMain (w : Way) (old new : Work) (made : CoreMain) (m : MainTerm) : Type 0 where
  pub grows : Grows old.terms new.terms
  pub offsets : new.offsets ≡ offsets_in w.mode w.table w.ended m.body ++ old.offsets
  pub inside : made.body.0 < length new.terms
  pub is : main_term (term_of new.terms) made ≡ reach_main w m

-- Constructors with offsets: with walks in their place there are none.
abbrev pub offsets_kept : AccessMode → List ConId → List ConId
offsets_kept Skips ks = []
offsets_kept Offsets ks = ks
offsets_kept Ends ks = ks
