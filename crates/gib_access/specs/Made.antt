-- What the walk that reaches fields leaves behind.
use Rattle.std.specs.Prelude.{◌≡◌, ◌<◌, Bool, List, ◌++◌, length}
use Rattle.std.specs.List.{AllByRecursion}
use Rattle.gib_types.specs.declared.table.ConId.{ConId}
use Rattle.gib_types.specs.Table.{Table}
use Rattle.gib_core.specs.declared.atom.Variable.{Variable}
use Rattle.gib_core.specs.declared.atom.AccessMode.{AccessMode}
use Rattle.gib_core.specs.declared.node.Binding.{Binding}
use Rattle.gib_core.specs.declared.node.BoundSide.{BoundSide}
use Rattle.gib_core.specs.declared.node.Branch.{Branch}
use Rattle.gib_core.specs.declared.node.Node.{Node}
use Rattle.gib_core.specs.declared.node.TermId.{TermId}
use Rattle.gib_core.specs.Tree.{Term, PartTerms, Bind, Side, Branches, prepend}
use Rattle.gib_core.specs.declared.atom.Ended.{Ended}
use Rattle.gib_core.specs.Arena.{Grows, IsBindingBelow, IsBranchBelow, IsPartBelow, term_in, term_of, bind_from, side_from, branches_from, parts_from}
use Rattle.gib_core.specs.Reaching.{Later, laters, uses, bind_uses, side_uses, parts_use, branches_use, reach, reach_bind, reach_side, reach_parts, reach_branches, reaches, packed_variables, offset_of, offsets_in, bind_offsets, side_offsets, part_offsets, branch_offsets}
use Rattle.gib_access.specs.declared.work.Work.{Work}
use Rattle.gib_access.specs.Used.{Marks}

-- The terms that were there stay, just these variables were used, and these constructors were listed before
-- the others.
pub record Walked (old new : Work) (used : Variable → Bool) (listed : List ConId) : Type 0 where
  pub grows : Grows old.terms new.terms
  pub marks : Marks old.stamps new.stamps used
  pub offsets : new.offsets ≡ listed ++ old.offsets

-- A term was made.
pub record MakesTerm (old new : Work) (id : TermId) (term : Term) (used : Variable → Bool) (listed : List ConId) : Type 0 where
  pub walked : Walked old new used listed
  pub inside : id.0 < length new.terms
  pub is : term_of new.terms id.0 ≡ term

-- A binding was made.
pub record MakesBinding (old new : Work) (made : Binding) (bind : Bind) (used : Variable → Bool) (listed : List ConId) : Type 0 where
  pub walked : Walked old new used listed
  pub inside : IsBindingBelow (length new.terms) made
  pub is : bind_from (term_of new.terms) made ≡ bind

-- A side was made.
pub record MakesSide (old new : Work) (made : BoundSide) (side : Side) (used : Variable → Bool) (listed : List ConId) : Type 0 where
  pub walked : Walked old new used listed
  pub inside : (term_in made).0 < length new.terms
  pub is : side_from (term_of new.terms) made ≡ side

-- Parts were made.
pub record MakesParts (old new : Work) (made : List TermId) (parts : PartTerms) (used : Variable → Bool) (listed : List ConId) : Type 0 where
  pub walked : Walked old new used listed
  pub inside : AllByRecursion (IsPartBelow (length new.terms)) made
  pub are : parts_from (term_of new.terms) made ≡ parts

-- Branches were made.
pub record MakesBranches (old new : Work) (made : List Branch) (branches : Branches) (used : Variable → Bool) (listed : List ConId) : Type 0 where
  pub walked : Walked old new used listed
  pub inside : AllByRecursion (IsBranchBelow (length new.terms)) made
  pub are : branches_from (term_of new.terms) made ≡ branches

-- How a term is reached: by this mode, with the types of these declarations, where these parameters are ended.
pub record Way : Type 0 where
  pub mode : AccessMode
  pub table : Table
  pub ended : List Ended

-- The term was reached, and these fields by ends in its line.
abbrev pub ReachesTerm : Way → List Later → Work → Work → TermId → Term → Type 0
ReachesTerm w fs old new id t = MakesTerm old new id (reach w.mode w.table w.ended fs t) (uses t) (offsets_in w.mode w.table w.ended t)

-- The binding was reached.
abbrev pub ReachesBinding : Way → Work → Work → Binding → Bind → Type 0
ReachesBinding w old new made b = MakesBinding old new made (reach_bind w.mode w.table w.ended b) (bind_uses b) (bind_offsets w.mode w.table w.ended b)

-- The side was reached.
abbrev pub ReachesSide : Way → Work → Work → BoundSide → Side → Type 0
ReachesSide w old new made s = MakesSide old new made (reach_side w.mode w.table w.ended s) (side_uses s) (side_offsets w.mode w.table w.ended s)

-- The parts were reached.
abbrev pub ReachesParts : Way → Work → Work → List TermId → PartTerms → Type 0
ReachesParts w old new made ps = MakesParts old new made (reach_parts w.mode w.table w.ended ps) (parts_use ps) (part_offsets w.mode w.table w.ended ps)

-- The branches were reached.
abbrev pub ReachesBranches : Way → Work → Work → List Branch → Branches → Type 0
ReachesBranches w old new made bs = MakesBranches old new made (reach_branches w.mode w.table w.ended bs) (branches_use bs) (branch_offsets w.mode w.table w.ended bs)

-- The term of an arm, with the fields of its own reached too.
abbrev pub reach_arm : Way → ConId → List Variable → Term → Term
reach_arm w k xs t =
    let ps = packed_variables w.table k xs in
    prepend (reaches w.mode w.ended t ps) (reach w.mode w.table w.ended (laters w.mode w.ended t ps) t)

-- The constructors with an arm that uses a packed field but the first that no end reaches, of an arm and in its term.
abbrev pub arm_offsets : Way → ConId → List Variable → Term → List ConId
arm_offsets w k xs t = offset_of w.mode w.ended k t (packed_variables w.table k xs) ++ offsets_in w.mode w.table w.ended t

-- The branch, which had this term, was reached.
pub record ReachesBranch (w : Way) (old new : Work) (made was : Branch) (t : Term) : Type 0 where
  pub walked : Walked old new (uses t) (arm_offsets w was.constructor was.variables.items t)
  pub inside : made.term.0 < length new.terms
  pub constructor : made.constructor ≡ was.constructor
  pub variables : made.variables.items ≡ was.variables.items
  pub term : term_of new.terms made.term.0 ≡ reach_arm w was.constructor was.variables.items t

-- Bindings stand in front of a term.
pub record Fronts (old new : List Node) (made body : TermId) (binds : List Bind) : Type 0 where
  pub grows : Grows old new
  pub inside : made.0 < length new
  pub is : term_of new made.0 ≡ prepend binds (term_of old body.0)
