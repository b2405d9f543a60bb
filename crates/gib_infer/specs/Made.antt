-- What the walk from source to core leaves behind.
use Rattle.std.specs.Prelude.{◌≡◌, ℕ, ◌+◌, ◌<◌, ◌≤◌, List, [], ◌∷◌, ◌++◌, length, map, reverse, take, Option, Some, None}
use Rattle.std.specs.Option.{unwrap_or}
use Rattle.std.specs.List.{AllByRecursion}
use Rattle.gib_base.specs.declared.name.Name.{Name}
use Rattle.gib_types.specs.declared.table.Ty.{Ty}
use Rattle.gib_types.specs.declared.table.Ty.TheVariants.{Whole, Truth, Tree}
use Rattle.gib_types.specs.declared.table.ConId.{ConId}
use Rattle.gib_types.specs.Table.{fields_at}
use Rattle.gib_syntax.specs.declared.exprs.ExprId.{ExprId}
use Rattle.gib_syntax.specs.declared.exprs.Arm.{Arm}
use Rattle.gib_syntax.specs.declared.exprs.Node.{Node as Expr}
use Rattle.gib_syntax.specs.declared.tree.Ident.{Ident}
use Rattle.gib_syntax.specs.Arena.{tree_of}
use Rattle.gib_syntax.specs.Parts.{Parts}
use Rattle.gib_syntax.specs.Results as results
use Rattle.gib_syntax.specs.Results.{Results}
pub use Rattle.gib_check.specs.Views.{globals_in}
use Rattle.gib_core.specs.declared.atom.Atom.{Atom}
use Rattle.gib_core.specs.declared.atom.Variable.{Variable}
use Rattle.gib_core.specs.declared.node.Binding.{Binding}
use Rattle.gib_core.specs.declared.node.Branch.{Branch}
use Rattle.gib_core.specs.declared.node.BoundTerm.{BoundTerm}
use Rattle.gib_core.specs.declared.node.BoundSide.TheVariants as bound
use Rattle.gib_core.specs.declared.node.TermId.{TermId}
use Rattle.gib_core.specs.declared.scope.Slot.{Slot}
use Rattle.gib_core.specs.Tree.{Give, prepend, On, Branches, NoBranch, BranchThen}
use Rattle.gib_core.specs.Arena.{Grows, IsBindingBelow, IsBranchBelow, IsPartBelow, term_in, term_of, side_from, binds_from, branches_from, parts_from}
use Rattle.gib_core.specs.Tree.{variables_from}
use Rattle.gib_core.specs.Inferring.{Scope, Lined, Atomed, Several, Code, ArmCode, Branched, Parted, Bounded, infer, con_named, with_fields, call_line, call_atom, call_side, pointed_fields, as_atoms, slot, kind_of, branches_of}
use Rattle.gib_infer.specs.declared.parts.NamedSide.{NamedSide}
use Rattle.gib_infer.specs.declared.work.Work.{Work}

-- The names in scope, kept with the newest last.
abbrev pub scope_of : List Slot → Scope
scope_of slots = reverse slots

-- What the expression of a number becomes.
abbrev pub code_at : Parts → List Expr → ℕ → Code
code_at parts exprs id = infer (globals_in parts) (tree_of exprs id)

-- What the expressions of these numbers become.
abbrev pub codes_at : Parts → List Expr → List ExprId → List Code
codes_at parts exprs ids = map (λ (id : ExprId). code_at parts exprs id.0) ids

-- What an arm becomes.
abbrev pub arm_at : Parts → List Expr → Arm → ArmCode
arm_at parts exprs arm = record { con = con_named (globals_in parts) arm.constructor; names = arm.variables.items; code = code_at parts exprs arm.body.0 }

-- What arms become.
abbrev pub arms_at : Parts → List Expr → List Arm → List ArmCode
arms_at parts exprs arms = map (arm_at parts exprs) arms

-- The expressions have smaller numbers.
abbrev pub AreBelow : ℕ → List ExprId → Type 0
AreBelow id ids = AllByRecursion (λ (a : ExprId). a.0 < id) ids

-- The terms of all bindings have smaller numbers.
abbrev pub AreBindingsBelow : ℕ → List Binding → Type 0
AreBindingsBelow n bindings = AllByRecursion (IsBindingBelow n) bindings

-- The terms of all branches have smaller numbers.
abbrev pub AreBranchesBelow : ℕ → List Branch → Type 0
AreBranchesBelow n branches = AllByRecursion (IsBranchBelow n) branches

-- The terms that were there stay, and the same names are in scope.
pub record Keeps (old new : Work) : Type 0 where
  pub grows : Grows old.terms new.terms
  pub scope : new.scope.items ≡ old.scope.items

-- A term with its type was made.
pub record MakesLine (old new : Work) (id : TermId) (of : Ty) (l : Lined) : Type 0 where
  pub keeps : Keeps old new
  pub inside : id.0 < length new.terms
  pub term : term_of new.terms id.0 ≡ l.term
  pub ty : of ≡ l.ty
  pub fresh : new.fresh ≡ l.fresh

-- Bindings were put behind others, and give an atom with its type.
pub record MakesAtom (old new : Work) (before after : List Binding) (x : Atom) (of : Ty) (a : Atomed) : Type 0 where
  pub keeps : Keeps old new
  pub inside : AreBindingsBelow (length new.terms) after
  pub binds : binds_from (term_of new.terms) after ≡ binds_from (term_of old.terms) before ++ a.binds
  pub atom : x ≡ a.atom
  pub ty : of ≡ a.ty
  pub fresh : new.fresh ≡ a.fresh

-- Bindings were put behind others, and give atoms.
pub record MakesAtoms (old new : Work) (before after : List Binding) (xs : List Atom) (s : Several) : Type 0 where
  pub keeps : Keeps old new
  pub inside : AreBindingsBelow (length new.terms) after
  pub binds : binds_from (term_of new.terms) after ≡ binds_from (term_of old.terms) before ++ s.binds
  pub atoms : xs ≡ s.atoms
  pub fresh : new.fresh ≡ s.fresh

-- Atoms behind these bindings, as they stand.
abbrev pub pending : Work → List Binding → List Atom → Several
pending work bindings atoms = record { fresh = work.fresh; binds = binds_from (term_of work.terms) bindings; atoms = atoms }

-- An atom behind these bindings, as they stand.
abbrev pub pending_atom : Work → List Binding → Atom → Ty → Atomed
pending_atom work bindings atom ty = record { fresh = work.fresh; binds = binds_from (term_of work.terms) bindings; atom = atom; ty = ty }

-- Atoms that stand behind no bindings.
abbrev pub plain_atoms : Work → List Atom → Several
plain_atoms work atoms = record { fresh = work.fresh; binds = []; atoms = atoms }

-- An atom that is given, behind its bindings.
abbrev pub given_atom : Atomed → Lined
given_atom a = record { fresh = a.fresh; term = prepend a.binds (Give a.atom); ty = a.ty }

-- The type of one thing; of several parts there is none.
abbrev pub one_of : Results Ty → Option Ty
one_of (results.One t) = Some t
one_of (results.Several ts) = None

-- The type of a scalar.
abbrev pub scalar_one : Option Ty → Option Ty
scalar_one None = None
scalar_one (Some (Tree t)) = None
scalar_one (Some Whole) = Some Whole
scalar_one (Some Truth) = Some Truth

-- A call in result place, behind its arguments' bindings.
abbrev pub ended_call : Option Ty → Name → Several → Lined
ended_call None f r = call_line Whole f r
ended_call (Some (Tree t)) f r = call_line (Tree t) f r
ended_call (Some Whole) f r = given_atom (call_atom Whole f r)
ended_call (Some Truth) f r = given_atom (call_atom Truth f r)

-- A call that is a side, behind its arguments' bindings.
abbrev pub side_call : Option Ty → Name → Several → Lined
side_call None f r = call_line Whole f r
side_call (Some (Tree t)) f r = call_line (Tree t) f r
side_call (Some Whole) f r = call_side Whole f r r.binds
side_call (Some Truth) f r = call_side Truth f r r.binds

-- A name was put into the scope.
pub record Binds (old new : Work) (name : Ident) (atom : Atom) (ty : Ty) : Type 0 where
  pub terms : new.terms ≡ old.terms
  pub fresh : new.fresh ≡ old.fresh
  pub scope : new.scope.items ≡ old.scope.items ++ slot name atom ty ∷ []

-- Names of fields became new variables, behind the names that were in scope.
pub record BindsFields (old new : Work) (names : List Ident) (types : List Ty) (xs : List Variable) : Type 0 where
  pub terms : new.terms ≡ old.terms
  pub scope : scope_of new.scope.items ≡ with_fields names types old.fresh (scope_of old.scope.items)
  pub kept : take (length old.scope.items) new.scope.items ≡ old.scope.items
  pub variables : xs ≡ variables_from old.fresh names
  pub fresh : new.fresh ≡ old.fresh + length names

-- Fields of a head were bound, each pointing to its atom.
pub record PointsFields (old new : Work) (before after : List Binding) (types : List Ty) (atoms xs : List Atom) : Type 0 where
  pub keeps : Keeps old new
  pub inside : AreBindingsBelow (length new.terms) after
  pub binds : binds_from (term_of new.terms) after ≡ binds_from (term_of old.terms) before ++ pointed_fields old.fresh types atoms
  pub fields : xs ≡ as_atoms (variables_from old.fresh atoms)
  pub fresh : new.fresh ≡ old.fresh + length atoms

-- A side was made, with the next variable.
pub record MakesSide (old new : Work) (s : BoundTerm) (l : Lined) : Type 0 where
  pub keeps : Keeps old new
  pub inside : s.term.0 < length new.terms
  pub side : side_from (term_of new.terms) (bound.One s) ≡ On (kind_of l.ty) (record { 0 = old.fresh }) l.ty l.term
  pub variable : s.variable ≡ record { 0 = old.fresh }
  pub ty : s.ty ≡ l.ty
  pub fresh : new.fresh ≡ l.fresh

-- Packed parts were made.
pub record MakesParts (old new : Work) (ids : List TermId) (ps : Parted) : Type 0 where
  pub keeps : Keeps old new
  pub inside : AllByRecursion (IsPartBelow (length new.terms)) ids
  pub parts : parts_from (term_of new.terms) ids ≡ ps.parts
  pub fresh : new.fresh ≡ ps.fresh

-- There are several names, or none.
abbrev pub IsNotOne : List Ident → Type 0
IsNotOne [] = Unit {0}
IsNotOne (x ∷ []) = ⊥
IsNotOne (x ∷ y ∷ xs) = Unit {0}

-- Names became new variables, which are not in scope yet.
pub record MakesSlots (old new : Work) (names : List Ident) (types : List Ty) (slots : List Slot) : Type 0 where
  pub same : new ≡ record old { fresh = new.fresh }
  pub scope : (inner : Scope) → scope_of slots ++ inner ≡ with_fields names types old.fresh inner
  pub fresh : new.fresh ≡ old.fresh + length names

-- Names came into scope.
pub record Enters (old new : Work) (slots : List Slot) : Type 0 where
  pub terms : new.terms ≡ old.terms
  pub fresh : new.fresh ≡ old.fresh
  pub scope : new.scope.items ≡ old.scope.items ++ slots

-- What names are bound to was made; the names stand before those of a scope.
pub record MakesNamed (old new : Work) (s : NamedSide) (b : Scope → Bounded) : Type 0 where
  pub keeps : Keeps old new
  pub inside : (term_in s.side).0 < length new.terms
  pub side : (inner : Scope) → side_from (term_of new.terms) s.side ≡ (b inner).side
  pub scope : (inner : Scope) → scope_of s.slots.items ++ inner ≡ (b inner).scope
  pub fresh : (inner : Scope) → new.fresh ≡ (b inner).fresh

-- What the expression of an arm becomes, where the fields of its constructor are the variables from a number on.
abbrev pub arm_line : Parts → List Expr → Arm → ℕ → Scope → ℕ → Lined
arm_line parts exprs arm k scope n =
    (code_at parts exprs arm.body.0).line (with_fields arm.variables.items (fields_at (globals_in parts).table k) n scope) (n + length arm.variables.items)

-- A branch was made, with the type of its expression.
pub record MakesBranch (old new : Work) (b : Branch) (of : Ty) (parts : Parts) (exprs : List Expr) (arm : Arm) (k : ConId) : Type 0 where
  pub keeps : Keeps old new
  pub inside : b.term.0 < length new.terms
  pub constructor : b.constructor ≡ k
  pub variables : b.variables.items ≡ variables_from old.fresh arm.variables.items
  pub term : term_of new.terms b.term.0 ≡ (arm_line parts exprs arm k.0 (scope_of old.scope.items) old.fresh).term
  pub ty : of ≡ (arm_line parts exprs arm k.0 (scope_of old.scope.items) old.fresh).ty
  pub fresh : new.fresh ≡ (arm_line parts exprs arm k.0 (scope_of old.scope.items) old.fresh).fresh

-- Branches, and then others.
abbrev pub join : Branches → Branches → Branches
join NoBranch rest = rest
join (BranchThen k xs t branches) rest = BranchThen k xs t (join branches rest)

-- Some branches were made; with those of the constructors that are left they are all.
pub record BranchesSoFar (parts : Parts) (exprs : List Expr) (arms : List Arm) (old new : Work) (bs : List Branch) (of : Option Ty) (ks : List ℕ) (all : Branched) : Type 0 where
  pub keeps : Keeps old new
  pub inside : AreBranchesBelow (length new.terms) bs
  pub branches : join (branches_from (term_of new.terms) bs) (branches_of (globals_in parts).table ks (arms_at parts exprs arms) (scope_of old.scope.items) new.fresh).branches ≡ all.branches
  pub fresh : (branches_of (globals_in parts).table ks (arms_at parts exprs arms) (scope_of old.scope.items) new.fresh).fresh ≡ all.fresh
  pub ty : unwrap_or of (branches_of (globals_in parts).table ks (arms_at parts exprs arms) (scope_of old.scope.items) new.fresh).ty ≡ all.ty

-- Some names are bound, with the rest they are all.
pub record BindsSoFar (old new : Work) (names left : List Ident) (types types_left : List Ty) (xs : List Variable) : Type 0 where
  pub terms : new.terms ≡ old.terms
  pub scope : with_fields left types_left new.fresh (scope_of new.scope.items) ≡ with_fields names types old.fresh (scope_of old.scope.items)
  pub kept : take (length old.scope.items) new.scope.items ≡ old.scope.items
  pub longer : length old.scope.items ≤ length new.scope.items
  pub variables : xs ++ variables_from new.fresh left ≡ variables_from old.fresh names
  pub fresh : new.fresh + length left ≡ old.fresh + length names

-- Some fields point to their atoms; with the rest they are all.
pub record PointsSoFar (old new : Work) (before after : List Binding) (types types_left : List Ty) (atoms left xs : List Atom) : Type 0 where
  pub keeps : Keeps old new
  pub inside : AreBindingsBelow (length new.terms) after
  pub binds : binds_from (term_of new.terms) after ++ pointed_fields new.fresh types_left left ≡ binds_from (term_of old.terms) before ++ pointed_fields old.fresh types atoms
  pub fields : xs ++ as_atoms (variables_from new.fresh left) ≡ as_atoms (variables_from old.fresh atoms)
  pub fresh : new.fresh + length left ≡ old.fresh + length atoms
