-- The build rules as a type, by recursion on terms: what is known of each variable, and where a value is put.
use Rattle.std.specs.Prelude.{◌≡◌, ◌≤◌, ℕ, zero, suc, ◌+◌, ◌==◌, Bool, true, false, List, [], ◌∷◌, ◌++◌, map, length, Option, Some, None, if◌then◌else◌, ◌||◌, ◌&&◌, FitsSigned}
use Rattle.std.specs.Int.{w64}
use Rattle.std.specs.List.{AllByRecursion}
use Rattle.gib_base.specs.declared.name.Name.{Name}
use Rattle.gib_types.specs.declared.table.Ty.{Ty}
use Rattle.gib_types.specs.declared.table.Ty.TheVariants.{Whole, Truth, Tree}
use Rattle.gib_types.specs.Table.{fields_at, con_at, scalar_types, IsTable, is_scalar}
use Rattle.gib_types.specs.Layout.{is_among}
use Rattle.gib_syntax.specs.Results as results
use Rattle.gib_syntax.specs.Results.{Results, AreSeveral}
use Rattle.gib_types.specs.Operators.{operator_type}
use Rattle.gib_types.specs.declared.table.ConId.{ConId}
use Rattle.gib_core.specs.declared.atom.Variable.{Variable}
use Rattle.gib_core.specs.declared.atom.Atom.{Atom}
use Rattle.gib_core.specs.declared.atom.Atom.TheVariants as a
use Rattle.gib_core.specs.declared.atom.Kind.TheVariants as kind
use Rattle.gib_core.specs.declared.atom.Access.TheVariants as by
use Rattle.gib_core.specs.Tree as t
use Rattle.gib_core.specs.Tree.{Term, Bind, Side, Branches, PartTerms, FunctionTerm, CoreTree, var}
use Rattle.gib_core.specs.Meaning.{function_at}
use Rattle.gib_core.specs.Met.{CaseLine}
use Rattle.gib_core.specs.Walk.{Entry, AtLine, some, walk_side, walk_parts, walk_branches}
use Rattle.gib_core.specs.Reaching.{side_uses}
use Rattle.gib_core.specs.Numbering.{binders}
use Rattle.gib_core.specs.Ending.{Within, within_par, within_function, within_main, ended, has_ended, call_ends, last_packed}
use Rattle.gib_core.specs.Low.{laid_of, Over, arm_overs}

-- The same with another value at a place.
abbrev pub put : {A : Type 0} → (ℕ → A) → ℕ → A → ℕ → A
put f x v y = if y == x then v else f y

-- Location types.

-- What is known of a variable: it has no slot; it is not bound; a scalar; an open head, or a variable whose value is being
-- made; a tree at the place that it was bound to; a tree at some place; a tree whose slot is its head's place; a packed
-- field that is not reached, which stands behind the value of z, and whose address is stored at p of the head of the
-- constructor k, the tree x, where k has offsets.
pub data Sort : Type 0 where
  Outside : Sort
  Absent : Sort
  Scalar : (ty : Ty) → Sort
  Held : Sort
  Placed : (t : ℕ) → Sort
  Loose : (t : ℕ) → Sort
  AtHead : (t : ℕ) → Sort
  Field : (t z x k p : ℕ) → Sort

-- What is known of each variable, by its number.
abbrev pub Scope : Type 0
Scope = ℕ → Sort

-- The variable is bound.
abbrev pub is_there : Sort → Bool
is_there Outside = false
is_there Absent = false
is_there s = true

-- The variable has a slot.
abbrev pub has_slot : Sort → Bool
has_slot Outside = false
has_slot s = true

-- The type of a tree that can be used.
abbrev pub tree_type : Sort → Option ℕ
tree_type (Placed t) = Some t
tree_type (Loose t) = Some t
tree_type (AtHead t) = Some t
tree_type s = None

-- A scalar of the type is due; a tree of the type at an empty place; a tree of the type t whose head h of the constructor
-- k is open, where the fields xs stand and fields of these types are due; parts of these types, each packed one in a region of its own.
pub data Dest : Type 0 where
  Nowhere : (ty : Ty) → Dest
  Empty : (t : ℕ) → Dest
  Open : (t h k : ℕ) (xs dues : List ℕ) → Dest
  InParts : (tys : List Ty) → Dest

-- What is due at a destination.
abbrev pub dest_type : Dest → Results Ty
dest_type (Nowhere ty) = results.One ty
dest_type (Empty t) = results.One (Tree (record { 0 = t }))
dest_type (Open t h k xs dues) = results.One (Tree (record { 0 = t }))
dest_type (InParts tys) = results.Several tys

-- The destination of a result.
abbrev pub dest_of : Results Ty → Dest
dest_of (results.One Whole) = Nowhere Whole
dest_of (results.One Truth) = Nowhere Truth
dest_of (results.One (Tree t)) = Empty t.0
dest_of (results.Several tys) = InParts tys

-- After a case on it a tree may be at another place.
abbrev pub loosen_one : Bool → Sort → Sort
loosen_one false s = s
loosen_one true (Placed t) = Loose t
loosen_one true s = s

-- A scope behind a term that has a case on these variables.
abbrev pub loosen : (ℕ → Bool) → Scope → Scope
loosen m sc y = loosen_one (m y) (sc y)

-- Whether a variable is the subject of a case in a term.
abbrev pub is_of : Atom → ℕ → Bool
is_of (a.Variable x) q = q == x.0
is_of (a.Whole z) q = false
is_of (a.Truth b) q = false

-- An entry is a case on the variable.
abbrev pub entry_cased : ℕ → Entry → Bool
entry_cased q (AtLine (CaseLine x arms)) = is_of x q
entry_cased q l = false

-- A term has a case on the variable, itself or in a term that is nested in it; so has a binding, a side, so have parts, branches.
abbrev pub cased : Term → ℕ → Bool
cased t q = some (entry_cased q) t

-- A side has a case on it.
abbrev pub side_cased : Side → ℕ → Bool
side_cased s q = walk_side (◌||◌) false (entry_cased q) s

-- Parts have a case on it.
abbrev pub parts_cased : PartTerms → ℕ → Bool
parts_cased ps q = walk_parts (◌||◌) false (entry_cased q) ps

-- Branches have a case on it.
abbrev pub branches_cased : Branches → ℕ → Bool
branches_cased bs q = walk_branches (◌||◌) false (entry_cased q) bs

-- The atom is usable at the type.
abbrev pub AtomFits : Scope → Atom → Ty → Type 0
AtomFits sc (a.Variable x) Whole = sc x.0 ≡ Scalar Whole
AtomFits sc (a.Variable x) Truth = sc x.0 ≡ Scalar Truth
AtomFits sc (a.Variable x) (Tree t) = tree_type (sc x.0) ≡ Some t.0
AtomFits sc (a.Whole z) Whole = FitsSigned w64 z
AtomFits sc (a.Whole z) Truth = ⊥
AtomFits sc (a.Whole z) (Tree t) = ⊥
AtomFits sc (a.Truth b) Whole = ⊥
AtomFits sc (a.Truth b) Truth = Unit {0}
AtomFits sc (a.Truth b) (Tree t) = ⊥

-- The atoms are usable at these types, as many as there are.
abbrev pub AtomsFit : Scope → List Atom → List Ty → Type 0
AtomsFit sc [] [] = Unit {0}
AtomsFit sc [] (ty ∷ tys) = ⊥
AtomsFit sc (x ∷ xs) [] = ⊥
AtomsFit sc (x ∷ xs) (ty ∷ tys) = AtomFits sc x ty × AtomsFit sc xs tys

-- The numbers of the types of packed fields.
abbrev pub packed_due : List Ty → List ℕ
packed_due [] = []
packed_due (Whole ∷ ts) = packed_due ts
packed_due (Truth ∷ ts) = packed_due ts
packed_due (Tree t ∷ ts) = t.0 ∷ packed_due ts

-- The destination with one more field.
abbrev pub more : Dest → ℕ → Dest
more (Nowhere ty) x = Nowhere ty
more (Empty t) x = Empty t
more (Open t h k xs []) x = Open t h k xs []
more (Open t h k xs (s ∷ dues)) x = Open t h k (xs ++ x ∷ []) dues
more (InParts tys) x = InParts tys

-- A field of the type is due.
abbrev pub IsDue : Dest → ℕ → Type 0
IsDue (Nowhere ty) s = ⊥
IsDue (Empty t) s = ⊥
IsDue (Open t h k xs []) s = ⊥
IsDue (Open t h k xs (u ∷ dues)) s = u ≡ s
IsDue (InParts tys) s = ⊥

-- All but the first stand where they were bound.
abbrev pub ArePlaced : Scope → List ℕ → Type 0
ArePlaced sc [] = Unit {0}
ArePlaced sc (x ∷ xs) = ((t : ℕ) × (sc x ≡ Placed t)) × ArePlaced sc xs

-- All but the first stand where they were bound.
abbrev pub FurtherPlaced : Scope → List ℕ → Type 0
FurtherPlaced sc [] = Unit {0}
FurtherPlaced sc (x ∷ xs) = ArePlaced sc xs

-- One claim where the term is no call, else one of the call.
abbrev pub by_call : Term → Type 0 → (Name → List Atom → Type 0) → Type 0
by_call (t.Then b u) A B = A
by_call (t.Write h k ss ps) A B = A
by_call (t.Point x) A B = A
by_call (t.CallTerm f xs) A B = B f xs
by_call (t.Give x) A B = A
by_call (t.CaseTerm x bs) A B = A
by_call (t.IfTerm x u v) A B = A
by_call (t.Tuple tys ss ps) A B = A

-- A call that is no right side of a `scalar` stands where a tree is due, or parts.
abbrev pub IsCallPlace : Dest → Type 0
IsCallPlace (Nowhere ty) = ⊥
IsCallPlace (Empty t) = Unit {0}
IsCallPlace (Open t h k xs dues) = ⊥
IsCallPlace (InParts tys) = Unit {0}

-- A call of a function with the result.
pub record CallFits (core : CoreTree) (sc : Scope) (f : Name) (xs : List Atom) (due : Results Ty) : Type 0 where
  pub function : FunctionTerm
  pub named : function_at core.functions f.0 ≡ Some function
  pub result : function.result ≡ due
  pub arguments : AtomsFit sc xs function.parameters

-- A packed field of the tree x of the constructor k: the first one stands, a further one is behind z and its address is stored at p.
abbrev pub field_sort : ℕ → ℕ → ℕ → Option ℕ → ℕ → Sort
field_sort x k p None t = Placed t
field_sort x k p (Some z) t = Field t z x k p

-- The first packed field has no stored address; each further one has 8 bytes for it.
abbrev pub next_place : ℕ → Option ℕ → ℕ
next_place p None = p
next_place p (Some z) = p + 8

-- The scope of an arm, with its fields. The next packed field's address is stored at p; z is the packed field before it.
abbrev pub arm_scope : ℕ → ℕ → ℕ → Option ℕ → List Ty → List Variable → Scope → Scope
arm_scope x k p z [] ys sc = sc
arm_scope x k p z (ty ∷ ts) [] sc = sc
arm_scope x k p z (Whole ∷ ts) (y ∷ ys) sc = arm_scope x k p z ts ys (put sc y.0 (Scalar Whole))
arm_scope x k p z (Truth ∷ ts) (y ∷ ys) sc = arm_scope x k p z ts ys (put sc y.0 (Scalar Truth))
arm_scope x k p z (Tree t ∷ ts) (y ∷ ys) sc = arm_scope x k (next_place p z) (Some y.0) ts ys (put sc y.0 (field_sort x k p z t.0))

-- Each is not bound in the scope, and not named twice.
abbrev pub AreNew : Scope → List Ty → List Variable → Type 0
AreNew sc [] [] = Unit {0}
AreNew sc [] (y ∷ ys) = ⊥
AreNew sc (ty ∷ ts) [] = ⊥
AreNew sc (ty ∷ ts) (y ∷ ys) = (sc y.0 ≡ Absent) × AreNew (put sc y.0 Held) ts ys

-- What is known of a parameter of the type, or of a part.
abbrev pub param_sort : Ty → Sort
param_sort Whole = Scalar Whole
param_sort Truth = Scalar Truth
param_sort (Tree t) = Placed t.0

-- The scope with variables of these types.
abbrev pub bound_scope : List Ty → List Variable → Scope → Scope
bound_scope [] ys sc = sc
bound_scope (ty ∷ ts) [] sc = sc
bound_scope (ty ∷ ts) (y ∷ ys) sc = bound_scope ts ys (put sc y.0 (param_sort ty))

-- The scope where the values of all of these are being made.
abbrev pub hold_all : List Variable → Scope → Scope
hold_all [] sc = sc
hold_all (y ∷ ys) sc = hold_all ys (put sc y.0 Held)

-- A side uses no variable of another one.
abbrev pub AreApart : Side → Side → Type 0
AreApart (t.On kind x ty u) r = side_uses r x ≡ false
AreApart (t.Several xs tys u) r = AllByRecursion (λ (x : Variable). side_uses r x ≡ false) xs

-- There is a branch for the constructor.
abbrev pub has_branch : Branches → ℕ → Bool
has_branch t.NoBranch k = false
has_branch (t.BranchThen c ys u bs) k = c.0 == k || has_branch bs k

-- A packed variable.
pub record IsTree (sc : Scope) (x : Atom) (s : ℕ) : Type 0 where
  pub variable : Variable
  pub atom : x ≡ a.Variable variable
  pub sort : tree_type (sc variable.0) ≡ Some s

-- Ends.

-- The sort is a bound value's whose slot is not set anew in this line.
abbrev pub is_settled : Sort → Bool
is_settled Outside = false
is_settled Absent = false
is_settled (Scalar ty) = true
is_settled Held = false
is_settled (Placed t) = true
is_settled (Loose t) = true
is_settled (AtHead t) = true
is_settled (Field t z x k p) = false

-- What is known of ends in a line: where it stands; whose ends are not 0; what is told before its return; and, while it waits,
-- whose ends the side tells, and at which parameters the call gives ends.
pub record Line : Type 0 where
  pub within : Within
  pub told : ℕ → Bool
  pub overs : List Over
  pub pending : ℕ → Bool
  pub called : ℕ → Bool

-- No variable.
abbrev pub none_of : ℕ → Bool
none_of q = false

-- A line begins.
abbrev pub new_line : Within → Line
new_line w = record { within = w; told = none_of; overs = []; pending = none_of; called = none_of }

-- It waits until a side tells these ends.
abbrev pub await : (ℕ → Bool) → Line → Line
await f ln = record { within = ln.within; told = ln.told; overs = ln.overs; pending = f; called = ln.called }

-- A side has told these ends, and nothing is waited for.
abbrev pub tell_line : (ℕ → Bool) → Line → Line
tell_line f ln = record { within = ln.within; told = λ q. ln.told q || f q; overs = ln.overs; pending = none_of; called = none_of }

-- It waits for a call that gives ends at these parameters.
abbrev pub await_call : (ℕ → Bool) → Line → Line
await_call f ln = record { within = ln.within; told = ln.told; overs = ln.overs; pending = ln.pending; called = f }

-- What a call of f tells, behind which `got`s stand outside each `par`.
abbrev pub call_tells : Within → CoreTree → ℕ → List Atom → ℕ → Bool
call_tells w core f xs q = if w.par then false else call_ends (ended core) f 0 xs (record { 0 = q })

-- What a side tells: its whole term is a call.
abbrev pub side_tells : Within → CoreTree → Term → ℕ → Bool
side_tells w core (t.Then b u) q = false
side_tells w core (t.Write h k ss ps) q = false
side_tells w core (t.Point x) q = false
side_tells w core (t.CallTerm f xs) q = call_tells w core f.0 xs q
side_tells w core (t.Give x) q = false
side_tells w core (t.CaseTerm x bs) q = false
side_tells w core (t.IfTerm x u v) q = false
side_tells w core (t.Tuple tys ss ps) q = false

-- An arm without packed fields tells its tree's end.
abbrev pub is_leaf : Option Variable → Bool
is_leaf None = true
is_leaf (Some y) = false

-- The line of an arm goes on with what is told there, and with what is told before its return.
abbrev pub arm_line : CoreTree → ℕ → ConId → List Variable → Term → Line → Line
arm_line core x c ys u ln = record {
  within = ln.within;
  told = λ q. ln.told q || ((ln.within.ends && is_leaf (last_packed None (fields_at core.table c.0) ys)) && q == x);
  overs = arm_overs ln.within core x c ys u ln.overs;
  pending = ln.pending;
  called = ln.called;
}

-- What is told once those were told.
abbrev pub and_also : (ℕ → Bool) → ℕ → ℕ → Bool
and_also f x q = f q || q == x

-- What is told once all of these were told, one after another.
abbrev pub finally : (ℕ → Bool) → List Over → ℕ → Bool
finally f [] = f
finally f (o ∷ os) = finally (and_also f o.tree) os

-- Each finds an end that is not 0.
abbrev pub Runs : (ℕ → Bool) → List Over → Type 0
Runs f [] = Unit {0}
Runs f (o ∷ os) = (f o.field ≡ true) × Runs (and_also f o.tree) os

-- What must be told by the end of a line: of one that goes over to a label; of one that returns, once its `over`s ran.
pub data Needs : Type 0 where
  Inner : (f : ℕ → Bool) → Needs
  AtEnd : (f : ℕ → Bool) → Needs

-- What must be told by the end of a line is told there, where these `over`s stand before its return.
abbrev pub Meets : Needs → (ℕ → Bool) → List Over → Type 0
Meets (Inner f) told os = (q : ℕ) → f q ≡ true → told q ≡ true
Meets (AtEnd f) told os = Runs told os × ((q : ℕ) → f q ≡ true → finally told os q ≡ true)

-- What a function's callers are told.
abbrev pub body_needs : CoreTree → ℕ → Needs
body_needs core f = AtEnd (λ q. has_ended (ended core) f q)

-- The build rules.
abbrev mutual
  -- The term fits the scope and the destination.
  pub Fits : CoreTree → Needs → Term → Scope → Dest → Line → Type 0
  Fits core ns (t.Then b u) sc d ln = BindFits core b sc d ln (λ sc' d' ln'. Fits core ns u sc' d' ln')
  Fits core ns (t.Write h k ss ps) sc d ln =
      (s : ℕ) × (xs : List ℕ) × (d ≡ Open s h.0 k.0 xs []) × (ps ≡ map var xs) × AtomsFit sc ss (scalar_types (fields_at core.table k.0)) × FurtherPlaced sc xs × Meets ns ln.told ln.overs
  Fits core ns (t.Point x) sc d ln = (s : ℕ) × (d ≡ Empty s) × IsTree sc x s × Meets ns ln.told ln.overs
  Fits core ns (t.CallTerm f xs) sc d ln = IsCallPlace d × CallFits core sc f xs (dest_type d) × Meets ns (λ q. ln.told q || call_tells ln.within core f.0 xs q) ln.overs
  Fits core ns (t.Give x) sc d ln = (ty : Ty) × (d ≡ Nowhere ty) × (is_scalar ty ≡ true) × AtomFits sc x ty × Meets ns ln.told ln.overs
  Fits core ns (t.CaseTerm x bs) sc d ln =
      (s : ℕ) × (tree : IsTree sc x s) × ((k : ℕ) → con_at core.table s k ≡ Some k → has_branch bs k ≡ true) × BranchesFit core ns bs tree.variable.0 (put sc tree.variable.0 (AtHead s)) d ln
  Fits core ns (t.IfTerm x u v) sc d ln = AtomFits sc x Truth × Fits core ns u sc d ln × Fits core ns v sc d ln
  Fits core ns (t.Tuple tys ss ps) sc d ln =
      (d ≡ InParts tys) × PartsFit core ln.within ps (packed_due tys) sc (λ sc'. AtomsFit sc' ss (scalar_types tys)) × Meets ns ln.told ln.overs

  -- Each part fits where a tree of its type is due; go says the rest of the scope behind them.
  pub PartsFit : CoreTree → Within → PartTerms → List ℕ → Scope → (Scope → Type 0) → Type 0
  PartsFit core w t.NoPart [] sc go = go sc
  PartsFit core w t.NoPart (s ∷ ss) sc go = ⊥
  PartsFit core w (t.PartThen u ps) [] sc go = ⊥
  PartsFit core w (t.PartThen u ps) (s ∷ ss) sc go = Fits core (Inner none_of) u sc (Empty s) (new_line w) × PartsFit core w ps ss (loosen (cased u) sc) go

  -- go says that the rest of the line fits the scope and the destination behind the binding.
  pub BindFits : CoreTree → Bind → Scope → Dest → Line → (Scope → Dest → Line → Type 0) → Type 0
  BindFits core (t.Past h k) sc d ln go =
      (s : ℕ) × (d ≡ Empty s) × (con_at core.table s k.0 ≡ Some k.0) × (sc h.0 ≡ Absent) × go (put sc h.0 Held) (Open s h.0 k.0 [] (packed_due (fields_at core.table k.0))) ln
  BindFits core (t.One side) sc d ln go = SideFits core ln.within side sc d ln go
  BindFits core (t.Both false l r) sc d ln go = AreApart l r × SideFits core (within_par ln.within) l sc d ln (λ sc' d' ln'. SideFits core (within_par ln.within) r sc' d' ln' go)
  BindFits core (t.Both true l r) sc d ln go = AreApart l r × AloneFits core (within_par ln.within) r sc × SideFits core (within_par ln.within) l sc d ln (λ sc' d' ln'. SideFits core (within_par ln'.within) r sc' d' ln' go)
  BindFits core (t.Prim x f y z) sc d ln go = (sc x.0 ≡ Absent) × AtomFits sc y Whole × AtomFits sc z Whole × go (put sc x.0 (Scalar (operator_type f))) d ln
  BindFits core (t.Reach y by.Offset) sc d ln go =
      (s : ℕ) × (z x k p : ℕ) × (sc y.0 ≡ Field s z x k p) × (is_among (laid_of core).with_offsets k ≡ true) × go (put sc y.0 (Placed s)) d ln
  BindFits core (t.Reach y (by.Skip z)) sc d ln go =
      (s : ℕ) × (x k p o : ℕ) × (sc y.0 ≡ Field s z.0 x k p) × (sc z.0 ≡ Placed o) × go (put sc y.0 (Placed s)) d ln
  BindFits core (t.Reach y (by.End z)) sc d ln go =
      (s : ℕ) × (x k p o : ℕ) × (sc y.0 ≡ Field s z.0 x k p) × (tree_type (sc z.0) ≡ Some o) × go (put sc y.0 (Placed s)) d ln × (ln.told z.0 ≡ true)

  -- A variable that is bound to a term; go says the rest.
  pub SideFits : CoreTree → Within → Side → Scope → Dest → Line → (Scope → Dest → Line → Type 0) → Type 0
  SideFits core w (t.On kind.Here x ty u) sc d ln go =
      (s : ℕ) × (ty ≡ Tree (record { 0 = s })) × IsDue d s × (sc x.0 ≡ Absent) × Fits core (Inner (side_tells w core u)) u (put sc x.0 Held) (Empty s) (new_line w) × go (put (loosen (cased u) sc) x.0 (Placed s)) (more d x.0) (tell_line (side_tells w core u) ln)
  SideFits core w (t.On kind.Region x ty u) sc d ln go =
      (s : ℕ) × (ty ≡ Tree (record { 0 = s })) × (sc x.0 ≡ Absent) × Fits core (Inner (side_tells w core u)) u (put sc x.0 Held) (Empty s) (new_line w) × go (put (loosen (cased u) sc) x.0 (Placed s)) d (tell_line (side_tells w core u) ln)
  SideFits core w (t.On kind.Scalar x ty u) sc d ln go =
      (is_scalar ty ≡ true) × (sc x.0 ≡ Absent) × by_call u (Fits core (Inner (side_tells w core u)) u sc (Nowhere ty) (new_line w)) (λ f xs. CallFits core sc f xs (results.One ty)) × go (put (loosen (cased u) sc) x.0 (Scalar ty)) d (tell_line (side_tells w core u) ln)
  SideFits core w (t.Several xs tys u) sc d ln go =
      (AreSeveral tys × (length tys ≤ 8)) × AreNew sc tys xs × Fits core (Inner none_of) u (hold_all xs sc) (InParts tys) (new_line w) × go (bound_scope tys xs (loosen (cased u) sc)) d (tell_line none_of ln)

  -- The right side of a fork fits where the left one has bound nothing.
  pub AloneFits : CoreTree → Within → Side → Scope → Type 0
  AloneFits core w (t.On kind.Here y ty u) sc = (s : ℕ) × (ty ≡ Tree (record { 0 = s })) × (sc y.0 ≡ Absent) × Fits core (Inner none_of) u (put sc y.0 Held) (Empty s) (new_line w)
  AloneFits core w (t.On kind.Region y ty u) sc = (s : ℕ) × (ty ≡ Tree (record { 0 = s })) × (sc y.0 ≡ Absent) × Fits core (Inner (side_tells w core u)) u (put sc y.0 Held) (Empty s) (new_line w)
  AloneFits core w (t.On kind.Scalar y ty u) sc = (is_scalar ty ≡ true) × (sc y.0 ≡ Absent) × by_call u (Fits core (Inner (side_tells w core u)) u sc (Nowhere ty) (new_line w)) (λ f xs. CallFits core sc f xs (results.One ty))
  AloneFits core w (t.Several xs tys u) sc = (AreSeveral tys × (length tys ≤ 8)) × AreNew sc tys xs × Fits core (Inner none_of) u (hold_all xs sc) (InParts tys) (new_line w)

  -- Each branch fits, with its fields in scope.
  pub BranchesFit : CoreTree → Needs → Branches → ℕ → Scope → Dest → Line → Type 0
  BranchesFit core ns t.NoBranch x sc d ln = Unit {0}
  BranchesFit core ns (t.BranchThen k ys u bs) x sc d ln =
      AreNew sc (fields_at core.table k.0) ys × Fits core ns u (arm_scope x k.0 1 None (fields_at core.table k.0) ys sc) d (arm_line core x k ys u ln) × BranchesFit core ns bs x sc d ln

-- The scope of a body with so many slots: its parameters come first, and the other slots are not bound yet.
abbrev pub body_scope : ℕ → List Ty → Scope
body_scope zero ts y = Outside
body_scope (suc n) [] zero = Absent
body_scope (suc n) [] (suc y) = body_scope n [] y
body_scope (suc n) (ty ∷ ts) zero = param_sort ty
body_scope (suc n) (ty ∷ ts) (suc y) = body_scope n ts y

-- A body fits its function, whatever its code.
pub record FunctionFits (core : CoreTree) (f : ℕ) (g : FunctionTerm) (slots : ℕ) : Type 0 where
  pub fits : Fits core (body_needs core f) g.body (body_scope slots g.parameters) (dest_of g.result) (new_line (within_function core g))
  pub enough : length g.parameters ≤ slots

-- Main's body fits.
pub record MainFits (core : CoreTree) (slots : ℕ) : Type 0 where
  pub fits : Fits core (AtEnd none_of) core.main.body (body_scope slots (core.main.parameter ∷ [])) (dest_of (results.One core.main.result)) (new_line (within_main core))

-- A body fits by itself, whatever its callers are told.
pub record OwnFits (core : CoreTree) (g : FunctionTerm) (slots : ℕ) : Type 0 where
  pub fits : Fits core (AtEnd none_of) g.body (body_scope slots g.parameters) (dest_of g.result) (new_line (within_function core g))
  pub enough : length g.parameters ≤ slots

-- The body of each function fits, with a slot for each variable, also where another function has its name.
abbrev pub EachFits : CoreTree → Type 0
EachFits core = AllByRecursion (λ (g : FunctionTerm). OwnFits core g (length g.parameters + length (binders g.body))) core.functions

-- All bodies that a name or main leads to fit, with a slot for each variable.
pub record AllFit (core : CoreTree) : Type 0 where
  pub table : IsTable core.table
  pub functions : (g : FunctionTerm) (f : ℕ) → function_at core.functions f ≡ Some g → FunctionFits core f g (length g.parameters + length (binders g.body))
  pub main : MainFits core (1 + length (binders core.main.body))
