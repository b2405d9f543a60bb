-- The machine's stacks are those of the lines that wait.
use Rattle.std.specs.Prelude.{◌≡◌, ℕ, suc, ◌+◌, ◌-◌, ◌≤◌, Bool, true, false, List, [], ◌∷◌, Option, ◌||◌, length, map, drop, Some, None}
use Rattle.gib_types.specs.declared.table.Ty.{Ty}
use Rattle.gib_types.specs.Layout.{LaidOut}
use Rattle.gib_types.specs.declared.table.Ty.TheVariants.{Whole, Truth, Tree}
use Rattle.gib_types.specs.Table.{scalar_types}
use Rattle.gib_types.specs.Tree.{Datum}
use Rattle.gib_syntax.specs.Meaning.{is_scalar}
use Rattle.gib_syntax.specs.Results as results
use Rattle.gib_syntax.specs.Results.{Results}
use Rattle.gib_mem.specs.Memory.{Store}
use Rattle.gib_core.specs.Tree.{CoreTree, PartTerms}
use Rattle.gib_code.specs.Instruction.{Done, Back, Out}
use Rattle.gib_code.specs.Program.{CodeTree, IsAt, AreAt}
use Rattle.gib_core.specs.Fits.{Absent, AreNew, AtomsFit, Dest, InParts, IsDue, Meets, PartsFit, Placed, Scalar, Sort, bound_scope, call_tells, dest_type, is_settled, more, none_of, packed_due, parts_cased, put, tell_line}
use Rattle.gib_core.specs.Ending.{Within, ended, has_ended}
use Rattle.gib_core.specs.Low.{call_ending, done_all, gots, operands, packed_slots}
use Rattle.gib_core.specs.declared.atom.Variable.{Variable}
use Rattle.gib_core.specs.declared.atom.Atom.{Atom}
use Rattle.gib_core.specs.Meaning.{value}
use Rattle.gib_machine.specs.State.{Slots, slot, words, Frame, Open as OpenRegion, nesting, cursor, sink}
use Rattle.gib_weave.specs.EndWords.{both}
use Rattle.gib_weave.specs.Environment.{Ctx, Given, givens, AreGiven, HasAll, Matches}
use Rattle.gib_weave.specs.Groups.{Group, Starts, unused}
use Rattle.gib_weave.specs.Continuing.{KCall, KCallScalar, KEnd, KHere, KLast, KPart, KRegion, KScalar, KSeveral, KSide, Kont, Rest}
use Rattle.gib_weave.specs.Continuing.{AllCalm, AllFollow, AllUnder, Follows, IsInBody, Next, PartsCode, RestCode, RestFits, due, end_of, given_of, made, needs_of, parts_nest, rest_cased, rest_nest}

-- A line that waits, whatever for: its code and its frame are as it says, and what is next in it has room.
pub record Paused (core : CoreTree) (code : CodeTree) (s : Store) (sl : Slots) (at : ℕ) (u : Rest) (c : Ctx) (cur : ℕ) (k : Kont) : Type 0 where
  pub low : RestCode core code c.line.within c.scope at u (end_of c.line.overs k)
  pub matches : Matches code.laid s sl c cur
  pub under : AllUnder c.scope c.env k
  pub given : AreGiven c 0 (given_of k)
  pub calm : AllCalm (rest_cased u) k
  pub kind : dest_type c.dest ≡ due k
  pub narrow : rest_nest u ≤ nesting code

-- A line that waits for the value of x.
pub record Waits (core : CoreTree) (code : CodeTree) (s : Store) (sl : Slots) (at x : ℕ) (sort : Sort) (u : Rest) (c : Ctx) (after : Dest) (cur : ℕ) (k : Kont) : Type 0 where
  pub line : Paused core code s sl at u c cur k
  pub fits : RestFits core (needs_of k) u (put c.scope x sort) after (tell_line c.line.pending c.line)
  pub asked : (q : ℕ) → c.line.pending q ≡ true → is_settled (c.scope q) ≡ true
  pub new : c.scope x ≡ Absent
  pub free : Follows x u k

-- A line that waits for its packed part i of these types.
pub record PartWaits (core : CoreTree) (code : CodeTree) (s : Store) (sl : Slots) (at i : ℕ) (tys : List Ty) (ss : List Atom) (vs : List Datum) (ps : PartTerms) (c : Ctx) (k : Kont) : Type 0 where
  pub low : PartsCode core code c.line.within c.scope at (suc i) tys ss ps (end_of c.line.overs k)
  pub fits : PartsFit core c.line.within ps (drop (suc i) (packed_due tys)) c.scope (λ sc. AtomsFit sc ss (scalar_types tys))
  pub meets : Meets (needs_of k) c.line.told c.line.overs
  pub dest : c.dest ≡ InParts tys
  pub many : length vs ≡ i
  pub vars : HasAll code.laid s sl c
  pub under : AllUnder c.scope c.env k
  pub given : AreGiven c 0 (given_of k)
  pub calm : AllCalm (parts_cased ps) k
  pub kind : dest_type c.dest ≡ due k
  pub free : IsInBody k
  pub narrow : parts_nest ps ≤ nesting code

-- A line that waits for the parts of several variables.
pub record SeveralWaits (core : CoreTree) (code : CodeTree) (s : Store) (sl : Slots) (at : ℕ) (xs : List Variable) (tys : List Ty) (u : Rest) (c : Ctx) (cur : ℕ) (k : Kont) : Type 0 where
  pub line : Paused core code s sl at u c cur k
  pub fits : RestFits core (needs_of k) u (bound_scope tys xs c.scope) c.dest (tell_line none_of c.line)
  pub few : length tys ≤ 8
  pub new : AreNew c.scope tys xs
  pub free : AllFollow xs u k
  pub next : Next u k

-- A caller's line: the ends that the call gives are told up to z, and what was given are the arguments.
pub record AwaitsEnds (core : CoreTree) (code : CodeTree) (sl : Slots) (c : Ctx) (gs : List (Option Given)) (at z : ℕ) : Type 0 where
  pub within : Within
  pub name : ℕ
  pub parameters : List Ty
  pub arguments : List Atom
  pub gots : AreAt code at (gots within core name arguments) z
  pub given : gs ≡ givens parameters (words sl (operands arguments)) (map (value c.env) arguments)
  pub fits : AtomsFit c.scope arguments parameters
  pub asked : (q : ℕ) → has_ended (ended core) name q ≡ true → c.line.called q ≡ true

-- A line whose term is over but for what is told: its variables, and what must be told by then.
pub record Behind (laid : LaidOut) (s : Store) (sl : Slots) (c : Ctx) (k : Kont) (told : ℕ → Bool) : Type 0 where
  pub vars : HasAll laid s sl c
  pub under : AllUnder c.scope c.env k
  pub given : AreGiven c 0 (given_of k)
  pub meets : Meets (needs_of k) told c.line.overs

-- Where the whole value is to stand.
abbrev pub IsRoot : Ty → ℕ → List OpenRegion → Type 0
IsRoot Whole a rs = Unit {0}
IsRoot Truth a rs = Unit {0}
IsRoot (Tree t) a [] = ⊥
IsRoot (Tree t) a (r ∷ []) = a ≡ r.start
IsRoot (Tree t) a (r ∷ q ∷ rs) = ⊥

-- One scalar is due, which a call leaves in a slot.
abbrev pub one_scalar : Results Ty → Bool
one_scalar (results.One ty) = is_scalar ty
one_scalar (results.Several tys) = false

-- No tree is due.
abbrev pub no_tree : Results Ty → Bool
no_tree (results.One ty) = is_scalar ty
no_tree (results.Several tys) = true

-- The machine's stacks are those of the lines that wait; a is where the running term's value is to stand.
abbrev pub Stack : CoreTree → CodeTree → Store → Kont → Slots → List Frame → ℕ → List OpenRegion → Type 0
Stack core code s (KEnd ty) sl [] a rs = IsRoot ty a rs
Stack core code s (KEnd ty) sl (f ∷ fs) a rs = ⊥
Stack core code s (KSide b) sl [] a rs = Unit {0}
Stack core code s (KSide b) sl (f ∷ fs) a rs = ⊥
Stack core code s (KLast l y t) sl [] a [] = ⊥
Stack core code s (KLast l y t) sl [] a (r ∷ []) = IsAt code l Back × (slot sl y ≡ a) × (a ≡ r.start)
Stack core code s (KLast l y t) sl [] a (r ∷ q ∷ rs) = ⊥
Stack core code s (KLast l y t) sl (f ∷ fs) a rs = ⊥
Stack core code s (KHere l x t u c k) sl fs a rs = (both sl x ≡ record { word = a; last = 0 }) × IsDue c.dest t × Waits core code s sl l x (Placed t) u c (more c.dest x) a k × Stack core code s k sl fs c.front rs
Stack core code s (KRegion l x t u c k) sl fs a [] = ⊥
Stack core code s (KRegion l x t u c k) sl fs a (r ∷ rs) =
    (both sl x ≡ record { word = a; last = 0 }) × (a ≡ r.start) × IsAt code l Done × Waits core code s sl (l + 1) x (Placed t) u c c.dest (cursor rs) k × Stack core code s k sl fs c.front rs
    × Group code.laid s c.dest (made u) rs
Stack core code s (KScalar l x ty u c k) sl fs a rs = (is_scalar ty ≡ true) × Waits core code s sl l x (Scalar ty) u c c.dest (cursor rs) k × Stack core code s k sl fs c.front rs
    × Group code.laid s c.dest (made u) rs
Stack core code s (KCall gs c k) sl [] a rs = ⊥
Stack core code s (KCall gs c k) sl (f ∷ fs) a rs = (f.answer ≡ None) × (m : ℕ) × (z : ℕ) × (told : AwaitsEnds core code f.words c gs f.back m) × AreAt code m (call_ending (end_of c.line.overs k)) z × (one_scalar (due k) ≡ false) × Behind code.laid s f.words c k (λ q. c.line.told q || call_tells told.within core told.name told.arguments q) × Stack core code s k f.words fs a rs
Stack core code s (KCallScalar x ty gs u c k) sl [] a rs = ⊥
Stack core code s (KCallScalar x ty gs u c k) sl (f ∷ fs) a rs =
    (is_scalar ty ≡ true) × (f.answer ≡ Some x) × (z : ℕ) × (told : AwaitsEnds core code f.words c gs f.back z) × ((q : ℕ) → c.line.pending q ≡ true → call_tells told.within core told.name told.arguments q ≡ true) × Waits core code s f.words z x (Scalar ty) u c c.dest (cursor rs) k × Stack core code s k f.words fs c.front rs
    × Group code.laid s c.dest (made u) rs
Stack core code s (KPart l i t tys ss vs ps c k) sl fs a [] = ⊥
Stack core code s (KPart l i t tys ss vs ps c k) sl fs a (r ∷ rs) =
    (a ≡ r.start) × IsAt code l (Out i (length (packed_due tys))) × PartWaits core code s sl (l + 1) i tys ss vs ps c k × (drop i (packed_due tys) ≡ t ∷ drop (suc i) (packed_due tys))
    × Group code.laid s (InParts tys) vs (sink (length (packed_due tys) - 1 - i) (unused r ∷ rs)) × Stack core code s k sl fs c.front (sink (length (packed_due tys) - 1 - i) (unused r ∷ rs))
Stack core code s (KSeveral l xs tys u c k) sl fs a rs =
    Starts sl (packed_slots tys xs) rs × (z : ℕ) × AreAt code l (done_all (packed_slots tys xs)) z × SeveralWaits core code s sl z xs tys u c (cursor (drop (length (packed_slots tys xs)) rs)) k
    × Stack core code s k sl fs c.front (drop (length (packed_slots tys xs)) rs) × Group code.laid s c.dest (made u) (drop (length (packed_slots tys xs)) rs)
