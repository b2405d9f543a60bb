-- A worker at a task: what it knows over the bytes of its own pass, and after each turn.
use Rattle.std.specs.Prelude.{◌≡◌, ℕ, suc, ◌+◌, ◌<◌, List, [], ◌∷◌, length, Option, Some, None, slice_get}
use Rattle.gib_mem.specs.Memory as mem
use Rattle.gib_mem.specs.Memory.{Memory, Store, absent, fresh, Grows, Reads, after_puts, after_draw}
use Rattle.gib_region.specs.Region.{Draws}
use Rattle.gib_code.specs.declared.answer.Answer.{Answer}
use Rattle.gib_core.specs.Cost.{Cost}
use Rattle.gib_core.specs.Parts.{core_of}
use Rattle.gib_core.specs.LoweredParts.{LoweredParts}
use Rattle.gib_machine.specs.Levels.{lefts}
use Rattle.gib_types.specs.declared.reason.Reason.{Reason}
use Rattle.gib_machine.specs.State.{State, Ask, Silent, Get, Put, Draw, AtFork, AtJoin, Ended}
use Rattle.gib_machine.specs.Sides.{Waiting, left_starts, right_of, unwinding, takes, joins}
use Rattle.gib_machine.specs.Starting.{waiting_of}
use Rattle.gib_weave.specs.Owing.{Debt, Owed}
use Rattle.gib_weave.specs.Paying.{Bill, Share}
use Rattle.gib_weave.specs.Places.{Owned, IsSmall}
use Rattle.gib_weave.specs.Sound.{Safe, SideSafe, IsAnswer}
use Rattle.gib_arena.specs.Passes.{cells}
use Rattle.gib_frame.specs.declared.due.Due.{Due}
use Rattle.gib_frame.specs.Answers.{Answers, ArePaid, IsPaid}

-- What a machine owns is there.
pub record AreThere (own : Owned) (s : Store) : Type 0 where
  pub there : (q : ℕ) → 0 < own q → s q ≡ absent → ⊥

-- A right side that was not joined: its frame was refused, so it is taken in place; or its frame was made for it.
abbrev pub IsLent : LoweredParts → Debt → Option Due → Type 0
IsLent l d None = Unit {0}
IsLent l d (Some e) = (e.lowered.value ≡ l) × SideSafe (core_of l.core) l.code d (cells e.pass.value) (waiting_of e.side.value)

-- The right sides that were not joined, the newest first.
abbrev pub AreLent : LoweredParts → List Debt → List (Option Due) → Type 0
AreLent l [] [] = Unit {0}
AreLent l [] (e ∷ es) = ⊥
AreLent l (d ∷ ds) [] = ⊥
AreLent l (d ∷ ds) (e ∷ es) = IsLent l d e × AreLent l ds es

-- What a task owes with these right sides.
abbrev pub owing : Debt → List Debt → Owed
owing d sides = record { ty = d.ty; all = d.owed; sides = sides }

-- A worker's machine owes this, over the bytes of its pass, with these right sides; and the n chunks that its pass drew, with what is
-- left to do and what the right sides may cost, are paid for by what the task may cost.
pub record Works (l : LoweredParts) (d : Debt) (s : Store) (n : ℕ) (m : State) (lent : List (Option Due)) : Type 0 where
  pub own : Owned
  pub bill : Share
  pub sides : List Debt
  pub safe : Safe (core_of l.core) l.code (owing d sides) own bill s m
  pub there : AreThere own s
  pub debts : AreLent l sides lent
  pub paid : Bill d.most n (owing d sides) bill

-- A pass drew n chunks, and right sides were not joined: both are paid for by this cost.
pub record Pays (l : LoweredParts) (most : Cost) (n : ℕ) (lent : List (Option Due)) : Type 0 where
  pub owed : Owed
  pub bill : Share
  pub debts : AreLent l owed.sides lent
  pub paid : Bill most n owed bill

-- The store went from s to r by a split or a join of its pass: what is known stays, what is fresh stays fresh.
pub record Wider (s r : Store) : Type 0 where
  pub known : Grows s r
  pub free : (q : ℕ) → s q ≡ fresh → r q ≡ fresh
  pub small : IsSmall r

-- The frame is for the right side of the fork, and its pass knows what this one knows.
pub record IsFor (l : LoweredParts) (s : Store) (w : Waiting) (e : Due) : Type 0 where
  pub lowered : e.lowered.value ≡ l
  pub side : waiting_of e.side.value ≡ w
  pub knows : Grows s (cells e.pass.value)

-- At a fork the right side owes something, and the left side starts whether a frame was made or refused.
pub record WorksOn (l : LoweredParts) (d : Debt) (s : Store) (n : ℕ) (lent : List (Option Due)) (m left : State) (right : Waiting) : Type 0 where
  pub room : 0 < m.room
  pub owes : (e : Debt) × SideSafe (core_of l.core) l.code e s right
  -- each right side that was not joined is one of a `par` whose left side runs here
  pub count : lefts m.pars ≡ length lent
  pub refused : Works l d s n left (None ∷ lent)
  pub made : (e : Due) → IsFor l s right e → Works l d s n left (Some e ∷ lent)

-- The answer of a side, in a store that knows what its pass knew when the answer was put; its pass drew so many chunks, which are
-- paid for.
pub record Tells (e : Due) (drew : ℕ) (r : Store) (a : Answer) : Type 0 where
  pub from : Store
  pub answers : Answers (core_of e.lowered.value.core) e.lowered.value.code (cells e.pass.value) (waiting_of e.side.value) from a
  pub knows : Grows from r
  pub paid : ArePaid e drew

-- At a join some right side is the newest one. It can be taken; its answer can be, where the pass has joined that side's, with the
-- chunks that it drew; where the left side has no value, the side can be dropped with them; and the task can be left.
pub record WorksBack (l : LoweredParts) (d : Debt) (s : Store) (n : ℕ) (lent : List (Option Due)) (m : State) : Type 0 where
  pub newest : Option Due
  pub others : List (Option Due)
  pub are : lent ≡ newest ∷ others
  pub take : Works l d s n (takes m) others
  pub join : (e : Due) (a : Answer) (drew : ℕ) → newest ≡ Some e → Tells e drew s a → Works l d s (n + drew) (joins m a) others
  pub unwind : (e : Due) (why : Reason) (drew : ℕ) → newest ≡ Some e → unwinding m.doing ≡ Some why → ArePaid e drew → Works l d s (n + drew) (takes m) others
  pub pays : Pays l d.most n lent

-- What a worker has after one turn over a memory, by what its machine asks; at a join, whatever the pass learns before.
abbrev pub WorksAfter : LoweredParts → Debt → Memory → List (Option Due) → State → Ask → Type 0
WorksAfter l d v lent old (Silent m) = Works l d v.cells v.share m lent
WorksAfter l d v lent old (Get a n k) = (x : ℕ) × Reads v.cells a (suc n) x × Works l d v.cells v.share (k x) lent
WorksAfter l d v lent old (Put a b bs m) = mem.Owned v.cells a (length (b ∷ bs)) × Works l d (after_puts v a (b ∷ bs)).cells v.share m lent
WorksAfter l d v lent old (Draw k) = (c : ℕ) → Draws v c → Works l d (after_draw v c).cells (after_draw v c).share (k c) lent
WorksAfter l d v lent old AtFork = WorksOn l d v.cells v.share lent old (left_starts old (slice_get l.code.instructions old.ip)) (right_of old (slice_get l.code.instructions old.ip))
WorksAfter l d v lent old AtJoin = (r : Store) → Wider v.cells r → WorksBack l d r v.share lent old
WorksAfter l d v lent old (Ended a) = (lent ≡ []) × IsAnswer l.code.laid v.cells d.ty d.owed a × IsPaid d.most v.share
