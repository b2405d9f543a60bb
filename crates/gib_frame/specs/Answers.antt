-- What a frame's answer is.
use Rattle.std.specs.Prelude.{◌≡◌, ℕ, []}
use Rattle.gib_mem.specs.Memory.{Store}
use Rattle.gib_code.specs.declared.answer.Side.{Side}
use Rattle.gib_code.specs.declared.answer.Answer.{Answer}
use Rattle.gib_code.specs.Program.{CodeTree}
use Rattle.gib_core.specs.Cost.{Cost}
use Rattle.gib_core.specs.Tree.{CoreTree}
use Rattle.gib_core.specs.Parts.{core_of}
use Rattle.gib_core.specs.LoweredParts.{LoweredParts}
use Rattle.gib_machine.specs.Sides.{Waiting}
use Rattle.gib_machine.specs.Starting.{waiting_of}
use Rattle.gib_weave.specs.Owing.{Debt, Owed}
use Rattle.gib_weave.specs.Paying.{Bill, Share}
use Rattle.gib_weave.specs.Sound.{SideSafe, IsAnswer}
use Rattle.gib_arena.specs.declared.memory.Pass.{Pass}
use Rattle.gib_arena.specs.Bytes.{share}
use Rattle.gib_arena.specs.Passes.{view, cells}
use Rattle.gib_frame.specs.declared.due.Due.{Due}
use Rattle.gib_frame.specs.declared.due.Ending.{Ending}
use Rattle.gib_frame.specs.declared.due.Ending.TheVariants as ending

-- There is something that the side owes, in a store.
abbrev pub Owes : LoweredParts → Store → Side → Type 0
Owes l s side = (d : Debt) × SideSafe (core_of l.core) l.code d s (waiting_of side)

-- Whatever the side owes in the store that it was split with, this is its answer in another one.
abbrev pub Answers : CoreTree → CodeTree → Store → Waiting → Store → Answer → Type 0
Answers core code s w r a = (d : Debt) → SideSafe core code d s w → IsAnswer code.laid r d.ty d.owed a

-- How many chunks a pass drew, with the passes that it joined.
abbrev pub drawn_by : Pass → ℕ
drawn_by p = share (view p).holding

-- So many chunks were drawn by who may cost so much at most: there is a bill that says it.
pub record IsPaid (most : Cost) (drew : ℕ) : Type 0 where
  pub owed : Owed
  pub bill : Share
  pub paid : Bill most drew owed bill

-- Whatever the side of a frame owes in the store that it was split with, so many chunks are paid for by what the side may cost.
abbrev pub ArePaid : Due → ℕ → Type 0
ArePaid due drew = (d : Debt) → SideSafe (core_of due.lowered.value.core) due.lowered.value.code d (cells due.pass.value) (waiting_of due.side.value) → IsPaid d.most drew

-- It is the pass that was split for this, with all that was split off it back.
pub record IsHis (was pass : Pass) : Type 0 where
  pub arena : pass.seat.table_id ≡ was.seat.table_id
  pub path : (view pass).branch.path ≡ (view was).branch.path
  pub none_out : (view pass).branch.out ≡ []

-- The side has this answer in what the pass knows, or the pass saw that all chunks are drawn, and what the pass drew is paid for; or
-- nothing was drawn for the side.
abbrev pub IsEnding : Due → Pass → Ending → Type 0
IsEnding due p (ending.Answer a) = Answers (core_of due.lowered.value.core) due.lowered.value.code (cells due.pass.value) (waiting_of due.side.value) (cells p) a × ArePaid due (drawn_by p)
IsEnding due p ending.Full = ((view p).holding.seen ≡ (view p).branch.limit) × ArePaid due (drawn_by p)
IsEnding due p ending.NotRun = drawn_by p ≡ 0

-- What comes to a frame: its task's pass, and how that task ended.
pub record Delivers (due : Due) (e : Ending) (p : Pass) : Type 0 where
  pub his : IsHis due.pass.value p
  pub ends : IsEnding due p e
