-- Where a worker's machine stands after some turns.
use Rattle.std.specs.Prelude.{◌≡◌, ℕ, List, [], Option, slice_get}
use Rattle.gib_mem.specs.Memory.{Memory, Store, Grows}
use Rattle.gib_core.specs.LoweredParts.{LoweredParts}
use Rattle.gib_code.specs.declared.answer.Answer.{Answer}
use Rattle.gib_machine.specs.State.{State, Draw, AtFork, AtJoin, Ended}
use Rattle.gib_machine.specs.Machine.{next}
use Rattle.gib_machine.specs.Sides.{left_starts, right_of}
use Rattle.gib_machine.specs.declared.turn.Turn.{Turn}
use Rattle.gib_machine.specs.declared.turn.Turn.TheVariants as turn
use Rattle.gib_weave.specs.Owing.{Debt}
use Rattle.gib_weave.specs.Sound.{IsAnswer}
use Rattle.gib_frame.specs.declared.due.Due.{Due}
use Rattle.gib_frame.specs.Answers.{IsPaid}
use Rattle.gib_pool.specs.Turn.{Pays, WorksOn, WorksBack, Wider}

-- It stands at a fork; or at a join, whatever the pass learns before its newest right side is taken or joined; or at its end, where
-- no right side is left, the answer is what it owed, and what was drawn is paid for; or it draws, and all chunks are drawn.
abbrev pub Comes : LoweredParts → Debt → List (Option Due) → Memory → State → Turn → Type 0
Comes l d lent v m turn.Went = ⊥
Comes l d lent v m turn.AtFork = (next l.code m ≡ AtFork) × WorksOn l d v.cells v.share lent m (left_starts m (slice_get l.code.instructions m.ip)) (right_of m (slice_get l.code.instructions m.ip))
Comes l d lent v m turn.AtJoin = (next l.code m ≡ AtJoin) × ((r : Store) → Wider v.cells r → WorksBack l d r v.share lent m)
Comes l d lent v m turn.Ended = (lent ≡ []) × (a : Answer) × (next l.code m ≡ Ended a) × IsAnswer l.code.laid v.cells d.ty d.owed a × IsPaid d.most v.share
Comes l d lent v m turn.Full = (k : ℕ → State) × (next l.code m ≡ Draw k) × (v.drawn ≡ v.limit) × Pays l d.most v.share lent

-- The memory is the same one: the same pass of the same arena, with as many chunks, and knows what it knew.
pub record IsSame (old new : Memory) : Type 0 where
  pub holder : new.holder ≡ old.holder
  pub limit : new.limit ≡ old.limit
  pub known : Grows old.cells new.cells
