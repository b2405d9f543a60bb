-- How a task's store and places are those of a memory.
use Rattle.std.specs.Prelude.{◌≡◌, ℕ, suc, [], ◌∷◌, length, Option, Some, None}
use Rattle.gib_packed.specs.declared.root.Root.{Root}
use Rattle.gib_packed.specs.declared.root.Root.TheVariants as root
use Rattle.gib_packed.specs.Stands.{Stands}
use Rattle.gib_code.specs.declared.answer.Answer.{Answer}
use Rattle.gib_code.specs.declared.answer.Answer.TheVariants as answer
use Rattle.gib_types.specs.declared.table.Ty.{Ty}
use Rattle.gib_types.specs.Layout.{LaidOut}
use Rattle.gib_types.specs.Tree.{Datum}
use Rattle.gib_mem.specs.Memory.{Memory, after_puts, after_draw}
use Rattle.gib_region.specs.Region.{Draws}
use Rattle.gib_core.specs.Tree.{CoreTree}
use Rattle.gib_code.specs.Program.{CodeTree}
use Rattle.gib_machine.specs.State.{State, Ask, Silent, Get, Put, Draw, AtFork, AtJoin, Ended}
use Rattle.gib_weave.specs.Owing.{Owed}
use Rattle.gib_weave.specs.Paying.{Share, Spends}
use Rattle.gib_weave.specs.Places.{Owned, with_chunk}
use Rattle.gib_weave.specs.Sound.{Leads, IsAnswer, Forks, Meets}
use Rattle.gib_mem.specs.Memory as mem

-- What one micro-step owes over a memory: after each answer that the memory may give, the task is safe over what the memory
-- is then.
abbrev pub AfterOver : CoreTree → CodeTree → Owed → Owned → Share → Memory → State → Ask → Type 0
AfterOver core code owed own sh v old (Silent m) = Leads core code owed own sh 0 v.cells m
AfterOver core code owed own sh v old (Get a n k) = (x : ℕ) × mem.Reads v.cells a (suc n) x × Leads core code owed own sh 0 v.cells (k x)
AfterOver core code owed own sh v old (Put a b bs m) = mem.Owned v.cells a (length (b ∷ bs)) × Leads core code owed own sh 0 (after_puts v a (b ∷ bs)).cells m
AfterOver core code owed own sh v old (Draw k) = (c : ℕ) → Draws v c → Leads core code owed (with_chunk own c) sh 1 (after_draw v c).cells (k c)
AfterOver core code owed own sh v old AtFork = (sh' : Share) × Spends sh sh' 0 × Forks core code owed own sh' v.cells old
AfterOver core code owed own sh v old AtJoin = (sh' : Share) × Spends sh sh' 0 × Meets core code owed own sh' v.cells old
AfterOver core code owed own sh v old (Ended a) = (owed.sides ≡ []) × IsAnswer code.laid v.cells owed.ty owed.all a

-- An answer as the root of its name; where there is no value there is none.
abbrev pub answer_root : Answer → Option Root
answer_root (answer.Whole z) = Some (root.Whole z)
answer_root (answer.Truth b) = Some (root.Truth b)
answer_root (answer.At a) = Some (root.At a)
answer_root (answer.Parts ws) = None
answer_root (answer.NoValue why) = None

-- The answer is a root, for which the value stands.
pub record AnswerStands (laid : LaidOut) (s : mem.Store) (ty : Ty) (v : Datum) (a : Answer) : Type 0 where
  pub place : Root
  pub is : answer_root a ≡ Some place
  pub stands : Stands laid s place ty v
