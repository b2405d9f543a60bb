-- A run of a core on a loaded value, to its end.
use Rattle.std.specs.Prelude.{◌≡◌, ◌⊎◌, ℕ, List, Option, Some, None, Result, Ok, Err}
use Rattle.std.specs.Int.{w64, cast_unsigned}
use Rattle.gib_types.specs.Loaded.{Loaded}
use Rattle.gib_types.specs.Tree.{Datum}
use Rattle.gib_mem.specs.Memory.{Memory, Grows}
use Rattle.gib_region.specs.Region.{AreOwned}
use Rattle.gib_packed.specs.declared.root.Root.{Root}
use Rattle.gib_packed.specs.declared.root.Root.TheVariants as root
use Rattle.gib_packed.specs.Scalars.{bit}
use Rattle.gib_packed.specs.Stands.{Stands}
use Rattle.gib_syntax.specs.Results as results
use Rattle.gib_core.specs.Cost.{run_cost}
use Rattle.gib_core.specs.LoweredParts.{LoweredParts}
use Rattle.gib_core.specs.Meaning.{core_run}
use Rattle.gib_core.specs.Parts.{core_of}
use Rattle.gib_core.specs.Tight.{Tight}
use Rattle.gib_code.specs.declared.answer.Answer.{Answer}
use Rattle.gib_code.specs.Program.{CodeTree}
use Rattle.gib_machine.specs.State.{State, Ended}
use Rattle.gib_machine.specs.Machine.{next}
use Rattle.gib_machine.specs.declared.turn.Turn.{Turn}
use Rattle.gib_machine.specs.declared.turn.Turn.TheVariants as turn
use Rattle.gib_weave.specs.declared.root_run.RunFault.{RunFault}
use Rattle.gib_weave.specs.declared.root_run.RunFault.TheVariants as fault
use Rattle.gib_weave.specs.Calling.{Walks}
use Rattle.gib_weave.specs.Sound.{IsAnswer}

-- Where a run may start: the root stands for a value of main's parameter, the tails are owned, and no more chunks are drawn than the
-- value needs. So it is where the value was loaded.
pub record IsStart (lowered : LoweredParts) (place : Root) (tails : List ℕ) (v : Memory) (d : Datum) : Type 0 where
  pub stands : Stands lowered.code.laid v.cells place (core_of lowered.core).main.parameter d
  pub owned : AreOwned v.cells tails
  pub loaded : Loaded v.drawn d

-- What a run leaves of a memory, however it ends: what was known stays known, nobody else draws who did not, and there are as many
-- chunks.
pub record Kept (v v' : Memory) : Type 0 where
  pub grows : Grows v.cells v'.cells
  pub alone : v'.alone ≡ v.alone
  pub limit : v'.limit ≡ v.limit

-- How a run ends that started with this value, and may nest so many calls: with what the core means; or all chunks are drawn, and so
-- many may not be enough for the run; or memory was wanted, or more than 2^64 - 1 steps.
abbrev pub RunEnds : LoweredParts → (depth : ℕ) → Datum → (v v' : Memory) → Result Answer RunFault → Type 0
RunEnds l depth d v v' (Ok a) = IsAnswer l.code.laid v'.cells (results.One (core_of l.core).main.result) (core_run (core_of l.core) depth d) a
RunEnds l depth d v v' (Err fault.Full) = Tight v.limit (run_cost (core_of l.core) depth 0 d) × (v'.drawn ≡ v'.limit)
RunEnds l depth d v v' (Err fault.Memory) = Unit {0}

-- Where such a run wants memory, nothing was done yet, or as many steps were made as are counted.
abbrev pub WantsMemory : CodeTree → State → (v : Memory) (steps : ℕ) (v' : Memory) → Result Answer RunFault → Type 0
WantsMemory code s v steps v' (Ok a) = Unit {0}
WantsMemory code s v steps v' (Err fault.Full) = Unit {0}
WantsMemory code s v steps v' (Err fault.Memory) = (v' ≡ v) ⊎ ((s' : State) × Walks code s v steps s' v')

-- The word of main's parameter.
abbrev pub word_of : Root → ℕ
word_of (root.Whole z) = cast_unsigned w64 z
word_of (root.Truth b) = bit b
word_of (root.At a) = a

-- What the last turn of the root makes of a run in place, which stands at no fork and no join.
abbrev pub IsOutcome : CodeTree → State → Option Turn → Result Answer RunFault → Type 0
IsOutcome code s None o = o ≡ Err fault.Memory
IsOutcome code s (Some turn.Went) o = ⊥
IsOutcome code s (Some turn.AtFork) o = ⊥
IsOutcome code s (Some turn.AtJoin) o = ⊥
IsOutcome code s (Some turn.Ended) o = (a : Answer) × (next code s ≡ Ended a) × (o ≡ Ok a)
IsOutcome code s (Some turn.Full) o = o ≡ Err fault.Full

-- A turn that such a run can end with.
abbrev pub CanEnd : CodeTree → State → Option Turn → Type 0
CanEnd code s None = Unit {0}
CanEnd code s (Some turn.Went) = ⊥
CanEnd code s (Some turn.AtFork) = ⊥
CanEnd code s (Some turn.AtJoin) = ⊥
CanEnd code s (Some turn.Ended) = (a : Answer) × (next code s ≡ Ended a)
CanEnd code s (Some turn.Full) = Unit {0}
