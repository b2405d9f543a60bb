-- How a run by several workers ends.
use Rattle.std.specs.Prelude.{◌≡◌, ℕ, Result, Ok, Err}
use Rattle.gib_types.specs.Tree.{Datum}
use Rattle.gib_syntax.specs.Results as results
use Rattle.gib_mem.specs.Memory.{Memory}
use Rattle.gib_core.specs.Cost.{run_cost}
use Rattle.gib_core.specs.LoweredParts.{LoweredParts}
use Rattle.gib_core.specs.Meaning.{core_run}
use Rattle.gib_core.specs.Parts.{core_of}
use Rattle.gib_core.specs.Tight.{Tight}
use Rattle.gib_code.specs.declared.answer.Answer.{Answer}
use Rattle.gib_weave.specs.declared.root_run.RunFault.{RunFault}
use Rattle.gib_weave.specs.declared.root_run.RunFault.TheVariants as fault
use Rattle.gib_weave.specs.Sound.{IsAnswer}
use Rattle.gib_arena.specs.declared.memory.Pass.{Pass}
use Rattle.gib_arena.specs.Passes.{view}
use Rattle.gib_arena.specs.Shown.{shown_alone}
use Rattle.gib_frame.specs.declared.due.Ending.{Ending}
use Rattle.gib_frame.specs.declared.due.Ending.TheVariants as ending

-- The first pass as a memory, where no other one is out.
abbrev pub pass_memory : Pass → Memory
pass_memory p = shown_alone (view p)

-- A run whose root was run and ended so answers this.
abbrev pub IsOutcome : Ending → Result Answer RunFault → Type 0
IsOutcome (ending.Answer a) r = r ≡ Ok a
IsOutcome ending.Full r = r ≡ Err fault.Full
IsOutcome ending.NotRun r = ⊥

-- How a run by several workers ends that started with this value, and may nest so many calls and forks: with what the core means; or
-- all chunks are drawn, and so many may not be enough for the run; or memory was wanted.
abbrev pub IsRun : LoweredParts → (depth level : ℕ) → Datum → (v v' : Memory) → Result Answer RunFault → Type 0
IsRun l depth level d v v' (Ok a) = IsAnswer l.code.laid v'.cells (results.One (core_of l.core).main.result) (core_run (core_of l.core) depth d) a
IsRun l depth level d v v' (Err fault.Full) = Tight v.limit (run_cost (core_of l.core) depth level d) × (v'.drawn ≡ v'.limit)
IsRun l depth level d v v' (Err fault.Memory) = Unit {0}
