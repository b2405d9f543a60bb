-- A weave as its type keeps it.
use Rattle.std.specs.Prelude.{ℕ, List, Option}
use Rattle.gib_types.specs.declared.table.Ty.{Ty}
use Rattle.gib_types.specs.Tree.{Datum}
use Rattle.gib_syntax.specs.Results as results
use Rattle.gib_syntax.specs.Meaning.{Outcome}
use Rattle.gib_mem.specs.Plain.{plain_memory}
use Rattle.gib_core.specs.Cost.{Cost}
use Rattle.gib_core.specs.LoweredParts.{LoweredParts}
use Rattle.gib_core.specs.Meaning.{core_run}
use Rattle.gib_core.specs.Parts.{core_of}
use Rattle.gib_weave.specs.Applied.{HaveWidth, over}
use Rattle.gib_code.specs.declared.answer.Answer.{Answer}
use Rattle.gib_weave.specs.Paying.{whole_of}
use Rattle.gib_weave.specs.Sound.{IsAnswer}
use Rattle.gib_weave.specs.Weave.{Weave, Task, Sound}

-- A core with its code, what stands in memory, of so many chunks of which so many are drawn, and the tasks.
pub record WeaveParts : Type 0 where
  pub lowered : LoweredParts
  pub bytes : List (Option ℕ)
  pub drawn : ℕ
  pub limit : ℕ
  pub tasks : List Task

-- The weave of such parts.
abbrev pub weave_of : WeaveParts → Weave
weave_of p = over (plain_memory p.bytes p.drawn p.limit) p.tasks

-- A weave of a core with its code: it is sound for what its root owes, and its frames have the width of the code.
pub record IsWoven (lowered : LoweredParts) (w : Weave) : Type 0 where
  pub ty : Ty
  pub outcome : Outcome
  pub whole : Cost
  pub sound : Sound (core_of lowered.core) lowered.code ty outcome whole w
  pub widths : HaveWidth lowered.code w.tasks

-- The root owes what the core means on a value, with so many calls and so many forks nested, and the whole is what a run of it costs.
abbrev pub IsSoundOn : LoweredParts → (depth level : ℕ) → Datum → Weave → Type 0
IsSoundOn l depth level d w = Sound (core_of l.core) l.code (core_of l.core).main.result (core_run (core_of l.core) depth d) (whole_of (core_of l.core) depth level d) w

-- The answer is what the core means on a value, with so many calls nested.
abbrev pub IsMeant : LoweredParts → (depth : ℕ) → Datum → Weave → Answer → Type 0
IsMeant l depth d w a = IsAnswer l.code.laid w.memory.cells (results.One (core_of l.core).main.result) (core_run (core_of l.core) depth d) a
