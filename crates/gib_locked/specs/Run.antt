-- What the slot of a run keeps.
use Rattle.std.specs.Prelude.{◌≡◌, ℕ, List}
use Rattle.gib_types.specs.Tree.{Datum}
use Rattle.gib_weave.specs.Applied.{DrawsNow}
use Rattle.gib_weave.specs.Weave.{Event, Legal, Enabled, IsFinished, task}
use Rattle.gib_weave.specs.Woven.{IsSoundOn, WeaveParts, weave_of}
use Rattle.gib_locked.specs.Lines.{counted_out}
use Rattle.gib_locked.specs.declared.journal.Line.{Line}
use Rattle.gib_locked.specs.declared.held.End.{End}
use Rattle.gib_locked.specs.declared.held.End.TheVariants.{Going, Ended, Full, Memory}

-- The events of the lines lead from the start to the weave, of the same core and code; what the root owed, it still owes.
pub record Leads (start : WeaveParts) (lines : List Line) (w : WeaveParts) : Type 0 where
  pub lowered : w.lowered ≡ start.lowered
  pub legal : Legal start.lowered.code (weave_of start) (counted_out lines) (weave_of w)
  pub sound : (depth level : ℕ) (d : Datum) → IsSoundOn start.lowered depth level d (weave_of start) → IsSoundOn start.lowered depth level d (weave_of w)

-- The root has ended.
abbrev pub HasEnded : WeaveParts → Type 0
HasEnded w = IsFinished (task w.tasks 0).stage

-- All chunks are drawn, and an enabled step draws.
abbrev pub IsFull : WeaveParts → Type 0
IsFull w = (w.drawn ≡ w.limit) × (e : Event) × Enabled w.lowered.code (weave_of w) e × DrawsNow w.lowered.code (weave_of w) e

-- Why a run ended.
abbrev pub Because : End → WeaveParts → Type 0
Because Going w = Unit {0}
Because Ended w = HasEnded w
Because Full w = IsFull w
Because Memory w = Unit {0}

-- A run from the start to the weave by these lines goes on, or has ended for this reason.
abbrev pub IsRun : WeaveParts → WeaveParts → List Line → End → Type 0
IsRun start w lines end = Leads start lines w × Because end w
