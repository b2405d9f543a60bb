-- What becomes of a weave by the events of a journal.
use Rattle.std.specs.Prelude.{◌≡◌, ℕ, ◌+◌, ◌<◌, List, ◌∷◌, ◌++◌, length, replicate, Result, Ok, Err}
use Rattle.gib_types.specs.Tree.{Datum}
use Rattle.gib_mem.specs.Memory.{Memory}
use Rattle.gib_code.specs.declared.answer.Answer.{Answer}
use Rattle.gib_code.specs.Program.{CodeTree}
use Rattle.gib_weave.specs.declared.task.WeaveFault.{WeaveFault}
use Rattle.gib_weave.specs.declared.task.WeaveFault.TheVariants as fault
use Rattle.gib_weave.specs.Applied.{DrawsNow}
use Rattle.gib_weave.specs.Weave.{Enabled, Event, Finished, IsFinished, Legal, Weave, task}
use Rattle.gib_weave.specs.Woven.{IsSoundOn, WeaveParts, weave_of}
use Rattle.gib_locked.specs.Lines.{counted, counted_out}
use Rattle.gib_locked.specs.Run.{HasEnded, Leads}
use Rattle.gib_locked.specs.declared.journal.Line.{Line}
use Rattle.gib_locked.specs.declared.replay_fault.ReplayFault.{ReplayFault}
use Rattle.gib_locked.specs.declared.replay_fault.ReplayFault.TheVariants as replay

-- Why an event does not happen: it is not enabled; or it draws, and all chunks are drawn; or memory is wanted.
abbrev pub IsRefused : CodeTree → Weave → Event → WeaveFault → Type 0
IsRefused code w e fault.NotNow = Enabled code w e → ⊥
IsRefused code w e fault.Full = (w.memory.drawn ≡ w.memory.limit) × Enabled code w e × DrawsNow code w e
IsRefused code w e fault.Memory = Unit {0}

-- All events before one of the line of a number happen, and that one is refused. The first line of events is 3.
pub record StopsAt (code : CodeTree) (start : Weave) (lines : List Line) (number : ℕ) (f : WeaveFault) : Type 0 where
  pub before : List Line
  pub line : Line
  pub behind : List Line
  pub lines_are : lines ≡ before ++ line ∷ behind
  pub number_is : number ≡ length before + 3
  pub made : List Event
  pub event : Event
  pub rest : List Event
  pub events_are : counted line ≡ made ++ event ∷ rest
  pub weave : Weave
  pub legal : Legal code start (counted_out before ++ made) weave
  pub refused : IsRefused code weave event f

-- All events happen, and the root has not ended then.
pub record IsLeftOpen (code : CodeTree) (start : Weave) (lines : List Line) : Type 0 where
  pub weave : Weave
  pub legal : Legal code start (counted_out lines) weave
  pub goes_on : IsFinished (task weave.tasks 0).stage → ⊥

-- Why a journal's lines lead a weave to no end.
abbrev pub IsNoEnd : CodeTree → Weave → List Line → ReplayFault → Type 0
IsNoEnd code start lines (replay.NotNow n) = StopsAt code start lines n fault.NotNow
IsNoEnd code start lines replay.Full = (n : ℕ) × StopsAt code start lines n fault.Full
IsNoEnd code start lines replay.Open = IsLeftOpen code start lines
IsNoEnd code start lines replay.Memory = Unit {0}

-- What a journal's lines make of a weave: one whose root has ended, or there is no such end.
abbrev pub ReplaysTo : WeaveParts → List Line → Result WeaveParts ReplayFault → Type 0
ReplaysTo start lines (Ok w) = Leads start lines w × HasEnded w
ReplaysTo start lines (Err f) = IsNoEnd start.lowered.code (weave_of start) lines f

-- The events lead from the start to the weave, of the same core and code; what the root owed, it still owes.
pub record Goes (start : WeaveParts) (es : List Event) (w : WeaveParts) : Type 0 where
  pub lowered : w.lowered ≡ start.lowered
  pub legal : Legal start.lowered.code (weave_of start) es (weave_of w)
  pub sound : (depth level : ℕ) (d : Datum) → IsSoundOn start.lowered depth level d (weave_of start) → IsSoundOn start.lowered depth level d (weave_of w)

-- Of so many times one event, some happened, and the next was refused.
pub record StopsAmong (start : WeaveParts) (es : List Event) (e : Event) (count : ℕ) (w : WeaveParts) (f : WeaveFault) : Type 0 where
  pub made : ℕ
  pub fewer : made < count
  pub goes : Goes start (es ++ replicate made e) w
  pub refused : IsRefused w.lowered.code (weave_of w) e f

-- What becomes of a weave by all lines.
abbrev pub AllHappen : WeaveParts → List Line → WeaveParts → Result (Unit {0}) ReplayFault → Type 0
AllHappen start lines w (Ok u) = Leads start lines w
AllHappen start lines w (Err f) = IsNoEnd start.lowered.code (weave_of start) lines f

-- All events happen, the root ends with this answer, and this is the memory then.
pub record IsAnswered (code : CodeTree) (start : Weave) (lines : List Line) (memory : Memory) (a : Answer) : Type 0 where
  pub weave : Weave
  pub legal : Legal code start (counted_out lines) weave
  pub memory_is : weave.memory ≡ memory
  pub root : (task weave.tasks 0).stage ≡ Finished a
