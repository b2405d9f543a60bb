-- What a job makes that stopped.
use Rattle.gib_base.specs.Texts.{TextsView}
use Rattle.std.proofs.Common.{◌≡◌, List, ℕ, Option, Some, None, Result, Ok, Err, IfOk, IfErr, sym, subst}
use Rattle.gib_types.specs.Tree.{Datum}
use Rattle.gib_syntax.specs.Tree.{ProgramTree}
use Rattle.gib_app.specs.declared.input_fault.InputFault.{InputFault}
use Rattle.gib_app.specs.declared.made.Made.{Made}
use Rattle.gib_app.specs.declared.made.End.TheVariants as ends
use Rattle.gib_app.specs.declared.made.Reason.{Reason}
use Rattle.gib_app.specs.declared.stop.Stop.{Stop}
use Rattle.gib_app.specs.declared.stop.Stop.TheVariants as stop
use Rattle.gib_app.specs.InputFaults.{IsInputFault, IsReplayFault}
use Rattle.gib_app.specs.Jobs.{End, NoValue}
use Rattle.gib_app.specs.Kept.{EndsBy, file_of}
use Rattle.gib_app.specs.Replaying.{Happens, OnJournal}
use Rattle.gib_app.specs.Running.{IsInput}
use Rattle.gib_app.specs.Stops.{reason_of, IsRefusal, StopsBy}
use Rattle.gib_app.proofs.Doing.{ends_without}
use Rattle.gib_app.proofs.StopMaps.{never, stops_map}

-- Why a job stops that reads nothing and writes nothing: its inputs are refused, or there is no value.
abbrev pub StopsJob : (InputFault → Type 0) → (Reason → Type 0) → Stop → Type 0
StopsJob I N = StopsBy (λ fault. ⊥) (λ name. ⊥) I N (λ name. ⊥)

-- The input of a run is refused.
abbrev pub RunRefused : ProgramTree → TextsView → List ℕ → InputFault → Type 0
RunRefused p names input fault = IsInputFault p names input fault × (((v : Datum) × IsInput p names v input) → ⊥)

-- The inputs of a replay are refused.
abbrev pub ReplayRefused : ProgramTree → TextsView → (input bytes : List ℕ) → InputFault → Type 0
ReplayRefused p names input bytes fault = IsReplayFault p names input bytes fault × (OnJournal p names input bytes (Happens p) → ⊥)

-- Each cause gives another one.
pub stops_with : (I J : InputFault → Type 0) (N O : Reason → Type 0) → ((fault : InputFault) → I fault → J fault) → ((why : Reason) → N why → O why) → (s : Stop) → StopsJob I N s → StopsJob J O s
stops_with I J N O f g s h = stops_map _ _ _ _ _ _ _ _ _ _ s h (never _) (never _) f g (never _)

-- A stop for want of a value.
lacks : (I : InputFault → Type 0) (N : Reason → Type 0) (s : Stop) (why : Reason) → reason_of s ≡ Some why → StopsJob I N s → N why
lacks I N stop.Usage why e h = absurd h
lacks I N (stop.Source fault) why e h = absurd h
lacks I N (stop.Unread name) why e h = absurd h
lacks I N (stop.Input fault) why e h = absurd cc
lacks I N (stop.NoValue other) why e h = let same : other ≡ why = cc in subst N same h
lacks I N stop.Memory why e h = absurd cc
lacks I N (stop.Unwritten name) why e h = absurd h
lacks I N stop.Unput why e h = absurd h

-- A stop for another cause.
refuses : (I : InputFault → Type 0) (N : Reason → Type 0) (s : Stop) → reason_of s ≡ None → StopsJob I N s → IsRefusal I s
refuses I N stop.Usage e h = h
refuses I N (stop.Source fault) e h = h
refuses I N (stop.Unread name) e h = h
refuses I N (stop.Input fault) e h = h
refuses I N (stop.NoValue why) e h = absurd cc
refuses I N stop.Memory e h = h
refuses I N (stop.Unwritten name) e h = h
refuses I N stop.Unput e h = h

-- There is no value, where that is why.
pub stopped_made : (I : InputFault → Type 0) (N : Reason → Type 0) (P : Option (List ℕ) → End → Type 0) (s : Stop) (r : Result Made Stop) → StopsJob I N s
    → IfOk r (λ made. (why : Reason) × (reason_of s ≡ Some why) × (made.file ≡ None) × (made.end ≡ ends.NoValue why)) → ((why : Reason) → N why → P None (NoValue why))
    → IfOk r (λ made. EndsBy (file_of made) made.end P)
stopped_made I N P s (Ok made) h of give = ends_without made of.0 P of.2 of.3 (give of.0 (lacks I N s of.0 of.1 h))
stopped_made I N P s (Err other) h of give = tt {0}

-- Else it is the stop.
pub stopped_stop : (I : InputFault → Type 0) (N : Reason → Type 0) (s : Stop) (r : Result Made Stop) → StopsJob I N s → IfErr r (λ other. (other ≡ s) × (reason_of s ≡ None)) → IfErr r (IsRefusal I)
stopped_stop I N s (Ok made) h of = tt {0}
stopped_stop I N s (Err other) h of = subst (IsRefusal I) (sym of.0) (refuses I N s of.1 h)
