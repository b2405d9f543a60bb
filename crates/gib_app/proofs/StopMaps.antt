-- From the causes of one part's stops to those of another's.
use Rattle.std.proofs.Common.{ℕ, List}
use Rattle.gib_app.specs.declared.input_fault.InputFault.{InputFault}
use Rattle.gib_app.specs.declared.input_fault.InputFault.TheVariants as input
use Rattle.gib_app.specs.declared.input_fault.PackedFault.{PackedFault}
use Rattle.gib_app.specs.declared.made.Reason.{Reason}
use Rattle.gib_app.specs.declared.source_fault.SourceFault.{SourceFault}
use Rattle.gib_app.specs.declared.stop.Stop.{Stop}
use Rattle.gib_app.specs.declared.stop.Stop.TheVariants.{Usage, Source, Unread, Input, NoValue, Memory, Unwritten, Unput}
use Rattle.gib_app.specs.Stops.{IsPacked, StopsBy}

-- A cause that there is not.
pub never : {X : Type 0} (Q : X → Type 0) (x : X) → ⊥ → Q x
never Q x h = absurd h

-- A cause that stays.
pub stays : {X : Type 0} (P : X → Type 0) (x : X) → P x → P x
stays P x h = h

-- Each cause gives another one.
pub stops_map : (S T : SourceFault → Type 0) (U V : List ℕ → Type 0) (I J : InputFault → Type 0) (N O : Reason → Type 0) (W X : List ℕ → Type 0) (stop : Stop) → StopsBy S U I N W stop → ((fault : SourceFault) → S fault → T fault)
    → ((name : List ℕ) → U name → V name) → ((fault : InputFault) → I fault → J fault) → ((reason : Reason) → N reason → O reason) → ((name : List ℕ) → W name → X name) → StopsBy T V J O X stop
stops_map S T U V I J N O W X Usage h s u i n w = h
stops_map S T U V I J N O W X (Source fault) h s u i n w = s fault h
stops_map S T U V I J N O W X (Unread name) h s u i n w = u name.now h
stops_map S T U V I J N O W X (Input fault) h s u i n w = i fault h
stops_map S T U V I J N O W X (NoValue reason) h s u i n w = n reason h
stops_map S T U V I J N O W X Memory h s u i n w = h
stops_map S T U V I J N O W X (Unwritten name) h s u i n w = w name.now h
stops_map S T U V I J N O W X Unput h s u i n w = h

-- The fault of a packed file is the only one.
pub only_packed : (P : PackedFault → Type 0) (Q : InputFault → Type 0) → ((fault : PackedFault) → P fault → Q (input.Packed fault)) → (fault : InputFault) → IsPacked P fault → Q fault
only_packed P Q f (input.Long most) h = absurd h
only_packed P Q f (input.Packed fault) h = f fault h
only_packed P Q f (input.Image fault) h = absurd h
only_packed P Q f (input.Text place) h = absurd h
only_packed P Q f (input.Journal fault) h = absurd h
