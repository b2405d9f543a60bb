-- Why a call of a plan ends with a status.
use Rattle.gib_base.specs.Texts.{TextsView}
use Rattle.std.proofs.Common.{◌≡◌, ◌∙◌, refl, ℕ, List, length, Option, Some, None, MatchOption, ◌⊎◌, inl, inr, sym, Bool}
use Rattle.gib_edge.specs.Causes.{Rose, Appends, AppendsPart, PutsPieces, PutsSomePieces}
use Rattle.gib_edge.specs.Views.{ShelfView, SinkView}
use Rattle.gib_types.specs.declared.reason.Reason.{Reason as Why}
use Rattle.gib_app.specs.declared.input_fault.InputFault.{InputFault}
use Rattle.gib_app.specs.declared.status.Status.{Status}
use Rattle.gib_app.specs.declared.status.Status.TheVariants as status
use Rattle.gib_app.specs.declared.stop.Stop.{Stop}
use Rattle.gib_app.specs.declared.stop.Stop.TheVariants.{Usage, Source, Unread, Input, NoValue, Memory, Unwritten, Unput}
use Rattle.gib_app.specs.declared.made.Reason.{Reason}
use Rattle.gib_app.specs.declared.made.Reason.TheVariants.{Meant, Full, Long}
use Rattle.gib_words.specs.Plan.{Document, Plan, Files, Contents}
use Rattle.gib_app.specs.Writes.{at_reading}
use Rattle.gib_words.specs.Words.{asked}
use Rattle.gib_app.specs.Running.{IsNoProgramIn, Program}
use Rattle.gib_app.specs.SourceFaults.{IsSourceFaultIn}
use Rattle.gib_app.specs.Formats.{dialect_of, Accepts, Refuses}
use Rattle.gib_app.specs.Causes.{OnSource, OnBoth, OnReached, IsMade, HasNoValue, EndsWithout, AsksProgram, FailsToRead, FailsToWrite}
use Rattle.gib_app.specs.Lines.{line}
use Rattle.gib_app.specs.Ending.{IsEnding}
use Rattle.gib_app.specs.Stopping.{answer_for}
use Rattle.gib_app.proofs.Performing.{asked_is, map_both}
use Rattle.gib_script.specs.Script.{World}
use Rattle.gib_app.specs.Performing.{IsCallStop}

-- the files that a plan reads
abbrev pub K : Bool → ShelfView → Plan → Files
K tells before r = at_reading tells before.kept r

-- a text was made, and the sink took it
abbrev pub Whole : Bool → ShelfView → ShelfView → SinkView → SinkView → Plan → Program → TextsView → Contents → Type 0
Whole tells before now a b r p names given = (text : List ℕ) × IsMade tells before.kept now.kept r p names given text × Appends a.taken b.taken text × PutsPieces a b (length text)

-- a text was made, and the sink took a front of it
abbrev pub Front : Bool → ShelfView → ShelfView → SinkView → SinkView → Plan → Program → TextsView → Contents → Type 0
Front tells before now a b r p names given = (text : List ℕ) × IsMade tells before.kept now.kept r p names given text × AppendsPart a.taken b.taken text × PutsSomePieces a b (length text)

-- the program means none, for this reason
abbrev pub Valueless : Why → Plan → Program → TextsView → Contents → Type 0
Valueless x r = HasNoValue (Meant x) r

-- inputs that the job does not accept
abbrev pub Unfit : Plan → Program → TextsView → Contents → Type 0
Unfit r p names given = Accepts r.job r.options p names given → ⊥

-- Why a call of a plan ends with a status, without its line.
abbrev pub IsCause : Bool → World → World → Plan → Status → Type 0
IsCause tells before now r status.Done = OnBoth (K tells before.shelf r) r (Whole tells before.shelf now.shelf before.out now.out r)
IsCause tells before now r status.Source = OnSource (K tells before.shelf r) r.source (IsNoProgramIn (dialect_of r.job))
IsCause tells before now r status.Usage = ⊥
IsCause tells before now r (status.NoValue x) = OnBoth (K tells before.shelf r) r (Valueless x r)
IsCause tells before now r status.Full = OnBoth (K tells before.shelf r) r (HasNoValue Full r)
IsCause tells before now r status.Memory = Unit {0}
IsCause tells before now r status.ReadFault = (name : List ℕ) × FailsToRead (K tells before.shelf r) before.shelf now.shelf r name
IsCause tells before now r status.WriteFault =
    ((name : List ℕ) × FailsToWrite tells before.shelf now.shelf r name)
    ⊎ (OnBoth (K tells before.shelf r) r (Front tells before.shelf now.shelf before.out now.out r) × Rose before.out.faults now.out.faults)
IsCause tells before now r status.Input = OnReached (K tells before.shelf r) r (Unfit r)
IsCause tells before now r status.Long = OnBoth (K tells before.shelf r) r (HasNoValue Long r)

on_source : (kept : Files) (d : Document) (P Q : List ℕ → Type 0) → ((source : List ℕ) → P source → Q source) → OnSource kept d P → OnSource kept d Q
on_source kept d P Q go h = record { source = h.source; source_held = h.source_held; holds = go h.source h.holds }

map_reached : (kept : Files) (r : Plan) (P Q : Program → TextsView → Contents → Type 0) → ((p : Program) (names : TextsView) (given : Contents) → P p names given → Q p names given) →
    OnReached kept r P → OnReached kept r Q
map_reached kept r P Q go h = record {
  source = h.source;
  given = h.given;
  source_held = h.source_held;
  holds = record {
    texts = h.holds.texts;
    program = h.holds.program;
    is_program = h.holds.is_program;
    holds = (h.holds.holds.0, go h.holds.program h.holds.texts h.given h.holds.holds.1);
  };
}

none_is_some : (o : Option Plan) (r : Plan) → o ≡ None → o ≡ Some r → ⊥
none_is_some o r e f = let both = sym e ∙ f in cc

-- what holds of inputs that are refused
abbrev Refused : Plan → InputFault → Program → TextsView → Contents → Type 0
Refused r fault p names given = Refuses r.job r.options p names given fault × (Accepts r.job r.options p names given → ⊥)

module _ (tells : Bool) (words : List (List ℕ)) (before now : World) (r : Plan) (is : asked words ≡ Some r) where
  without_of : (cause : Reason) → AsksProgram tells words before.shelf.kept (EndsWithout tells before.shelf now.shelf cause) → OnBoth (K tells before.shelf r) r (HasNoValue cause r)
  without_of cause h =
      let P : Plan → Type 0 = λ q. OnBoth (K tells before.shelf q) q (EndsWithout tells before.shelf now.shelf cause q) in
      map_both (K tells before.shelf r) r (EndsWithout tells before.shelf now.shelf cause r) (HasNoValue cause r) (λ p names given e. (e.file, e.does)) (asked_is (asked words) r P is h)

  pub cause_of : (ended : Status) (said : List ℕ) → IsEnding tells words before.shelf now.shelf before.out now.out ended said → IsCause tells before now r ended
  cause_of status.Done said h =
      let P : Plan → Type 0 = λ q. OnBoth (K tells before.shelf q) q (Whole tells before.shelf now.shelf before.out now.out q) in
      asked_is (asked words) r P is h.0
  cause_of status.Source said h =
      let P : Plan → Type 0 = λ q. OnSource (K tells before.shelf q) q.source (λ bytes. IsSourceFaultIn (dialect_of q.job) bytes h.0 × IsNoProgramIn (dialect_of q.job) bytes) in
      on_source (K tells before.shelf r) r.source (λ bytes. IsSourceFaultIn (dialect_of r.job) bytes h.0 × IsNoProgramIn (dialect_of r.job) bytes) (IsNoProgramIn (dialect_of r.job))
      (λ bytes both. both.1) (asked_is (asked words) r P is h.1)
  cause_of status.Usage said h = none_is_some (asked words) r h.0 is
  cause_of (status.NoValue x) said h = without_of (Meant x) h.0
  cause_of status.Full said h = without_of Full h.0
  cause_of status.Memory said h = tt {0}
  cause_of status.ReadFault said h =
      let P : Plan → Type 0 = λ q. FailsToRead (K tells before.shelf q) before.shelf now.shelf q h.0 in
      (h.0, asked_is (asked words) r P is h.1)
  cause_of status.WriteFault said (inl h) =
      let P : Plan → Type 0 = λ q. FailsToWrite tells before.shelf now.shelf q h.0 in
      inl (h.0, asked_is (asked words) r P is h.1)
  cause_of status.WriteFault said (inr h) =
      let P : Plan → Type 0 = λ q. OnBoth (K tells before.shelf q) q (Front tells before.shelf now.shelf before.out now.out q) in
      inr (asked_is (asked words) r P is h.0, h.1)
  cause_of status.Input said h =
      let P : Plan → Type 0 = λ q. OnReached (K tells before.shelf q) q (Refused q h.0) in
      map_reached (K tells before.shelf r) r (Refused r h.0) (Unfit r) (λ p names given both. both.1) (asked_is (asked words) r P is h.1)
  cause_of status.Long said h = without_of Long h.0

-- Where the words are not taken, that is told, or memory runs out.

none_asked : (o : Option Plan) (P : Plan → Type 0) → o ≡ None → MatchOption o ⊥ P → ⊥
none_asked None P e h = h
none_asked (Some r) P e h = cc

module _ (tells : Bool) (words : List (List ℕ)) (before now : World) (no' : asked words ≡ None) where
  none_without : {X : Type 0} (cause : Reason) → AsksProgram tells words before.shelf.kept (EndsWithout tells before.shelf now.shelf cause) → X
  none_without cause h = absurd (none_asked (asked words) (λ q. OnBoth (K tells before.shelf q) q (EndsWithout tells before.shelf now.shelf cause q)) no' h)

  pub untaken_ends : (ended : Status) (said : List ℕ) → IsEnding tells words before.shelf now.shelf before.out now.out ended said → (ended ≡ status.Usage) ⊎ (ended ≡ status.Memory)
  untaken_ends status.Done said h = absurd (none_asked (asked words) (λ q. OnBoth (K tells before.shelf q) q (Whole tells before.shelf now.shelf before.out now.out q)) no' h.0)
  untaken_ends status.Source said h =
      absurd (none_asked (asked words) (λ q. OnSource (K tells before.shelf q) q.source (λ bytes. IsSourceFaultIn (dialect_of q.job) bytes h.0 × IsNoProgramIn (dialect_of q.job) bytes)) no' h.1)
  untaken_ends status.Usage said h = inl refl
  untaken_ends (status.NoValue x) said h = none_without (Meant x) h.0
  untaken_ends status.Full said h = none_without Full h.0
  untaken_ends status.Memory said h = inr refl
  untaken_ends status.ReadFault said h = absurd (none_asked (asked words) (λ q. FailsToRead (K tells before.shelf q) before.shelf now.shelf q h.0) no' h.1)
  untaken_ends status.WriteFault said (inl h) = absurd (none_asked (asked words) (λ q. FailsToWrite tells before.shelf now.shelf q h.0) no' h.1)
  untaken_ends status.WriteFault said (inr h) = absurd (none_asked (asked words) (λ q. OnBoth (K tells before.shelf q) q (Front tells before.shelf now.shelf before.out now.out q)) no' h.0)
  untaken_ends status.Input said h = absurd (none_asked (asked words) (λ q. OnReached (K tells before.shelf q) q (Refused q h.0)) no' h.1)
  untaken_ends status.Long said h = none_without Long h.0

-- From the stop of a call to its status and its line.
pub ending_of : (tells : Bool) (words : List (List ℕ)) (before now : World) (stop : Stop) → IsCallStop tells words before now stop →
    IsEnding tells words before.shelf now.shelf before.out now.out (answer_for stop).status (line (answer_for stop).said)
ending_of tells words before now Usage h = (h, refl)
ending_of tells words before now (Source fault) h = (fault, h, refl)
ending_of tells words before now (Unread name) h = (name.now, h, refl)
ending_of tells words before now (Input fault) h = (fault, h, refl)
ending_of tells words before now (NoValue (Meant x)) h = (h, refl)
ending_of tells words before now (NoValue Full) h = (h, refl)
ending_of tells words before now (NoValue Long) h = (h, refl)
ending_of tells words before now Memory h = refl
ending_of tells words before now (Unwritten name) h = inl (name.now, h.0, h.1, refl)
ending_of tells words before now Unput h = inr (h.0, h.1, h.2, refl)
