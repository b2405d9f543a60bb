-- What the events of a journal leave, and why they leave nothing.
use Rattle.gib_base.specs.Texts.{TextsView}
use Rattle.std.proofs.Common.{◌≡◌, refl, Bool, ℕ, ◌≤◌, List, [], ◌∷◌, length, Option, None, Ok, Err, inl, inr, sym, subst, subst₂}
use Rattle.gib_types.specs.Layout.{LaidOut}
use Rattle.gib_types.specs.Tree.{Datum}
use Rattle.gib_mem.specs.Memory.{Memory}
use Rattle.gib_packed.specs.declared.root.Root.{Root}
use Rattle.gib_file.specs.Framed.{File}
use Rattle.gib_file.specs.Packed.{Packed, IsPacked}
use Rattle.gib_file.specs.Surveyed.{Surveyed}
use Rattle.gib_syntax.specs.Tree.{ProgramTree}
use Rattle.gib_syntax.specs.Declarations.{table_of_program, input_type, output_type}
use Rattle.gib_core.specs.LoweredParts.{LoweredParts}
use Rattle.gib_core.specs.Parts.{core_of}
use Rattle.gib_load.specs.Placement.{Placement}
use Rattle.gib_weave.specs.Running.{word_of}
use Rattle.gib_weave.specs.Weave.{weave_start}
use Rattle.gib_code.specs.declared.answer.Answer.{Answer}
use Rattle.gib_types.specs.declared.reason.Reason.{Reason as Why}
use Rattle.gib_weave.specs.declared.task.WeaveFault.TheVariants as event
use Rattle.gib_locked.specs.Replays.{StopsAt}
use Rattle.gib_locked.specs.declared.journal.Line.{Line}
use Rattle.gib_locked.specs.declared.journal_fault.JournalFault.TheVariants as reading
use Rattle.gib_locked.specs.declared.settings.Settings.{Settings}
use Rattle.gib_locked.proofs.OneEnd.{not_answered, not_both, not_open, not_open_and_answered}
use Rattle.gib_app.specs.declared.input_fault.InputFault.{InputFault}
use Rattle.gib_app.specs.declared.input_fault.InputFault.TheVariants as refusal
use Rattle.gib_app.specs.declared.input_fault.JournalFault.TheVariants as journal
use Rattle.gib_app.specs.declared.made.End.{End as KeptEnd}
use Rattle.gib_app.specs.declared.made.End.TheVariants as ends
use Rattle.gib_app.specs.declared.made.Reason.{Reason}
use Rattle.gib_app.specs.declared.made.Reason.TheVariants as reason
use Rattle.gib_app.specs.declared.stop.Stop.{Stop}
use Rattle.gib_app.specs.Imaging.{IsShownWith}
use Rattle.gib_app.specs.InputFaults.{IsInputFault, IsReplayFault}
use Rattle.gib_app.specs.Jobs.{NoValue, Replays}
use Rattle.gib_app.specs.Kept.{EndsBy}
use Rattle.gib_app.specs.MachineRun.{StandsMeant}
use Rattle.gib_app.specs.Replaying.{Happens, IsEndOf, IsImageFile, IsJournal, IsNotEnabled, IsNotEnded, LacksChunks, OnJournal, code_for, core_for, layouts_for, root_in, start_for}
use Rattle.gib_app.specs.Running.{IsInput}
use Rattle.gib_app.specs.Stops.{IsRunStop}
use Rattle.gib_app.specs.Workers.{Engine, engine_for, engine_of, loaded_by, start_by, GoesInto, IsBadLine, IsEndBy, IsFaultBy, IsLoaded, IsNoJournal, LeavesOpen, IsNotReplayed, IsReplayed, LacksBy, OnlyFull, StopsTo}
use Rattle.gib_app.proofs.Imaged.{stands_again}
use Rattle.gib_app.proofs.Leading.{IsEngineOf, same_engine, end_meant, end_stands, end_stopped}
use Rattle.gib_app.proofs.Replays.{OneValue, both_on, start_alone}
use Rattle.gib_app.proofs.Roots.{input_of}
use Rattle.gib_app.proofs.Stopped.{stops_with}

-- What the events leave.
pub replayed_run : {names : TextsView} (p : ProgramTree) (input bytes : List ℕ) (s : Surveyed) (l : LoweredParts) (settings : Settings) (lines : List Line) (m : Memory) (a : Answer) → IsEngineOf p (core_for p settings) l
    → length input ≤ 16777216 → IsPacked s.table s.ty s.bytes s.count → ((v : Datum) → Packed s.table s.ty v s.bytes → File (table_of_program p) names.long (input_type p) v input)
    → IsJournal settings lines bytes → ((v : Datum) → Packed s.table s.ty v s.bytes → IsEndBy (engine_of l) v settings lines m a) → IsReplayed p names input bytes l.code.laid m a
replayed_run p input bytes s l settings lines m a of short packed file is ends = record {
  value = packed.0;
  settings = settings;
  lines = lines;
  is_input = input_of p input s short file packed.0 packed.1;
  is_journal = is;
  laid_is = of.laid;
  ended = end_meant p l packed.0 settings lines m a of (ends packed.0 packed.1);
}

-- The root stands for what the program means within the journal's depth.
abbrev pub replayed_stands : {names : TextsView} (p : ProgramTree) (input bytes : List ℕ) (laid : LaidOut) (m : Memory) (a : Answer) (place : Root) (r : IsReplayed p names input bytes laid m a) → root_in a ≡ Ok place
    → StandsMeant p names r.settings.depth input laid m.cells place
replayed_stands p input bytes laid m a place r there =
    stands_again p r.settings.depth input (layouts_for p r.settings) laid m m place place r.laid_is refl refl (end_stands p input r.value r.settings r.lines m a place r.is_input r.ended there)

-- So it is where the code and the memory were handed on.
pub replayed_on : {names : TextsView} (p : ProgramTree) (input bytes : List ℕ) (laid other : LaidOut) (m n : Memory) (a : Answer) → other ≡ laid → n ≡ m → IsReplayed p names input bytes laid m a → IsReplayed p names input bytes other n a
replayed_on {names} p input bytes laid other m n a e f r = subst₂ (λ (x : LaidOut) (y : Memory). IsReplayed p names input bytes x y a) (sym e) (sym f) r

-- Where there is none, the program means none.
pub replayed_none : (p : ProgramTree) (names : TextsView) (image : Bool) (input bytes : List ℕ) (laid : LaidOut) (m : Memory) (a : Answer) (why : Why) → IsReplayed p names input bytes laid m a → root_in a ≡ Err why
    → Replays p names image (record { second = input; further = bytes ∷ [] }) None (NoValue (reason.Meant why))
replayed_none p names image input bytes laid m a why r nowhere =
    let over = end_stopped p r.value r.settings r.lines m a why r.ended nowhere in (
      refl,
      record {
        value = r.value;
        settings = r.settings;
        lines = r.lines;
        is_input = r.is_input;
        is_journal = r.is_journal;
        holds = record { memory = m; ended = subst (λ (x : Answer). IsEndOf p r.value r.settings r.lines m x) over.0 r.ended; means = over.1 };
      },
    )

-- Its text, and its image where one is asked for, end a replay.
pub shown_replays : (p : ProgramTree) (names : TextsView) (image : Bool) (input bytes : List ℕ) (laid : LaidOut) (m : Memory) (a : Answer) (place : Root) (r : IsReplayed p names input bytes laid m a)
    (there : root_in a ≡ Ok place) (file : Option (List ℕ)) (e : KeptEnd) → IsShownWith image laid m place p names (replayed_stands p input bytes laid m a place r there).result file e
    → EndsBy file e (Replays p names image (record { second = input; further = bytes ∷ [] }))
shown_replays p names image input bytes laid m a place r there file (ends.Prints text) h =
    let s = replayed_stands p input bytes laid m a place r there in
    record {
      value = r.value;
      settings = r.settings;
      lines = r.lines;
      is_input = r.is_input;
      is_journal = r.is_journal;
      holds = record {
        memory = m;
        ends_with = a;
        place = place;
        result = s.result;
        ended = r.ended;
        is_place = there;
        means = s.means;
        is_text = h.1;
        is_file = subst (λ (x : LaidOut). IsImageFile image x (output_type p) m place s.result file) r.laid_is h.0;
      };
    }
shown_replays p names image input bytes laid m a place r there file (ends.Value value) h = absurd h
shown_replays p names image input bytes laid m a place r there file (ends.NoValue why) h = absurd h

-- Where no journal was read, its bytes are none.
pub unread_replays : (p : ProgramTree) (names : TextsView) (image : Bool) (input : List ℕ) (file : Option (List ℕ)) (e : KeptEnd) → EndsBy file e (Replays p names image (record { second = input; further = [] ∷ [] }))
    → EndsBy file e (Replays p names image (record { second = input; further = [] }))
unread_replays p names image input file (ends.Prints text) h = h
unread_replays p names image input file (ends.Value value) h = h
unread_replays p names image input file (ends.NoValue (reason.Meant why)) h = h
unread_replays p names image input file (ends.NoValue reason.Full) h = h
unread_replays p names image input file (ends.NoValue reason.Long) h = h

-- ---- Why they leave nothing

nowhere_full : (l : LoweredParts) (v : Datum) (settings : Settings) (lines : List Line) → GoesInto (engine_of l) settings v → (why : Reason)
    → OnlyFull ((n : ℕ) × StopsAt l.code (start_by (engine_of l) settings (loaded_by (engine_of l) settings v)) lines n event.Full) why → OnlyFull (LacksBy (engine_of l) v settings lines) why
nowhere_full l v settings lines goes (reason.Meant why) h = h
nowhere_full l v settings lines goes reason.Full h = inr (goes, h.0, h.1)
nowhere_full l v settings lines goes reason.Long h = h

-- The events lead a loaded value to no end.
pub loaded_stops : (l : LoweredParts) (v : Datum) (settings : Settings) (lines : List Line) (m : Memory) (place : Root) (tails : List ℕ) (stop : Stop) → IsLoaded l settings.chunks v m place tails
    → LeavesOpen l.code (weave_start (core_of l.core) l.code m (word_of place) settings.depth settings.fork tails) lines stop → StopsTo (engine_of l) v settings lines stop
loaded_stops l v settings lines m place tails stop loaded h =
    let there = subst (λ (x : Placement). LeavesOpen l.code (start_by (engine_of l) settings x) lines stop) loaded.placed h in
    stops_with _ _ _ _ (λ fault k. (loaded.few, k)) (nowhere_full l v settings lines loaded.few) stop there

happens_or_not : (p : ProgramTree) (v : Datum) (settings : Settings) (lines : List Line) (n : ℕ) → Happens p v settings lines → IsNotEnabled p v settings lines n → ⊥
happens_or_not p v settings lines n (inl h) k = not_answered (code_for p settings) (start_for p settings v) lines (start_alone p settings v) n event.NotNow tt k.1 h.0 h.1 h.2.answered
happens_or_not p v settings lines n (inr (inl over)) k = over k.0
happens_or_not p v settings lines n (inr (inr h)) k = not_both (code_for p settings) (start_for p settings v) lines (start_alone p settings v) n h.1 k.1 h.2

happens_or_open : (p : ProgramTree) (v : Datum) (settings : Settings) (lines : List Line) → Happens p v settings lines → IsNotEnded p v settings lines → ⊥
happens_or_open p v settings lines (inl h) k = not_open_and_answered (code_for p settings) (start_for p settings v) lines (start_alone p settings v) k.1 h.0 h.1 h.2.answered
happens_or_open p v settings lines (inr (inl over)) k = over k.0
happens_or_open p v settings lines (inr (inr h)) k = not_open (code_for p settings) (start_for p settings v) lines (start_alone p settings v) h.1 event.Full tt h.2 k.1

-- The input is refused.
refused_first : (p : ProgramTree) (names : TextsView) (input bytes : List ℕ) (fault : InputFault) → IsInputFault p names input fault → IsReplayFault p names input bytes fault
refused_first p names input bytes (refusal.Long most) h = inl h
refused_first p names input bytes (refusal.Packed fault) h = h
refused_first p names input bytes (refusal.Image fault) h = h
refused_first p names input bytes (refusal.Text place) h = h
refused_first p names input bytes (refusal.Journal fault) h = absurd h

pub refused_replay : (p : ProgramTree) (names : TextsView) (input bytes : List ℕ) (stop : Stop) → IsRunStop p names input stop → IsNotReplayed p names input bytes stop
refused_replay p names input bytes stop h =
    stops_with _ _ _ _ (λ fault k. (refused_first p names input bytes fault k.0, λ j. k.1 (j.value, j.is_input))) (λ why k. absurd k) stop h

-- A line that is refused is no want of memory.
pub line_is_told : (n : ℕ) → reading.Line n ≡ reading.Memory → ⊥
line_is_told n e = cc

-- The bytes are no journal.
no_lines : {names : TextsView} (p : ProgramTree) (input bytes : List ℕ) (v : Datum) → IsInput p names v input → length bytes ≤ 16777216 → (fault : InputFault) → IsBadLine bytes fault → IsReplayFault p names input bytes fault
no_lines p input bytes v is few (refusal.Long most) h = absurd h
no_lines p input bytes v is few (refusal.Packed fault) h = absurd h
no_lines p input bytes v is few (refusal.Image fault) h = absurd h
no_lines p input bytes v is few (refusal.Text place) h = absurd h
no_lines p input bytes v is few (refusal.Journal (journal.Line n)) h = (v, is, (few, h))
no_lines p input bytes v is few (refusal.Journal (journal.NotEnabled n)) h = absurd h
no_lines p input bytes v is few (refusal.Journal journal.NotEnded) h = absurd h

pub no_journal : (names : TextsView) (p : ProgramTree) (input bytes : List ℕ) (s : Surveyed) → length input ≤ 16777216 → IsPacked s.table s.ty s.bytes s.count
    → ((v : Datum) → Packed s.table s.ty v s.bytes → File (table_of_program p) names.long (input_type p) v input) → length bytes ≤ 16777216 → (stop : Stop) → IsNoJournal bytes stop → IsNotReplayed p names input bytes stop
no_journal names p input bytes s short packed file few stop h =
    let is = input_of {names = names} p input s short file packed.0 packed.1 in
    stops_with _ _ _ _ (λ fault k. (no_lines p input bytes packed.0 is few fault k.0, λ j. k.1 j.settings j.lines j.is_journal.are j.is_journal.text_is)) (λ why k. absurd k) stop h

-- Its events lead to no end.
module _ {names : TextsView} (one : OneValue) (p : ProgramTree) (input bytes : List ℕ) (v : Datum) (is : IsInput p names v input) (settings : Settings) (lines : List Line) (is_journal : IsJournal settings lines bytes) where
  on : (P : Datum → Settings → List Line → Type 0) → P v settings lines → OnJournal p names input bytes P
  on P h = record { value = v; settings = settings; lines = lines; is_input = is; is_journal = is_journal; holds = h }

  never : (fault : InputFault) → IsFaultBy (engine_for (core_for p settings)) v settings lines fault → IsReplayFault p names input bytes fault × (OnJournal p names input bytes (Happens p) → ⊥)
  never (refusal.Long most) h = absurd h.1
  never (refusal.Packed fault) h = absurd h.1
  never (refusal.Image fault) h = absurd h.1
  never (refusal.Text place) h = absurd h.1
  never (refusal.Journal (journal.Line n)) h = absurd h.1
  never (refusal.Journal (journal.NotEnabled n)) h = (
    (v, is, (settings, lines, is_journal, h)),
    λ j.
        let Q : Datum → Settings → List Line → Type 0 = λ w s ls. IsNotEnabled p w s ls n in
        let both = both_on one p input bytes (Happens p) Q j (on Q h) in
        happens_or_not p both.0 both.1 both.2 n both.3 both.4,
  )
  never (refusal.Journal journal.NotEnded) h = (
    (v, is, (settings, lines, is_journal, h)),
    λ j.
        let both = both_on one p input bytes (Happens p) (IsNotEnded p) j (on (IsNotEnded p) h) in
        happens_or_open p both.0 both.1 both.2 both.3 both.4,
  )

  full : (why : Reason) → OnlyFull (LacksBy (engine_for (core_for p settings)) v settings lines) why → OnlyFull (OnJournal p names input bytes (LacksChunks p)) why
  full (reason.Meant why) h = h
  full reason.Full h = on (LacksChunks p) h
  full reason.Long h = h

  ends_nowhere : (stop : Stop) → StopsTo (engine_for (core_for p settings)) v settings lines stop → IsNotReplayed p names input bytes stop
  ends_nowhere stop h = stops_with _ _ _ _ never full stop h

pub replay_stops : (names : TextsView) → OneValue → (p : ProgramTree) (input bytes : List ℕ) (s : Surveyed) (l : LoweredParts) (settings : Settings) (lines : List Line) → IsEngineOf p (core_for p settings) l → length input ≤ 16777216
    → IsPacked s.table s.ty s.bytes s.count → ((v : Datum) → Packed s.table s.ty v s.bytes → File (table_of_program p) names.long (input_type p) v input) → IsJournal settings lines bytes → (stop : Stop)
    → ((v : Datum) → Packed s.table s.ty v s.bytes → StopsTo (engine_of l) v settings lines stop) → IsNotReplayed p names input bytes stop
replay_stops names one p input bytes s l settings lines of short packed file is_journal stop ends =
    let is = input_of {names = names} p input s short file packed.0 packed.1 in
    ends_nowhere one p input bytes packed.0 is settings lines is_journal stop
    (subst (λ (e : Engine). StopsTo e packed.0 settings lines stop) (same_engine p (core_for p settings) l of) (ends packed.0 packed.1))
