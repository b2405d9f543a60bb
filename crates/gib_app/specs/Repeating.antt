-- A call that traces a run, and a later call that replays the journal of that run.
use Rattle.std.specs.Prelude.{◌≡◌, ◌≤◌, ℕ, List, [], ◌∷◌, ◌++◌, length, Option, None, Some}
use Rattle.gib_edge.specs.Causes.{Rose}
use Rattle.gib_edge.specs.Views.{Has, ShelfView, SinkView}
use Rattle.gib_words.specs.declared.plan.Job.TheVariants.{Replay, Trace}
use Rattle.gib_words.specs.declared.plan.Options.{Options}
use Rattle.gib_words.specs.Plan.{Document, Named, Plan, bytes_in}
use Rattle.gib_words.specs.Words.{asked}
use Rattle.gib_app.specs.Causes.{IsUnread}

-- To trace a run of the program of one document on the packed value of another, and to write its journal under a name.
abbrev pub trace_plan : Document → Document → List ℕ → Options → Plan
trace_plan program packed name options =
    record { first = []; source = program; inputs = packed ∷ []; target = Some name; pack = None; job = Trace; options = options }

-- To replay the journal of that name on the same, and to write an image, where one is asked for.
abbrev pub replay_plan : Document → Document → List ℕ → Option (List ℕ) → Options → Plan
replay_plan program packed name image options =
    record { first = []; source = program; inputs = packed ∷ Named name ∷ []; target = image; pack = None; job = Replay; options = options }

-- The words of a call ask to trace a run, and those of a later call to replay its journal on the same program and input. Between the
-- calls the journal's file stays as the first one left it, and it is not too long; the program and the input are what they were. These
-- are the shelf before and after the first call, and before the second one.
pub record IsRepeated (words again : List (List ℕ)) (before left later : ShelfView) : Type 0 where
  pub program : Document
  pub packed : Document
  pub name : List ℕ
  pub image : Option (List ℕ)
  pub options : Options
  pub others : Options
  pub traces : asked words ≡ Some (trace_plan program packed name options)
  pub replays : asked again ≡ Some (replay_plan program packed name image others)
  pub source : List ℕ
  pub input : List ℕ
  pub journal : List ℕ
  pub source_is : bytes_in before.kept program ≡ Has source
  pub input_is : bytes_in before.kept packed ≡ Has input
  pub source_again : bytes_in later.kept program ≡ Has source
  pub input_again : bytes_in later.kept packed ≡ Has input
  pub journal_left : left.kept name ≡ Has journal
  pub journal_is : later.kept name ≡ Has journal
  pub short : length journal ≤ 16777216

-- No read of the three files failed in the second call, nor the write of an image, nor a put on `out`.
pub record NoneFails (program packed : Document) (name : List ℕ) (image : Option (List ℕ)) (later now : ShelfView) (out_later out_now : SinkView) : Type 0 where
  pub program_read : (file : List ℕ) → IsUnread later now program file → ⊥
  pub packed_read : (file : List ℕ) → IsUnread later now packed file → ⊥
  pub journal_read : Rose (later.reads name) (now.reads name) → ⊥
  pub image_written : (file : List ℕ) → image ≡ Some file → Rose (later.writes file) (now.writes file) → ⊥
  pub put : Rose out_later.faults out_now.faults → ⊥

-- The same text was put in both calls.
pub record PutAlike (out out_left out_later out_now : SinkView) (front front_later : List ℕ) : Type 0 where
  pub text : List ℕ
  pub put : out_left.taken ≡ Some (front ++ text)
  pub put_again : out_now.taken ≡ Some (front_later ++ text)
