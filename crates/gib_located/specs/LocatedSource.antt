-- What is printed of a source, and how a call ends.
use Rattle.std.specs.Prelude.{◌≡◌, ◌⊎◌, ℕ, List, [], ◌∷◌, Option, Some, None, Ok, codes}
use Rattle.gib_base.specs.Texts.{TextsView}
use Rattle.gib_syntax.specs.Tree.{ProgramTree}
use Rattle.gib_edge.specs.Views.{Call, ReadOf, Held, ShelfView, SinkView}
use Rattle.gib_edge.specs.Causes.{IsFrontOf, Appends, AppendsPart, Rose}
use Rattle.gib_core.specs.Tree.{CoreTree}
use Rattle.gib_local.specs.Building.{build_core}
use Rattle.gib_local_print.specs.HasText.{with_ends}
use Rattle.gib_local_print.specs.LocatedText.{located_text, located_tree}
use Rattle.gib_app.specs.Running.{IsProgram}
use Rattle.gib_app.specs.Cores.{core_after}
use Rattle.gib_types.specs.declared.access.FieldAccess.TheVariants as access
use Rattle.gib_app.specs.Lines.{line}
use Rattle.gib_app.specs.Stops.{IsCompileStop}
use Rattle.gib_app.specs.Stopping.{Answer, answer_for}
use Rattle.gib_app.specs.declared.status.Status.{Status}
use Rattle.gib_app.specs.declared.status.Status.TheVariants as status
use Rattle.gib_app.specs.declared.stop.Stop.TheVariants.{Usage, Source, Unread, Input, NoValue, Memory, Unwritten, Unput}
use Rattle.gib_located.specs.declared.located.Fault.{Fault}
use Rattle.gib_located.specs.declared.located.Fault.TheVariants as f

-- Where a core has a text, the tree whose tokens that text has makes it again, in which ends of values are told.
abbrev pub IsMadeAgain : CoreTree → Option (List ℕ) → Type 0
IsMadeAgain core None = Unit {0}
IsMadeAgain core (Some text) = build_core (located_tree core) ≡ Ok (with_ends core)

-- The source spells a typed program, and this is the text of the core that runs, where it has one.
pub record HasCoreText (source : List ℕ) (text : Option (List ℕ)) : Type 0 where
  pub names : TextsView
  pub program : ProgramTree
  pub is_program : IsProgram source names program
  pub is_text : located_text names.long (core_after access.Ends 3 program) ≡ text
  pub again : IsMadeAgain (core_after access.Ends 3 program) text

-- Why there is no text.
abbrev pub IsFault : List ℕ → Fault → Type 0
IsFault source (f.Stopped stop) = IsCompileStop source stop
IsFault source f.NoText = HasCoreText source None

-- The words name one file, which holds a source. One byte more is read than a source may have, so these are all of its bytes, or too many.
pub record IsRead (words : List (List ℕ)) (kept : List ℕ → Held) (source : List ℕ) : Type 0 where
  pub program : List ℕ
  pub name : List ℕ
  pub words_are : words ≡ program ∷ name ∷ []
  pub held : IsFrontOf (kept name) 1048577 source

-- The calls of the shelf that the words ask for: one read, where they name one file.
abbrev pub located_calls : List (List ℕ) → List Call
located_calls [] = []
located_calls (program ∷ []) = []
located_calls (program ∷ name ∷ []) = ReadOf name 1048577 ∷ []
located_calls (program ∷ name ∷ further ∷ rest) = []

-- The words name a source, and the text of its core was put.
pub record IsPrinted (words : List (List ℕ)) (kept : List ℕ → Held) (before now : Option (List ℕ)) : Type 0 where
  pub source : List ℕ
  pub read : IsRead words kept source
  pub text : List ℕ
  pub has_text : HasCoreText source (Some text)
  pub put : Appends before now text

-- Why the bytes of a source are not read: the count of its file rose. Want of memory is free.
abbrev pub IsUnreadSource : List ℕ → ShelfView → ShelfView → Fault → Type 0
IsUnreadSource file before now (f.Stopped (Unread name)) = (name.now ≡ file) × Rose (before.reads file) (now.reads file)
IsUnreadSource file before now (f.Stopped Memory) = Unit {0}
IsUnreadSource file before now (f.Stopped Usage) = ⊥
IsUnreadSource file before now (f.Stopped (Source fault)) = ⊥
IsUnreadSource file before now (f.Stopped (Input fault)) = ⊥
IsUnreadSource file before now (f.Stopped (NoValue reason)) = ⊥
IsUnreadSource file before now (f.Stopped (Unwritten name)) = ⊥
IsUnreadSource file before now (f.Stopped Unput) = ⊥
IsUnreadSource file before now f.NoText = ⊥

-- The sink refused the text of a source's core, of which it took a front.
pub record IsUnput (words : List (List ℕ)) (kept : List ℕ → Held) (before now : SinkView) : Type 0 where
  pub source : List ℕ
  pub read : IsRead words kept source
  pub text : List ℕ
  pub has_text : HasCoreText source (Some text)
  pub put : AppendsPart before.taken now.taken text
  pub rose : Rose before.faults now.faults

-- Why a call puts no text, or not all of it: each fault by its cause. Want of memory is free. Unless the sink refuses, nothing is put.
abbrev pub IsCallFault : List (List ℕ) → ShelfView → ShelfView → SinkView → SinkView → Fault → Type 0
IsCallFault words before now out_before out_now (f.Stopped Usage) = ((program name : List ℕ) → words ≡ program ∷ name ∷ [] → ⊥) × (out_now ≡ out_before)
IsCallFault words before now out_before out_now (f.Stopped (Source fault)) =
    (source : List ℕ) × IsRead words before.kept source × IsFault source (f.Stopped (Source fault)) × (out_now ≡ out_before)
IsCallFault words before now out_before out_now (f.Stopped (Unread name)) =
    (program : List ℕ) × (words ≡ program ∷ name.now ∷ []) × Rose (before.reads name.now) (now.reads name.now) × (out_now ≡ out_before)
IsCallFault words before now out_before out_now (f.Stopped Memory) = out_now ≡ out_before
IsCallFault words before now out_before out_now (f.Stopped Unput) = IsUnput words before.kept out_before out_now
IsCallFault words before now out_before out_now (f.Stopped (Input fault)) = ⊥
IsCallFault words before now out_before out_now (f.Stopped (NoValue reason)) = ⊥
IsCallFault words before now out_before out_now (f.Stopped (Unwritten name)) = ⊥
IsCallFault words before now out_before out_now f.NoText = (source : List ℕ) × IsRead words before.kept source × HasCoreText source None × (out_now ≡ out_before)

-- What is answered to a fault.
abbrev pub answer_for_fault : Fault → Answer
answer_for_fault (f.Stopped stop) = answer_for stop
answer_for_fault f.NoText = record { status = status.Source; said = codes "source: no LoCal text" }

-- How a call ends, and what it says: at `Done` the text was put, and nothing is said; else there is a fault, whose status and line these are.
abbrev pub IsEnd : List (List ℕ) → ShelfView → ShelfView → SinkView → SinkView → Status → List ℕ → Type 0
IsEnd words before now out_before out_now end said =
    ((end ≡ status.Done) × (said ≡ []) × IsPrinted words before.kept out_before.taken out_now.taken)
    ⊎ ((fault : Fault) × IsCallFault words before now out_before out_now fault × (end ≡ (answer_for_fault fault).status) × (said ≡ line (answer_for_fault fault).said))
