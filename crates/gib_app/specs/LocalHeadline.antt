-- What a call of `local` promises, in the fewest words.
use Rattle.std.specs.Prelude.{◌≡◌, ◌≤◌, Bool, ℕ, List, [], ◌∷◌, ◌++◌, length, None, Some}
use Rattle.gib_types.specs.Tree.{Datum}
use Rattle.gib_value.specs.Text.{text}
use Rattle.gib_file.specs.Framed.{File}
use Rattle.gib_syntax.specs.Tree.{ProgramTree}
use Rattle.gib_syntax.specs.Declarations.{table_of_program, input_type}
use Rattle.gib_syntax.specs.Meaning.{Reason, Outcome, Gives, Stops, run}
use Rattle.gib_edge.specs.Causes.{Rose}
use Rattle.gib_edge.specs.Views.{Has, ShelfView, SinkView}
use Rattle.gib_core.specs.Cost.{run_cost}
use Rattle.gib_core.specs.Erasing.{erase_core}
use Rattle.gib_core.specs.Marking.{mark_core}
use Rattle.gib_core.specs.Tight.{Tight}
use Rattle.gib_core.specs.Tree.{CoreTree}
use Rattle.gib_local.specs.Counting.{broken_text}
use Rattle.gib_local.specs.Local.{Local}
use Rattle.gib_words.specs.declared.plan.Job.TheVariants.{Local as RunLocated}
use Rattle.gib_words.specs.declared.plan.Options.{Options}
use Rattle.gib_words.specs.Plan.{Document, Plan, bytes_in}
use Rattle.gib_words.specs.Words.{asked}
use Rattle.gib_app.specs.Causes.{IsUnread}

-- To run the program of one document, which writes its places out, on the packed value of another.
abbrev pub local_plan : Document → Document → Options → Plan
local_plan program packed options =
    record { first = []; source = program; inputs = packed ∷ []; target = None; pack = None; job = RunLocated; options = options }

-- The words ask for that, within a depth of calls and a number of chunks. These are the bytes of both documents, and those that `out` has
-- taken so far.
pub record IsLocalRun (words : List (List ℕ)) (files : ShelfView) (out : SinkView) (source input : List ℕ) (options : Options) (front : List ℕ) : Type 0 where
  pub program : Document
  pub packed : Document
  pub asks : asked words ≡ Some (local_plan program packed options)
  pub source_is : bytes_in files.kept program ≡ Has source
  pub input_is : bytes_in files.kept packed ≡ Has input
  pub front_is : out.taken ≡ Some front

-- The bytes are a text that writes its places out, and make a core that breaks no build rule.
pub record MakesCore (source : List ℕ) : Type 0 where
  pub core : CoreTree
  pub local : Local source core
  pub built : broken_text local.tree core ≡ None

-- What is left of the core without its places: a program of the source language.
abbrev pub program_in : {source : List ℕ} → MakesCore source → ProgramTree
program_in made = erase_core made.local.tree.datas made.core

-- The source makes such a core, and the input is the packed file of a value of the type of main's parameter.
pub record LocalGiven (source input : List ℕ) : Type 0 where
  pub made : MakesCore source
  pub value : Datum
  pub short : length input ≤ 16777216
  pub file : File (table_of_program (program_in made)) made.local.lexed.names (input_type (program_in made)) value input

-- What is left of the core without its places means this on the input within the depth.
abbrev pub local_meant : {source input : List ℕ} → LocalGiven source input → ℕ → Outcome
local_meant given depth = run (program_in given.made) depth given.value

-- It means a value, and this is its text with a line feed.
pub record IsLocalResult (source input : List ℕ) (depth : ℕ) (output : List ℕ) : Type 0 where
  pub given : LocalGiven source input
  pub result : Datum
  pub means : local_meant given depth ≡ Gives result
  pub is_text : output ≡ text (table_of_program (program_in given.made)) given.made.local.lexed.names result ++ 10 ∷ []

-- It means no value, for this reason.
pub record HasNoLocalResult (source input : List ℕ) (depth : ℕ) (why : Reason) : Type 0 where
  pub given : LocalGiven source input
  pub means : local_meant given depth ≡ Stops why

-- So many chunks may not be enough for what the run of this core costs, where so many calls and forks may be nested. Marks tell which sides
-- may run at the same time.
pub record IsLocalTooBig (source input : List ℕ) (depth forks chunks : ℕ) : Type 0 where
  pub given : LocalGiven source input
  pub tight : Tight chunks (run_cost (mark_core given.made.core) depth forks given.value)

-- No read of the two documents failed in the call, nor a put on `out`.
pub record NoReadFailed (program packed : Document) (before now : ShelfView) (out_before out_now : SinkView) : Type 0 where
  pub program_read : (name : List ℕ) → IsUnread before now program name → ⊥
  pub packed_read : (name : List ℕ) → IsUnread before now packed name → ⊥
  pub put : Rose out_before.faults out_now.faults → ⊥
