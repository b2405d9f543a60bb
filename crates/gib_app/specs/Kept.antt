-- What the code keeps of an input, and of what a job made.
use Rattle.std.specs.Prelude.{◌≡◌, ℕ, List, Option, None, option_map, option_to_list}
use Rattle.gib_value.specs.Text.{AreHeld}
use Rattle.gib_base.specs.Texts.{TextsView}
use Rattle.gib_syntax.specs.Parts.{program_of}
use Rattle.gib_syntax.specs.Tree.{ProgramTree}
use Rattle.gib_app.specs.declared.made.End.{End as KeptEnd}
use Rattle.gib_app.specs.declared.made.End.TheVariants as ends
use Rattle.gib_app.specs.declared.jobs.Given.{Given}
use Rattle.gib_app.specs.declared.request.Request.{Request}
use Rattle.gib_app.specs.declared.stop.Stop.{Stop}
use Rattle.gib_app.specs.declared.made.Made.{Made}
use Rattle.gib_app.specs.declared.made.Valued.{Valued}
use Rattle.gib_app.specs.declared.inputs.Input.{Input as KeptInput}
use Rattle.gib_app.specs.Formats.{Input}
use Rattle.gib_words.specs.Plan.{Contents}
use Rattle.gib_app.specs.Jobs.{End, Prints, NoValue}
use Rattle.gib_mem.specs.Memory.{Grows}
use Rattle.gib_arena.specs.Sole.{sole_memory}
use Rattle.gib_app.specs.MachineRun.{IsMeantBy, cells_of}
use Rattle.gib_app.specs.Cores.{layouts_asked}
use Rattle.gib_app.specs.Running.{IsShown, text_line}
use Rattle.gib_app.specs.Stops.{IsPackStop, IsShowStop}
use Rattle.gib_words.specs.Kept.{document_of}

-- The input.
abbrev pub input_of : KeptInput → Input
input_of input = record { document = document_of input.document; most = input.most }

-- The bytes of the inputs.
abbrev pub contents_of : Given → Contents
contents_of given = record { second = given.second.now; further = option_to_list (option_map (λ bytes. bytes.now) given.journal) }

-- The program of a request.
abbrev pub tree_in : Request → ProgramTree
tree_in request = program_of request.compiled.now.typed

-- The texts of its names.
abbrev pub names_in : Request → TextsView
names_in request = request.compiled.now.names

-- The bytes of its inputs.
abbrev pub inputs_in : Request → Contents
inputs_in request = record { second = request.input.now; further = option_to_list (option_map (λ bytes. bytes.now) request.journal) }

-- The text of the value of its file, with a line feed.
abbrev pub IsShownFor : Request → List ℕ → Type 0
IsShownFor request = IsShown (tree_in request) (names_in request) (layouts_asked request.options (tree_in request)) request.input.now

-- Why its file is not shown.
abbrev pub StopsShow : Request → Stop → Type 0
StopsShow request = IsShowStop (tree_in request) (names_in request) (layouts_asked request.options (tree_in request)) request.input.now

-- Why no packed file is made.
abbrev pub StopsPack : Request → Stop → Type 0
StopsPack request = IsPackStop request.options.repacks request.options.first_version (tree_in request) (names_in request) request.input.now

-- The file that a job made.
abbrev pub file_of : Made → Option (List ℕ)
file_of made = option_map (λ bytes. bytes.items) made.file

-- The packed file of the result of a job.
abbrev pub packed_of : Made → Option (List ℕ)
packed_of made = option_map (λ bytes. bytes.items) made.packed

-- The text of a value in region memory, with a line feed: the value stands for the root, and some program means it on some input.
pub record IsTextOf (value : Valued) (text : List ℕ) : Type 0 where
  pub program : ProgramTree
  pub depth : ℕ
  pub input : List ℕ
  pub stands : IsMeantBy program value.names depth input value.ran
  pub held : AreHeld value.ran.lowered.code.laid.table value.names.short
  pub is_text : text ≡ text_line program value.names stands.result

-- This holds of the file that a job made, or none, and of how it ends. What is printed from region memory goes with no file, since
-- memory may run out while it is printed.
abbrev pub EndsBy : Option (List ℕ) → KeptEnd → (Option (List ℕ) → End → Type 0) → Type 0
EndsBy file (ends.Prints text) P = P file (Prints text.items)
EndsBy file (ends.Value value) P = (file ≡ None) × (text : List ℕ) × IsTextOf value text × P file (Prints text)
EndsBy file (ends.NoValue reason) P = P file (NoValue reason)

-- The same of both files of a job.
abbrev pub EndsByBoth : (file packed : Option (List ℕ)) → KeptEnd → (Option (List ℕ) → Option (List ℕ) → End → Type 0) → Type 0
EndsByBoth file packed (ends.Prints text) P = P file packed (Prints text.items)
EndsByBoth file packed (ends.Value value) P = (file ≡ None) × (packed ≡ None) × (text : List ℕ) × IsTextOf value text × P file packed (Prints text)
EndsByBoth file packed (ends.NoValue reason) P = P file packed (NoValue reason)

-- It is the same value with the same names: its memory knows all that it knew, and has no more chunks than it had.
pub record StandsAgain (old new : Valued) : Type 0 where
  pub names : new.names ≡ old.names
  pub lowered : new.ran.lowered ≡ old.ran.lowered
  pub root : new.ran.root ≡ old.ran.root
  pub known : Grows (cells_of old.ran.memory) (cells_of new.ran.memory)
  pub limit : (sole_memory new.ran.memory).limit ≡ (sole_memory old.ran.memory).limit
