-- What a run leaves in region memory, and that what a job makes comes from there.
use Rattle.gib_base.specs.Texts.{TextsView}
use Rattle.std.specs.Prelude.{◌≡◌, ◌≤◌, ⊤, ℕ, List, Option, MatchOption}
use Rattle.gib_arena.specs.Sole.{sole_memory}
use Rattle.gib_core.specs.Tree.{CoreTree}
use Rattle.gib_gen.specs.Summary.{summary_line}
use Rattle.gib_lower.specs.Lowering.{lower_program}
use Rattle.gib_mem.specs.Memory.{Memory, IsBounded}
use Rattle.gib_packed.specs.declared.root.Root.{Root}
use Rattle.gib_syntax.specs.Declarations.{output_type}
use Rattle.gib_syntax.specs.Tree.{ProgramTree}
use Rattle.gib_app.specs.declared.made.End.{End as KeptEnd}
use Rattle.gib_app.specs.declared.made.End.TheVariants as ends
use Rattle.gib_app.specs.declared.made.Reason.TheVariants.{Meant, Full, Long}
use Rattle.gib_app.specs.declared.made.Valued.{Valued}
use Rattle.gib_words.specs.declared.plan.Options.{Options}
use Rattle.gib_app.specs.Cores.{core_asked, layouts_asked}
use Rattle.gib_app.specs.MachineRun.{IsMeantBy, StandsMeant}
use Rattle.gib_app.specs.Replaying.{IsImageFile}
use Rattle.gib_app.specs.Rows.{Row, Evaluates, ForFiles, ForSummary, ForPlaces}
use Rattle.gib_app.specs.Running.{Program, text_line}

-- In a memory of no more chunks than are asked for, the value that the program means on the input stands for the root, with heads that lie as
-- those of the program's core.
pub record Remains (p : ProgramTree) (names : TextsView) (options : Options) (input : List ℕ) (memory : Memory) (place : Root) : Type 0 where
  pub stands : StandsMeant p names options.depth input (layouts_asked options p) memory.cells place
  pub bounded : IsBounded memory
  pub limit : memory.limit ≤ options.chunks

-- That memory as the code of the program's core left it, with its root.
pub record IsLeft (p : ProgramTree) (names : TextsView) (options : Options) (input : List ℕ) (value : Valued) : Type 0 where
  pub code : value.ran.lowered.code ≡ lower_program (core_asked options p)
  pub remains : Remains p names options input (sole_memory value.ran.memory) value.ran.root

-- The text is that of the value in such a memory; where an image is asked for, the file is that of this very memory.
pub record IsShownOf (p : ProgramTree) (names : TextsView) (options : Options) (input : List ℕ) (file : Option (List ℕ)) (text : List ℕ) : Type 0 where
  pub memory : Memory
  pub place : Root
  pub remains : Remains p names options input memory place
  pub is_text : text ≡ text_line p names remains.stands.result
  pub is_file : IsImageFile options.image (layouts_asked options p) (output_type p) memory place remains.stands.result file

-- Where an image is asked for, the file is that of such a memory.
pub record IsImagedOf (p : ProgramTree) (names : TextsView) (options : Options) (input : List ℕ) (file : Option (List ℕ)) : Type 0 where
  pub memory : Memory
  pub place : Root
  pub remains : Remains p names options input memory place
  pub is_file : IsImageFile options.image (layouts_asked options p) (output_type p) memory place remains.stands.result file

-- What a run makes comes from the region memory that it left: the value is printed from there; or its text was made before a file is
-- written, and then an image is of that memory, as it is where the packed file of the value would be too long.
abbrev pub ComesOfMemory : ProgramTree → TextsView → Options → List ℕ → Option (List ℕ) → KeptEnd → Type 0
ComesOfMemory p names options input file (ends.Prints text) = IsShownOf p names options input file text.items
ComesOfMemory p names options input file (ends.Value value) = IsLeft p names options input value
ComesOfMemory p names options input file (ends.NoValue (Meant why)) = ⊤
ComesOfMemory p names options input file (ends.NoValue Full) = ⊤
ComesOfMemory p names options input file (ends.NoValue Long) = IsImagedOf p names options input file

-- The line is about the value in such a memory.
pub record IsSummedOf (p : ProgramTree) (names : TextsView) (options : Options) (input : List ℕ) (text : List ℕ) : Type 0 where
  pub memory : Memory
  pub place : Root
  pub remains : Remains p names options input memory place
  pub is_line : text ≡ summary_line options.number options.levels remains.stands.result

-- What is printed about a value is about one in such a memory.
abbrev pub SumsMemory : ProgramTree → TextsView → Options → List ℕ → KeptEnd → Type 0
SumsMemory p names options input (ends.Prints text) = IsSummedOf p names options input text.items
SumsMemory p names options input (ends.Value value) = ⊥
SumsMemory p names options input (ends.NoValue reason) = ⊤

-- In a memory of no more chunks than are asked for, as the code of a core that is written out left it, what the program means stands for the root.
pub record IsLeftBy (core : CoreTree) (p : ProgramTree) (names : TextsView) (options : Options) (input : List ℕ) (value : Valued) : Type 0 where
  pub code : value.ran.lowered.code ≡ lower_program core
  pub stands : IsMeantBy p names options.depth input value.ran
  pub limit : (sole_memory value.ran.memory).limit ≤ options.chunks

-- A value is printed from the memory that the code of the program's own core left.
abbrev pub ComesOfCore : Program → TextsView → Options → List ℕ → KeptEnd → Type 0
ComesOfCore p names options input (ends.Prints text) = ⊥
ComesOfCore p names options input (ends.Value value) = MatchOption p.located ⊥ (λ core. IsLeftBy core p.tree names options input value)
ComesOfCore p names options input (ends.NoValue reason) = ⊤

-- What a job makes that evaluates a program in region memory, without a journal, comes from there; of other jobs nothing is said.
abbrev pub ComesOfRun : Row → Program → TextsView → Options → List ℕ → Option (List ℕ) → KeptEnd → Type 0
ComesOfRun (Evaluates ForFiles) p names options input file end = ComesOfMemory p.tree names options input file end
ComesOfRun (Evaluates ForSummary) p names options input file end = SumsMemory p.tree names options input end
ComesOfRun (Evaluates ForPlaces) p names options input file end = ComesOfCore p names options input end
ComesOfRun other p names options input file end = ⊤
