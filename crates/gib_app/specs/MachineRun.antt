-- What a run of the machine on a packed file leaves: a root in region memory, or why there is none.
use Rattle.gib_base.specs.Texts.{TextsView}
use Rattle.std.specs.Prelude.{◌≡◌, ℕ, List, Result, Ok, Err, MatchResult, ⊤}
use Rattle.gib_types.specs.declared.table.Ty.{Ty}
use Rattle.gib_types.specs.Layout.{LaidOut}
use Rattle.gib_types.specs.Tree.{Datum}
use Rattle.gib_value.specs.Text.{AreHeld}
use Rattle.gib_mem.specs.Memory.{Memory, Store}
use Rattle.gib_arena.specs.Sole.{sole_memory}
use Rattle.gib_arena.specs.declared.sole_mem.SoleMem.{SoleMem}
use Rattle.gib_packed.specs.Stands.{Stands}
use Rattle.gib_packed.specs.declared.root.Root.{Root}
use Rattle.gib_syntax.specs.Tree.{ProgramTree}
use Rattle.gib_syntax.specs.Declarations.{table_of_program, input_type, output_type}
use Rattle.gib_syntax.specs.Meaning.{Outcome, Gives, Stops, run}
use Rattle.gib_core.specs.Cost.{Cost, run_cost}
use Rattle.gib_core.specs.LoweredParts.{LoweredParts}
use Rattle.gib_core.specs.Meaning.{core_run}
use Rattle.gib_core.specs.Parts.{core_of}
use Rattle.gib_core.specs.Tight.{Tight}
use Rattle.gib_core.specs.Tree.{CoreTree}
use Rattle.gib_app.specs.declared.made.Reason.{Reason}
use Rattle.gib_app.specs.declared.made.Reason.TheVariants as reason
use Rattle.gib_app.specs.declared.machine_run.Ran.{Ran}
use Rattle.gib_app.specs.declared.machine_run.Rooted.{Rooted}
use Rattle.gib_app.specs.declared.machine_run.RunEnd.{RunEnd}
use Rattle.gib_app.specs.declared.machine_run.RunEnd.TheVariants as ends
use Rattle.gib_app.specs.declared.machine_run.RunStop.{RunStop}
use Rattle.gib_app.specs.declared.machine_run.RunStop.TheVariants as stop
use Rattle.gib_app.specs.declared.made.Valued.{Valued}
use Rattle.gib_app.specs.declared.stop.Stop.{Stop}
use Rattle.gib_app.specs.declared.stop.Stop.TheVariants.{Memory as Wanted}
use Rattle.gib_app.specs.Cores.{core_asked}
use Rattle.gib_app.specs.Running.{IsInput, MeansNone, FillsUpBy}
use Rattle.gib_words.specs.declared.plan.Options.{Options}

-- The bytes of a memory.
abbrev pub cells_of : SoleMem → Store
cells_of m = (sole_memory m).cells

-- The program means a value on the input within the depth, and in region memory that value stands for the root.
pub record StandsMeant (p : ProgramTree) (names : TextsView) (depth : ℕ) (input : List ℕ) (laid : LaidOut) (s : Store) (place : Root) : Type 0 where
  pub value : Datum
  pub result : Datum
  pub is_input : IsInput p names value input
  pub means : run p depth value ≡ Gives result
  pub table : laid.table ≡ table_of_program p
  pub stands : Stands laid s place (output_type p) result

-- So it is of what was run by this code, in this memory.
abbrev pub StandsIn : ProgramTree → TextsView → (depth : ℕ) → (input : List ℕ) → LoweredParts → Memory → Root → Type 0
StandsIn p names depth input l memory place = StandsMeant p names depth input l.code.laid memory.cells place

-- So it is of some program and some input.
pub record SomeStandsIn (names : TextsView) (l : LoweredParts) (memory : Memory) (place : Root) : Type 0 where
  pub program : ProgramTree
  pub depth : ℕ
  pub input : List ℕ
  pub meant : StandsIn program names depth input l memory place

-- What a run left is what the program means.
abbrev pub IsMeantBy : ProgramTree → TextsView → (depth : ℕ) → (input : List ℕ) → Ran SoleMem → Type 0
IsMeantBy p names depth input ran = StandsIn p names depth input ran.lowered (sole_memory ran.memory) ran.root

-- A value is what some program means.
abbrev pub IsMeant : Valued → Type 0
IsMeant value = SomeStandsIn value.names value.ran.lowered (sole_memory value.ran.memory) value.ran.root

-- It is one whose results have this type.
abbrev pub IsMeantAs : Ty → Valued → Type 0
IsMeantAs ty value = (m : IsMeant value) × (ty ≡ output_type m.program)

-- What a run of a program on a value costs at most, where so many calls and forks may be nested: that of the core that the passes make.
abbrev pub program_cost : ProgramTree → Options → (forks : ℕ) → Datum → Cost
program_cost p options forks v = run_cost (core_asked options p) options.depth forks v

-- Why a program has no value on an input by a run of this core: it means none, for a reason, or so many chunks may not be enough.
abbrev pub LacksValueBy : CoreTree → ProgramTree → TextsView → (depth forks chunks : ℕ) → (input : List ℕ) → Reason → Type 0
LacksValueBy core p names depth forks chunks input (reason.Meant why) = MeansNone p names depth input why
LacksValueBy core p names depth forks chunks input reason.Full = FillsUpBy core p names depth forks chunks input
LacksValueBy core p names depth forks chunks input reason.Long = ⊥

-- The same by the core that the passes make.
abbrev pub LacksValue : ProgramTree → TextsView → Options → (forks : ℕ) → (input : List ℕ) → Reason → Type 0
LacksValue p names options forks input = LacksValueBy (core_asked options p) p names options.depth forks options.chunks input

-- This core can run in a program's place: its values are of the program's types, and it means what the program means. The names of the
-- program's constructors are there.
pub record RunsFor (core : CoreTree) (p : ProgramTree) (names : TextsView) : Type 0 where
  pub table : core.table ≡ table_of_program p
  pub parameter : core.main.parameter ≡ input_type p
  pub result : core.main.result ≡ output_type p
  pub means : (depth : ℕ) (v : Datum) → core_run core depth v ≡ run p depth v
  pub held : AreHeld (table_of_program p) names.short

-- A value was owed, and in region memory it stands for the root.
pub record IsRootOf (laid : LaidOut) (s : Store) (ty : Ty) (owed : Outcome) (place : Root) : Type 0 where
  pub result : Datum
  pub means : owed ≡ Gives result
  pub stands : Stands laid s place ty result

-- Why there is no value, where this outcome was owed, and the run costs so much at most.
abbrev pub Lacks : Outcome → (chunks : ℕ) → Cost → Reason → Type 0
Lacks owed chunks most (reason.Meant why) = owed ≡ Stops why
Lacks owed chunks most reason.Full = Tight chunks most
Lacks owed chunks most reason.Long = ⊥

-- Why a run leaves no root, where this outcome was owed, and the run costs so much at most.
abbrev pub Halts : Outcome → (chunks : ℕ) → Cost → RunStop → Type 0
Halts owed chunks most (stop.NoValue why) = Lacks owed chunks most why
Halts owed chunks most stop.Memory = Unit {0}

-- How a run of code on a value ends, where there are so many chunks: with a root in region memory for what its core means, or
-- with why there is none.
abbrev pub EndsWith : LoweredParts → (depth forks chunks : ℕ) → Datum → Store → Result Root RunStop → Type 0
EndsWith l depth forks chunks v s end =
    MatchResult end (IsRootOf l.code.laid s (core_of l.core).main.result (core_run (core_of l.core) depth v))
    (Halts (core_run (core_of l.core) depth v) chunks (run_cost (core_of l.core) depth forks v))

-- What a run of code leaves, on each of these values: a root in region memory for what its core means.
abbrev pub LeavesRoot : LoweredParts → (depth : ℕ) → (Datum → Type 0) → Rooted → Type 0
LeavesRoot l depth IsGiven left =
    (v : Datum) → IsGiven v → IsRootOf l.code.laid (cells_of left.memory) (core_of l.core).main.result (core_run (core_of l.core) depth v) left.root

-- Why it leaves none, where there are so many chunks.
abbrev pub LeavesNone : LoweredParts → (depth forks chunks : ℕ) → (Datum → Type 0) → RunStop → Type 0
LeavesNone l depth forks chunks IsGiven why =
    (v : Datum) → IsGiven v → Halts (core_run (core_of l.core) depth v) chunks (run_cost (core_of l.core) depth forks v) why

-- How the run of a program ends whose code was run so.
abbrev pub ended : LoweredParts → Result Rooted RunStop → Result RunEnd Stop
ended l (Ok left) = Ok (ends.Value (record { lowered = l; memory = left.memory; root = left.root }))
ended l (Err (stop.NoValue why)) = Ok (ends.NoValue why)
ended l (Err stop.Memory) = Err Wanted

-- This holds of what the run of a program leaves, and that of the reason why there is no value.
abbrev pub OnEnd : (Ran SoleMem → Type 0) → (Reason → Type 0) → RunEnd → Type 0
OnEnd P Q (ends.Value ran) = P ran
OnEnd P Q (ends.NoValue why) = Q why

-- This holds of what it leaves.
abbrev pub OnRan : (Ran SoleMem → Type 0) → RunEnd → Type 0
OnRan P = OnEnd P (λ why. ⊤)

-- What a run of a program by this core leaves is what it means, or there is none for this reason.
abbrev pub IsRunEnd : CoreTree → ProgramTree → TextsView → (depth forks chunks : ℕ) → (input : List ℕ) → RunEnd → Type 0
IsRunEnd core p names depth forks chunks input = OnEnd (IsMeantBy p names depth input) (LacksValueBy core p names depth forks chunks input)
