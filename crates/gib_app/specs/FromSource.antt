-- What a source leaves, and what a job makes of it and of its inputs.
use Rattle.std.specs.Prelude.{◌≡◌, ℕ, List, Some}
use Rattle.gib_base.specs.Texts.{TextsView}
use Rattle.gib_base.specs.declared.token.Dialect.{Dialect}
use Rattle.gib_base.specs.declared.token.Dialect.TheVariants.{Source, Located}
use Rattle.gib_syntax.specs.Parts.{program_of}
use Rattle.gib_core.specs.Numbering.{AreNumbered}
use Rattle.gib_core.specs.Parts.{core_of}
use Rattle.gib_app.specs.declared.compile.Compiled.{Compiled}
use Rattle.gib_app.specs.declared.located.LocatedCore.{LocatedCore}
use Rattle.gib_app.specs.declared.made.Made.{Made}
use Rattle.gib_app.specs.declared.make.Taken.{Taken}
use Rattle.gib_app.specs.declared.make.Taken.TheVariants as taken
use Rattle.gib_app.specs.declared.stop.Stop.{Stop}
use Rattle.gib_app.specs.Causes.{AreGiven}
use Rattle.gib_app.specs.Formats.{inputs_of}
use Rattle.gib_app.specs.Jobs.{DoesAll}
use Rattle.gib_app.specs.Kept.{EndsByBoth, file_of, packed_of}
use Rattle.gib_app.specs.Located.{IsLocatedStop}
use Rattle.gib_app.specs.MachineRun.{RunsFor}
use Rattle.gib_words.specs.Plan.{Contents, Files, Plan}
use Rattle.gib_app.specs.Remains.{ComesOfRun}
use Rattle.gib_app.specs.Rows.{row}
use Rattle.gib_app.specs.Running.{Program, IsProgramIn, sourced}
use Rattle.gib_app.specs.Stops.{IsCompileStop, IsReady}

-- What was compiled is this program with these names, and ready to be run.
pub record IsCompiled (compiled : Compiled) (p : Program) (names : TextsView) : Type 0 where
  pub program : p ≡ sourced (program_of compiled.typed)
  pub texts : names ≡ compiled.names
  pub ready : IsReady (program_of compiled.typed) compiled.names

-- The core runs in the place of this program with these names, and its variables are numbered in the order of the text.
pub record IsLocatedCore (located : LocatedCore) (p : Program) (names : TextsView) : Type 0 where
  pub core : p.located ≡ Some (core_of located.core)
  pub texts : names ≡ located.names
  pub runs : RunsFor (core_of located.core) p.tree located.names
  pub numbered : AreNumbered (core_of located.core)

-- What a source of this dialect left stands for this program with these names.
abbrev pub StandsFor : Dialect → Taken → Program → TextsView → Type 0
StandsFor Source (taken.Program compiled) p names = IsCompiled compiled p names
StandsFor Source (taken.Core located) p names = ⊥
StandsFor Located (taken.Program compiled) p names = ⊥
StandsFor Located (taken.Core located) p names = IsLocatedCore located p names

-- The source is a program in the dialect, and it left what stands for it.
pub record IsTaken (dialect : Dialect) (left : Taken) (source : List ℕ) : Type 0 where
  pub program : Program
  pub names : TextsView
  pub is_program : IsProgramIn dialect source names program
  pub stands : StandsFor dialect left program names

-- Why the bytes of a source leave nothing.
abbrev pub IsTakingStop : Dialect → List ℕ → Stop → Type 0
IsTakingStop Source source = IsCompileStop source
IsTakingStop Located source = IsLocatedStop source

-- The job of a plan was done, for this program, with the bytes of its inputs; where it ran in region memory, what it made comes from there.
pub record IsFinished (kept : Files) (plan : Plan) (p : Program) (names : TextsView) (made : Made) : Type 0 where
  pub given : Contents
  pub given_held : AreGiven kept (inputs_of plan) given
  pub done : EndsByBoth (file_of made) (packed_of made) made.end (DoesAll plan.job plan.options p names given)
  pub comes : ComesOfRun (row plan.job) p names plan.options given.second (file_of made) made.end
