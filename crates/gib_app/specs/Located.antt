-- What a source that writes its places out leaves, and why it leaves nothing.
use Rattle.std.specs.Prelude.{◌≡◌, ℕ, List, Some}
use Rattle.gib_base.specs.Texts.{TextsView}
use Rattle.gib_base.specs.declared.token.Dialect.TheVariants.{Located}
use Rattle.gib_core.specs.Numbering.{AreNumbered}
use Rattle.gib_core.specs.Tree.{CoreTree}
use Rattle.gib_app.specs.declared.stop.Stop.{Stop}
use Rattle.gib_app.specs.MachineRun.{RunsFor}
use Rattle.gib_app.specs.Running.{Program, IsLocated, IsNoProgramIn}
use Rattle.gib_app.specs.SourceFaults.{IsLocatedFault}
use Rattle.gib_app.specs.Stops.{StopsBy}

-- The source writes out this core, which runs in the place of its program. Its variables are numbered in the order of the text.
pub record IsWritten (source : List ℕ) (core : CoreTree) (texts : TextsView) : Type 0 where
  pub program : Program
  pub is_program : IsLocated source texts program
  pub located : program.located ≡ Some core
  pub runs : RunsFor core program.tree texts
  pub numbered : AreNumbered core

-- Why a source writes no core out.
abbrev pub IsLocatedStop : List ℕ → Stop → Type 0
IsLocatedStop source = StopsBy (λ fault. IsLocatedFault source fault × IsNoProgramIn Located source) (λ name. ⊥) (λ fault. ⊥) (λ reason. ⊥) (λ name. ⊥)
