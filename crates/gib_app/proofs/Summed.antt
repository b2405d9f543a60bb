-- The line about what a run leaves.
use Rattle.gib_base.specs.Texts.{TextsView}
use Rattle.std.proofs.Common.{◌≡◌, refl, ℕ, List, None}
use Rattle.gib_types.specs.Layout.{LaidOut}
use Rattle.gib_mem.specs.Memory.{Store}
use Rattle.gib_packed.specs.declared.root.Root.{Root}
use Rattle.gib_syntax.specs.Tree.{ProgramTree}
use Rattle.gib_gen.specs.Summary.{summary_line}
use Rattle.gib_words.specs.declared.plan.Options.{Options}
use Rattle.gib_app.specs.Jobs.{Prints, Sums}
use Rattle.gib_app.specs.MachineRun.{StandsMeant}

pub summed : {names : TextsView} (p : ProgramTree) (o : Options) (input line : List ℕ) (laid : LaidOut) (s : Store) (place : Root) (m : StandsMeant p names o.depth input laid s place) → line ≡ summary_line o.number o.levels m.result → Sums p names o input None (Prints line)
summed p o input line laid s place m e = (refl, record { value = m.value; result = m.result; is_input = m.is_input; means = m.means; is_line = e })
