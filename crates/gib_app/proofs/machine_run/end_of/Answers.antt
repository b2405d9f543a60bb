use Rattle.std.proofs.Common.{◌≡◌, ℕ, Result, MatchResult, subst}
use Rattle.gib_types.specs.Tree.{Datum}
use Rattle.gib_mem.specs.Memory.{Memory}
use Rattle.gib_packed.specs.declared.root.Root.{Root}
use Rattle.gib_core.specs.LoweredParts.{LoweredParts}
use Rattle.gib_core.specs.Meaning.{core_run}
use Rattle.gib_core.specs.Parts.{core_of}
use Rattle.gib_types.specs.declared.reason.Reason.{Reason}
use Rattle.gib_syntax.specs.Meaning.{Stops}
use Rattle.gib_app.specs.MachineRun.{IsRootOf}
use Rattle.gib_app.proofs.Roots.{answer_ends}
use Rattle.gib_app.proofs.machine_run.end_of.Goals as goal

abbrev Ends : LoweredParts → ℕ → Datum → Memory → Result Root Reason → Type 0
Ends l depth v m found =
    MatchResult found (IsRootOf l.code.laid m.cells (core_of l.core).main.result (core_run (core_of l.core) depth v)) (λ why. core_run (core_of l.core) depth v ≡ Stops why)

pub returns-in-Ok-root_in : goal.returns-in-Ok-root_in
returns-in-Ok-root_in c = λ l depth forks v m m' h. subst (Ends l depth v m') c.in-Ok-root_in.is (answer_ends l depth forks v m m' c.args.end c.in-Ok.answer c.root_in.result c.in-Ok.is c.root_in.ensures h)

pub returns-in-Err : goal.returns-in-Err
returns-in-Err c = λ l depth forks v m m' h. subst (Ends l depth v m') c.in-Err.is (answer_ends l depth forks v m m' c.args.end c.in-Ok.answer c.root_in.result c.in-Ok.is c.root_in.ensures h)
