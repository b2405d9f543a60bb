use Rattle.std.proofs.Common.{◌≡◌, subst}
use Rattle.std.specs.Prelude.{IfOk}
use Rattle.gib_core.specs.CoreText.{core_text as text_of_core}
use Rattle.gib_core.specs.Tree.{CoreTree}
use Rattle.gib_app.proofs.jobs.core_text.print_after.Goals as goal

pub returns : goal.returns
returns c = subst (λ (x : CoreTree). IfOk c.print_core.result (λ text. text.items ≡ text_of_core c.args.request.compiled.now.names.long x)) c.in_ok-core.ensures c.print_core.ensures
