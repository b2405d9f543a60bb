use Rattle.std.proofs.Common.{◌≡◌, subst}
use Rattle.gib_check.specs.Faults.{row_named}
use Rattle.gib_check.specs.NameViews.{row_option}
use Rattle.gib_mono.specs.Sources.{globals_in}
use Rattle.gib_mono.proofs.source.Source.row.Goals as goal

pub returns : goal.returns
returns c = subst (λ p. row_option p c.row.result ≡ row_named (globals_in p).rows c.args.name.0) c.self.view_is c.row.ensures.row
