use Rattle.std.proofs.Common.{ap, ◌∙◌}
use Rattle.gib_syntax.specs.GenericParts.{GenericParts}
use Rattle.gib_check.specs.NameViews.{variables_at}
use Rattle.gib_mono.proofs.source.Source.variables.Goals as goal

pub returns : goal.returns
returns c = c.variables.ensures ∙ ap (λ (p : GenericParts). variables_at p.datas c.args.place) c.self.view_is
