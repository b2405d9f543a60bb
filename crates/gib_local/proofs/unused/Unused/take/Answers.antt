use Rattle.std.proofs.Common.{List, reverse, ap, ◌∙◌}
use Rattle.gib_local.specs.Building.{without}
use Rattle.gib_local.proofs.Scoping.{without_reverse}
use Rattle.gib_local.proofs.unused.Unused.take.Goals as goal

pub returns : goal.returns
returns c =
    ap reverse (c.in_ok-left.ensures ∙ ap (without c.args.region) c.deref.ensures.value) ∙ without_reverse c.args.region c.self.inside.regions.items ∙ ap (without c.args.region) c.self.view_is
