use Rattle.std.proofs.Common.{ap, ◌∙◌}
use Rattle.gib_syntax.specs.GenericTree.{place_named}
use Rattle.gib_mono.specs.Copying.{owner_at_row}
use Rattle.gib_mono.specs.Sources.{globals_in}
use Rattle.gib_mono.proofs.Sourcing.{owner_row}
use Rattle.gib_mono.proofs.source.Source.owner.Goals as goal

pub returns-in-Some : goal.returns-in-Some
returns-in-Some c = let rows = (globals_in c.args.self.now).rows in ap owner_at_row c.in-Some.ensures ∙ owner_row rows (place_named rows c.args.name.0)

pub returns-in-None : goal.returns-in-None
returns-in-None c = let rows = (globals_in c.args.self.now).rows in ap owner_at_row c.in-None.ensures ∙ owner_row rows (place_named rows c.args.name.0)
