use Rattle.std.proofs.Common.{subst, ◌∙◌}
use Rattle.gib_syntax.specs.GenericParts.{AreInside}
use Rattle.gib_mono.proofs.source.Source.program.Goals as goal

pub returns-clause-inside : goal.returns-clause-inside
returns-clause-inside c = subst AreInside (c.program-program.ensures ∙ c.self.view_is) c.main-main.ensures.inside
