use Rattle.std.proofs.Common.{ap, ◌∙◌}
use Rattle.gib_syntax.specs.Declarations.{place_of}
use Rattle.gib_check.proofs.Naming.{place_inside}
use Rattle.gib_check.proofs.names.NameList.place.Goals as goal

pub returns-clause-within : goal.returns-clause-within
returns-clause-within c =
    place_inside c.args.self.now c.args.name.0 c.get.result
    (c.get.ensures ∙ c.self.invariant.each c.args.name.0 ∙ ap (λ z. place_of z c.args.name.0) c.self.view_is)
