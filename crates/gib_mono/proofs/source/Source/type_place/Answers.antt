use Rattle.std.proofs.Common.{ap, subst, map, ◌∙◌}
use Rattle.gib_syntax.specs.Declarations.{place_of}
use Rattle.gib_syntax.specs.GenericParts.{generic_program_of}
use Rattle.gib_mono.specs.Found.{AreDeclarations}
use Rattle.gib_mono.specs.Sources.{globals_in, data_number}
use Rattle.gib_mono.proofs.Sourcing.{data_place, declarations}
use Rattle.gib_mono.proofs.source.Source.type_place.Goals as goal

pub returns-clause-place : goal.returns-clause-place
returns-clause-place c =
    data_place (globals_in c.args.self.now).datas c.args.name.0 c.type_place.result
    (c.type_place.ensures ∙ ap (λ p. place_of (map data_number (globals_in p).datas) c.args.name.0) c.self.view_is)

pub returns-clause-declared : goal.returns-clause-declared
returns-clause-declared c = subst (λ p. AreDeclarations (globals_in p)) c.self.view_is (declarations (generic_program_of c.self.inside.named) c.self.invariant)
