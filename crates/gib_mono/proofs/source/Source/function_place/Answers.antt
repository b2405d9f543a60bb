use Rattle.std.proofs.Common.{ap, subst, map, ◌∙◌}
use Rattle.gib_syntax.specs.Declarations.{place_of}
use Rattle.gib_syntax.specs.GenericParts.{generic_program_of}
use Rattle.gib_mono.specs.Found.{AreDeclarations}
use Rattle.gib_mono.specs.Sources.{globals_in, function_number}
use Rattle.gib_mono.proofs.Sourcing.{function_place, declarations}
use Rattle.gib_mono.proofs.source.Source.function_place.Goals as goal

pub returns-clause-place : goal.returns-clause-place
returns-clause-place c =
    function_place (globals_in c.args.self.now).functions c.args.name.0 c.function_place.result
    (c.function_place.ensures ∙ ap (λ p. place_of (map function_number (globals_in p).functions) c.args.name.0) c.self.view_is)

pub returns-clause-declared : goal.returns-clause-declared
returns-clause-declared c = subst (λ p. AreDeclarations (globals_in p)) c.self.view_is (declarations (generic_program_of c.self.inside.named) c.self.invariant)
