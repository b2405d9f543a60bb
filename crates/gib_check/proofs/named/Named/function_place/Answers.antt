use Rattle.std.proofs.Common.{map, ap, ◌∙◌}
use Rattle.gib_syntax.specs.Declarations.{place_of}
use Rattle.gib_check.specs.NameViews.{generic_globals, function_number}
use Rattle.gib_check.proofs.named.Named.function_place.Goals as goal

pub returns : goal.returns
returns c =
    c.place.ensures.place
    ∙ ap (λ ns. place_of ns c.args.name.0) (c.self.invariant.functions_are ∙ ap (λ p. map function_number (generic_globals p).functions) c.self.view_is)
