use Rattle.std.proofs.Common.{ap, ◌∙◌, map}
use Rattle.gib_syntax.specs.Parts.{Parts}
use Rattle.gib_check.specs.Views.{function_name}
use Rattle.gib_check.proofs.Numbering.{number_found, number_none}
use Rattle.gib_check.proofs.declared.Declared.function_id.Goals as goal

pub returns-in-Some : goal.returns-in-Some
returns-in-Some c =
    number_found c.args.self.now c.self.inside.functions c.args.name.0 c.in-Some.place c.place.result
    (c.self.invariant.are_functions ∙ ap (λ (p : Parts). map function_name p.functions) c.self.view_is) c.place.ensures.place c.in-Some.is

pub returns-in-None : goal.returns-in-None
returns-in-None c =
    number_none c.args.self.now c.self.inside.functions c.args.name.0 c.place.result
    (c.self.invariant.are_functions ∙ ap (λ (p : Parts). map function_name p.functions) c.self.view_is) c.place.ensures.place c.in-None.is
