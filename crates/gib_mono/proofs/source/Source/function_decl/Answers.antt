use Rattle.std.proofs.Common.{◌≡◌, Some, slice_get, ap, ◌∙◌, subst}
use Rattle.std.specs.List.{AllByRecursion}
use Rattle.gib_syntax.specs.GenericParts.{IsFunctionInside}
use Rattle.gib_mono.proofs.Sourcing.{there_is, within_functions, function_inside}
use Rattle.gib_mono.proofs.source.Source.function_decl.Goals as goal

at : (c : goal.After-index-functions-place) → slice_get c.args.self.now.functions c.args.place ≡ Some c.index-functions-place.result
at c =
    let same = c.functions.ensures.value ∙ ap (λ p. p.functions) c.program.ensures.value in
    subst (λ fs. slice_get fs c.args.place ≡ Some c.index-functions-place.result) same
    (there_is c.functions.result.now c.args.place c.index-functions-place.result (within_functions c.functions.result.now c.args.self.now c.args.place same c.requires) c.index-functions-place.is)

pub returns-clause-at : goal.returns-clause-at
returns-clause-at c = at c

pub returns-clause-inside : goal.returns-clause-inside
returns-clause-inside c = function_inside c.args.self.now c.args.place c.index-functions-place.result (subst (λ p. AllByRecursion (IsFunctionInside p.exprs) p.functions) c.program.ensures.value c.functions.ensures.inside.functions) (at c)
