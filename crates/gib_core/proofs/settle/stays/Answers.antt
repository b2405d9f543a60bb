use Rattle.std.proofs.Common.{◌<◌, List, length, subst, sym}
use Rattle.std.specs.List.{AllByRecursion}
use Rattle.gib_core.specs.declared.program.CoreFunction.{CoreFunction}
use Rattle.gib_core.specs.Parts.{IsFunctionInside}
use Rattle.gib_core.proofs.settle.stays.Goals as goal

pub is_known-requires : goal.is_known-requires
is_known-requires c =
    let inside = subst (λ (fs : List CoreFunction). AllByRecursion (IsFunctionInside (length c.args.core.now.terms)) fs) (sym c.functions.ensures.value) c.terms.ensures.inside.functions in
    subst (λ ts. c.in-Some.function.now.body.0 < length ts) (sym c.terms.ensures.value) (c.in-Some.ensures.inside (length c.args.core.now.terms) inside)
