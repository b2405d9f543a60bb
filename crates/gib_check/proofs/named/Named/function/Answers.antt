use Rattle.gib_check.proofs.NameRows.{function_found_at, function_missing_at}
use Rattle.gib_check.proofs.named.Named.function.Goals as goal

pub returns-in-Some : goal.returns-in-Some
returns-in-Some c =
    function_found_at c.self.inside.program c.args.self.now c.self.inside.functions c.functions.result.now c.args.f c.in-Some.place c.place.result c.index-functions-place.result
    c.self.view_is c.self.invariant.functions_are c.functions.ensures.value c.place.ensures.place c.in-Some.is c.index-functions-place.is

pub returns-in-None : goal.returns-in-None
returns-in-None c =
    rw c.broken.ensures
    (function_missing_at c.self.inside.program c.args.self.now c.self.inside.functions c.args.f c.place.result c.self.view_is c.self.invariant.functions_are c.place.ensures.place c.in-None.is)
