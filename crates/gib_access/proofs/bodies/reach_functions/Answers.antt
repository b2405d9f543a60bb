use Rattle.gib_access.specs.Sources.{way_of}
use Rattle.gib_access.proofs.Programs.{functions_next}
use Rattle.gib_access.proofs.bodies.reach_functions.Goals as goal

pub functions-preserved : goal.functions-preserved
functions-preserved c =
    functions_next (way_of c.args.source.now) c.args.source.now.terms.now c.args.work.now c.functions.work c.reach_function.new.work c.args.functions.items c.functions.functions.items c.pop.new.self.items c.functions.reversed.items c.push.new.self.items c.in-Some.function c.in_ok-function.function c.in-Some.ensures.items c.in_ok-push.ensures.items c.functions.invariant c.in_ok-function.ensures
