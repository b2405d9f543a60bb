use Rattle.std.proofs.Common.{rules}
use Rattle.gib_place.proofs.Programs.{functions_next, functions_end}
use Rattle.gib_place.proofs.bodies.place_functions.Goals as goal

pub functions-preserved : goal.functions-preserved
functions-preserved c =
    functions_next c.args.terms.now c.args.made.now c.functions.made c.place_function.new.made c.args.functions.items c.functions.functions.items c.pop.new.self.items c.functions.reversed.items c.push.new.self.items c.in-Some.function c.in_ok-function.function c.in-Some.ensures.items c.in_ok-push.ensures.items c.functions.invariant c.in_ok-function.ensures

pub returns : goal.returns
returns c = let h = functions_end in search rules
