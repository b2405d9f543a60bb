use Rattle.std.proofs.Common.{ap, arith, length}
use Rattle.std.proofs.lemmas.List.{length-map}
use Rattle.gib_syntax.specs.Arena.{tree_of}
use Rattle.gib_syntax.specs.Parts.{Parts, function_tree}
use Rattle.gib_infer.proofs.Programs.{functions_next}
use Rattle.gib_infer.proofs.bodies.make_functions.Goals as goal

pub functions-preserved : goal.functions-preserved
functions-preserved c =
    let all = c.args.typed.now.functions in
    functions_next c.args.typed.now c.args.work.now c.functions.work c.make_function.new.work c.functions.functions.items c.push.new.self.items c.in_ok-function.function c.functions.next (omega (arith, c.functions-test.true, ap length c.functions-2.ensures.value, ap (λ (p : Parts). length p.functions) c.program.ensures.value, length-map all (function_tree (tree_of c.args.typed.now.exprs)))) c.functions.invariant c.in_ok-function.ensures c.in_ok-push.ensures.items
