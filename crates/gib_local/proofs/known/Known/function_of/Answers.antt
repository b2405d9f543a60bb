use Rattle.std.proofs.Common.{arith, ap}
use Rattle.std.specs.Vec.{vec_len}
use Rattle.gib_check.proofs.Opening.{gives_same}
use Rattle.gib_local_parse.specs.declared.text.FunctionLines.{FunctionLines}
use Rattle.gib_local.specs.Knowing.{declared_of, function_of}
use Rattle.gib_local.specs.Naming as rule
use Rattle.gib_local.proofs.KnownNames.{function_here, no_function}
use Rattle.gib_local.proofs.known.Known.function_of.Goals as goal

pub returns-in-Some : goal.returns-in-Some
returns-in-Some c =
    gives_same (λ _. tt {0}) c.as_many.result (function_of (declared_of c.args.self.now).functions c.args.f c.args.count) (rule.as_many c.args.count c.len.result c.args.f)
    (function_here c.self.inside.text c.args.self.now c.self.inside.functions c.functions.result.now c.args.f c.args.count c.in-Some.number c.len.result c.place.result c.index-functions-number.result
    c.self.view_is c.self.invariant.functions_are c.functions.ensures.value c.place.ensures.place c.in-Some.is c.index-functions-number.is
    (let e = ap (λ (z : FunctionLines). vec_len z.parameters) c.index-functions-number.is in omega (arith, c.len.ensures, e, c.index-functions-number.result.parameters.ok)))
    c.as_many.ensures

pub returns-in-None : goal.returns-in-None
returns-in-None c =
    rw c.broken.ensures (no_function c.self.inside.text c.args.self.now c.self.inside.functions c.args.f c.args.count c.place.result c.self.view_is c.self.invariant.functions_are c.place.ensures.place c.in-None.is)
