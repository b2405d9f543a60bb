use Rattle.std.proofs.Common.{◌≤◌, ◌∙◌, ap, sym, arith, length, length-take}
use Rattle.gib_syntax.specs.Meaning.{names_of}
use Rattle.gib_plain.proofs.Moves.{bound_all, bound_one, pushed, kept_front}
use Rattle.gib_plain.proofs.stack.push_parameters.Goals as goal

pub parameters-preserved : goal.parameters-preserved
parameters-preserved c =
    let vars = c.parameters.vars.items in
    let new = pushed c.push.new.self.items vars _ c.push.result c.push.ensures.items (sym c.is_err.ensures.value ∙ c.if-is_err.false) in
    let start : c.len-start.result ≤ length vars = omega (arith, length-take c.len-start.result vars, ap length c.parameters.invariant.1, c.len-start.ensures, c.args.vars.now.ok.0) in (
      bound_one c.push.new.self.items vars _ c.args.parameters.now c.args.values.now c.parameters.i _ _ new c.parameters-test.true c.if-i-values.true c.parameters.invariant.0,
      kept_front c.push.new.self.items vars _ _ c.len-start.result new start c.parameters.invariant.1,
    )

pub returns-else-i-values : goal.returns-else-i-values
returns-else-i-values c = bound_all c.parameters.vars.items _ (names_of c.args.parameters.now) c.args.values.now c.parameters.i c.if-i-values.false c.parameters.invariant.0
