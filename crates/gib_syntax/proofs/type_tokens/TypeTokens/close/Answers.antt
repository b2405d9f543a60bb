use Rattle.std.proofs.Common.{◌≡◌, arith, subst}
use Rattle.std.specs.Prelude.{OnOk}
use Rattle.gib_syntax.specs.TypeTokens.{TypesSpelled}
use Rattle.gib_syntax.proofs.TypesPrinted.{close_goes, close_keeps}
use Rattle.gib_syntax.proofs.type_tokens.TypeTokens.close.Goals as goal

pub open-preserved : goal.open-preserved
open-preserved c =
    close_goes c.open.self c.pop.new.self c.put_token.new.self c.args.self.now.tokens c.args.self.now.due c.in-Some.arguments c.open.invariant c.in-Some.ensures.some c.pop.ensures.tokens (let l = c.if-arguments-gt1.false in omega (arith, l)) c.in_ok-put_token.ensures

pub returns-then-arguments-gt1 : goal.returns-then-arguments-gt1
returns-then-arguments-gt1 c =
    subst (λ (x : TypesSpelled). OnOk c.push.result (c.push.new.self ≡ x))
    (close_keeps c.open.self c.pop.new.self c.args.self.now.tokens c.args.self.now.due c.in-Some.arguments c.open.invariant c.in-Some.ensures.some c.pop.ensures.tokens (let l = c.if-arguments-gt1.true in omega (arith, l)))
    c.push.ensures
