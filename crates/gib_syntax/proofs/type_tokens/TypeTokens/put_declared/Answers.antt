use Rattle.std.proofs.Common.{◌≡◌, subst}
use Rattle.std.specs.Prelude.{OnOk}
use Rattle.gib_syntax.specs.TypeTokens.{TypesSpelled}
use Rattle.gib_syntax.proofs.TypesPrinted.{declared_opens}
use Rattle.gib_syntax.proofs.type_tokens.TypeTokens.put_declared.Goals as goal

pub returns : goal.returns
returns c =
    subst (λ (x : TypesSpelled). OnOk c.push.result (c.push.new.self ≡ x))
    (declared_opens c.args.self.now c.put_token.new.self c.put_token-2.new.self c.args.name c.args.arguments c.if-arguments-eq0.false c.in_ok-put_token.ensures c.in_ok-put_token-2.ensures)
    c.push.ensures
