use Rattle.gib_base.specs.declared.token.Token.TheVariants.{Variable}
use Rattle.gib_syntax.proofs.Joined.{tokens_text-more}
use Rattle.gib_syntax.proofs.text.text_of.Goals as goal

pub loop-i-preserved : goal.loop-i-preserved
loop-i-preserved c =
    let invariant = c.loop-i.invariant in
    let more = tokens_text-more c.args.names.now c.args.tokens.now c.loop-i.i (Variable (record { 0 = 0 })) c.loop-i.auto.i c.loop-i-test.true in
    cc c.in_ok-push_next.ensures
