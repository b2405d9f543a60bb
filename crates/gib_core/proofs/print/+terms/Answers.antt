use Rattle.std.proofs.Common.{arith}
use Rattle.gib_core.proofs.Spelling.{spell_line}
use Rattle.gib_core.proofs.print.+terms.Goals as goal

pub put_term-returns : goal.put_term-returns
put_term-returns t c =
    spell_line c.args.from.now.ended.now c.args.from.now.terms.now c.args.level c.args.id.0 c.in_ok-bindings.last.0 c.bindings.i c.in_ok-bindings.bindings.items c.args.out.now c.put_end.new.out c.bindings.out
    c.in_ok-bindings.ensures (omega (arith, c.bindings-test.false)) c.in_ok-put_end.ensures c.bindings.invariant.1
