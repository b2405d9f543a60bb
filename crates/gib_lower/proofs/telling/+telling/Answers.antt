use Rattle.std.proofs.Common.{arith}
use Rattle.gib_lower.proofs.TellingLine.{telling_line}
use Rattle.gib_lower.proofs.telling.+telling.Goals as goal

pub has_telling-returns : goal.has_telling-returns
has_telling-returns t c =
    telling_line c.args.ended.now c.args.terms.now c.args.id.0 c.in_ok-bindings.last.0 c.bindings.i c.in_ok-bindings.bindings.items _ c.bindings.tells
    c.in_ok-bindings.ensures (omega (arith, c.bindings-test.false)) c.in_ok-tells.ensures c.bindings.invariant.so_far
