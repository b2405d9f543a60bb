use Rattle.std.proofs.Common.{◌<◌, ◌-◌, arith}
use Rattle.gib_syntax.specs.GenericParts.{IsConstructorInside}
use Rattle.gib_syntax.proofs.Items.{item_of}
use Rattle.gib_syntax.proofs.print.put_more.Goals as goal

pub put_constructor-requires : goal.put_constructor-requires
put_constructor-requires c =
    let below = c.more.invariant.0 in
    let there = c.more-test.true in
    item_of (IsConstructorInside c.args.exprs.now.words) c.args.constructors.now (c.more.i - 1) _ (omega (arith, below, there)) c.requires
