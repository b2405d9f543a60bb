use Rattle.std.proofs.Common.{◌-◌, arith}
use Rattle.gib_syntax.specs.Words.{IsTypeRun}
use Rattle.gib_syntax.proofs.Items.{item_of}
use Rattle.gib_syntax.proofs.print.put_further_types.Goals as goal

pub put_type-requires : goal.put_type-requires
put_type-requires c =
    let below = c.types.invariant.0 in
    let there = c.types-test.true in
    item_of (IsTypeRun c.args.exprs.now.words) c.args.types.now (c.types.i - 1) _ (omega (arith, below, there)) c.requires
