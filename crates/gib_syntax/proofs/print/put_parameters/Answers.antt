use Rattle.std.proofs.Common.{◌<◌, ◌-◌, arith}
use Rattle.gib_syntax.specs.GenericParts.{IsParameterInside}
use Rattle.gib_syntax.proofs.Items.{item_of}
use Rattle.gib_syntax.proofs.print.put_parameters.Goals as goal

pub put_parameter-requires : goal.put_parameter-requires
put_parameter-requires c =
    let below = c.parameters.invariant.0 in
    let there = c.parameters-test.true in
    item_of (IsParameterInside c.args.exprs.now.words) c.args.parameters.now (c.parameters.i - 1) _ (omega (arith, below, there)) c.requires
