use Rattle.std.proofs.Common.{arith}
use Rattle.gib_locked.proofs.CutLemmas.{cut_there}
use Rattle.gib_locked.proofs.cut.cut.Goals as goal

pub returns : goal.returns
returns c = cut_there c.args.byte c.front_len-len.result c.args.text.now c.split_at.result.0.now c.split_at.result.1.now c.split_at-2.result.1.now c.front_len-len.ensures.value (omega (arith, c.front_len-len.ensures.bound, c.if-len-text.false)) c.split_at.ensures.front c.split_at.ensures.back c.split_at-2.ensures.back
