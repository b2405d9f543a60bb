use Rattle.std.proofs.Common.{arith}
use Rattle.gib_local.proofs.making.limited.Goals as goal

pub returns : goal.returns
returns c = record {
  is = c.requires;
  short = (let l = c.requires.len in let k = c.tokens-known.ensures.whole.short in omega (arith, l, k));
  few_names = c.tokens-known.ensures.whole.few;
}
