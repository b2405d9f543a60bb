use Rattle.std.proofs.Common.{sym, ◌∙◌, arith}
use Rattle.std.proofs.lemmas.List.{append-nil}
use Rattle.gib_types.specs.Tree.{truth}
use Rattle.gib_transcode.proofs.put.take_truth.Goals as goal

pub returns : goal.returns
returns c = λ table names. record {
  value = truth c.in-Some.b;
  typed = tt;
  spelled = c.in-Some.ensures.is;
  put = c.put_bit.ensures ∙ sym (append-nil _);
  passed = omega arith;
  shorter = c.in-Some.ensures.shorter;
}
