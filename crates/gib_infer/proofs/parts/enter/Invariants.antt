use Rattle.std.proofs.Common.{◌≡◌, ◌++◌, length}
use Rattle.gib_infer.proofs.parts.enter.Given as goal

abbrev pub invariant-slots : goal.invariant-slots
invariant-slots l = record {
  terms : l.work.terms ≡ l.fn.work.terms;
  fresh : l.work.fresh ≡ l.fn.work.fresh;
  scope : l.work.scope.items ++ l.left ≡ l.fn.work.scope.items ++ l.slots;
}

abbrev pub decreases-slots : goal.decreases-slots
decreases-slots l = length l.left
