use Rattle.std.proofs.Common.{arith}
use Rattle.gib_transcode.proofs.Digits.{first_digit, starts, goes_on}
use Rattle.gib_transcode.proofs.front.decimal.Goals as goal

pub returns-then-first-eq0-clause-is : goal.returns-then-first-eq0-clause-is
returns-then-first-eq0-clause-is c = first_digit _ _ c.in-Some.first c.in-Some.ensures.is c.in-Some.ensures.below

pub digits-init : goal.digits-init
digits-init c = starts _ _ c.in-Some.first c.in-Some.ensures.is c.in-Some.ensures.below (omega (arith, c.if-first-eq0.false))

pub digits-preserved : goal.digits-preserved
digits-preserved c = goes_on _ _ _ c.digits.sum c.in-Some-digit.next c.digits.invariant c.digits-test.true c.in-Some-digit.ensures.is c.in-Some-digit.ensures.below
