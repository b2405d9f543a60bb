use Rattle.gib_weave.proofs.Bills.{bill_bound}
use Rattle.gib_frame.proofs.law.what_is_paid_is_bound.Goals as goal

pub returns : goal.returns
returns c = λ most drew p. bill_bound most drew p.owed p.bill p.paid
