use Rattle.gib_check.proofs.Sound.{infer_sound}
use Rattle.gib_check.proofs.laws.inferred_types_are_had.Goals as goal

pub returns-clause-has : goal.returns-clause-has
returns-clause-has c = λ g vars meant scope n m e r st q. ((infer_sound g vars meant st scope n e).by (r, m) q).has

pub returns-clause-counts : goal.returns-clause-counts
returns-clause-counts c = λ g vars meant scope n m e r st q. (let s = (infer_sound g vars meant st scope n e).by (r, m) q in record { expressions = s.expressions; variables = s.variables })
