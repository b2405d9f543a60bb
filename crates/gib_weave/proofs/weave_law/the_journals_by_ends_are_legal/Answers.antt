use Rattle.std.proofs.Common.{refl}
use Rattle.gib_weave.proofs.Sums.{once_end, once_is_legal, twice_end, twice_is_legal}
use Rattle.gib_weave.proofs.weave_law.the_journals_by_ends_are_legal.Goals as goal

pub returns-clause-once : goal.returns-clause-once
returns-clause-once c = (once_end, once_is_legal, refl)

pub returns-clause-twice : goal.returns-clause-twice
returns-clause-twice c = (twice_end, twice_is_legal, refl)
