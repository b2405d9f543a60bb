use Rattle.std.proofs.Common.{◌≡◌, ◌++◌, length, map}
use Rattle.gib_check.proofs.names.list_names.Given as goal

abbrev pub invariant-items : goal.invariant-items
invariant-items g l = l.names ++ map g.T.Called.called l.rest ≡ map g.T.Called.called l.items

abbrev pub decreases-items : goal.decreases-items
decreases-items g l = length l.rest
