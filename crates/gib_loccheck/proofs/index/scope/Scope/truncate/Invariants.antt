use Rattle.std.proofs.Common.{◌≡◌, take, length}
use Rattle.gib_loccheck.proofs.index.scope.Scope.truncate.Given as goal

abbrev pub invariant-scope : goal.invariant-scope
invariant-scope l = take l.len l.self.items ≡ take l.len l.initial.self.items

abbrev pub decreases-scope : goal.decreases-scope
decreases-scope l = length l.self.items
