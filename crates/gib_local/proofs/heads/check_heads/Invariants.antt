use Rattle.std.proofs.Common.{◌≡◌, [], length}
use Rattle.gib_local.proofs.HeadNames.{heads_in}
use Rattle.gib_local.proofs.heads.check_heads.Given as goal

abbrev pub invariant-functions : goal.invariant-functions
invariant-functions l = heads_in l.known [] l.functions ≡ heads_in l.known l.names l.rest

abbrev pub decreases-functions : goal.decreases-functions
decreases-functions l = length l.rest
