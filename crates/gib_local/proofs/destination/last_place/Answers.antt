use Rattle.std.proofs.Common.{length, ◌-◌, arith}
use Rattle.gib_local.specs.Building.{AtFirst}
use Rattle.gib_local.proofs.Scoping.{last_is}
use Rattle.gib_local.proofs.destination.last_place.Goals as goal

pub returns : goal.returns
returns c = last_is (AtFirst c.args.head.0) c.args.standing.now (length c.args.standing.now - 1) (record { 0 = 0 }) (let h = c.if-len-eq0.false in omega (arith, h))
