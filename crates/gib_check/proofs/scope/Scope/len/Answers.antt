use Rattle.std.proofs.Common.{arith}
use Rattle.gib_check.proofs.InScope.{as_many_in}
use Rattle.gib_check.proofs.scope.Scope.len.Goals as goal

pub returns : goal.returns
returns g c = as_many_in c.self.inside.entries.items c.args.self.now c.len.result c.self.view_is (omega (arith, c.len.ensures, c.self.inside.entries.ok))
