use Rattle.std.proofs.Common.{arith}
use Rattle.gib_check.proofs.Opening.{gives_same}
use Rattle.gib_local.specs.Knowing.{declared_of, constructor_of}
use Rattle.gib_local.specs.Naming as rule
use Rattle.gib_local.proofs.KnownNames.{number_here, constructor_here}
use Rattle.gib_local.proofs.known.Known.constructor_of.Goals as goal

pub index-requires : goal.index-requires
index-requires c =
    let l = number_here c.self.inside.text c.args.self.now c.self.inside.rows.items c.args.k c.in_ok-number.number c.self.view_is c.self.invariant.counts_are c.in_ok-number.ensures in omega (arith, l, c.self.inside.rows.ok)

pub returns : goal.returns
returns c =
    gives_same (λ _. tt {0}) c.as_many.result (constructor_of (declared_of c.args.self.now).table c.args.k c.args.count) (rule.as_many c.args.count c.index.result.now.count c.args.k)
    (constructor_here c.self.inside.text c.args.self.now c.self.inside.rows.items c.args.k c.args.count c.in_ok-number.number c.index.result.now c.self.view_is c.self.invariant.counts_are c.in_ok-number.ensures c.index.ensures)
    c.as_many.ensures
