use Rattle.std.proofs.Common.{arith, sym}
use Rattle.gib_local.proofs.ScopeNames.{bound_twice, bound_limit, bound_counted}
use Rattle.gib_local.proofs.scopes.Scopes.bound.Goals as goal

pub returns-then-is_some-clause-counts : goal.returns-then-is_some-clause-counts
returns-then-is_some-clause-counts c = rw c.broken.ensures (bound_twice c.args.self.now c.self.inside.variables c.self.inside.places c.self.inside.counts c.self.view_is c.args.x c.find.result c.find.ensures (sym c.if-is_some.ensures))

pub returns-then-self-ge-VARIABLES-clause-counts : goal.returns-then-self-ge-VARIABLES-clause-counts
returns-then-self-ge-VARIABLES-clause-counts c = rw c.broken-then-self-ge-VARIABLES.ensures (bound_limit c.args.self.now c.self.inside.variables c.self.inside.places c.self.inside.counts c.self.view_is c.args.x c.find.result c.find.ensures (sym c.if-is_some.ensures) c.if-self-ge-VARIABLES.true)

pub returns-clause-counts : goal.returns-clause-counts
returns-clause-counts c = bound_counted c.args.self.now c.self.inside.variables c.self.inside.places c.self.inside.counts c.self.view_is c.args.x c.find.result c.find.ensures (sym c.if-is_some.ensures) (omega (arith, c.if-self-ge-VARIABLES.false))
