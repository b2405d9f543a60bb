use Rattle.gib_local.proofs.ScopeNames.{variable_there, variable_missing}
use Rattle.gib_local.proofs.scopes.Scopes.variable.Goals as goal

pub returns-in-Some : goal.returns-in-Some
returns-in-Some c = variable_there c.args.self.now c.self.inside.variables c.self.inside.places c.self.inside.counts c.self.view_is c.args.x c.find.result c.in-Some.field-0 c.find.ensures c.in-Some.is

pub returns-in-None : goal.returns-in-None
returns-in-None c = rw c.broken.ensures (variable_missing c.args.self.now c.self.inside.variables c.self.inside.places c.self.inside.counts c.self.view_is c.args.x c.find.result c.find.ensures c.in-None.is)
