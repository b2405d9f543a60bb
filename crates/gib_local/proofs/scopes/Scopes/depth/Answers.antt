use Rattle.gib_local.proofs.ScopeNames.{many_variables, many_places}
use Rattle.gib_local.proofs.scopes.Scopes.depth.Goals as goal

pub returns-clause-variables : goal.returns-clause-variables
returns-clause-variables c = many_variables c.args.self.now c.self.inside.variables c.self.inside.places c.self.inside.counts c.self.view_is c.len.result c.len.ensures

pub returns-clause-places : goal.returns-clause-places
returns-clause-places c = many_places c.args.self.now c.self.inside.variables c.self.inside.places c.self.inside.counts c.self.view_is c.len-2.result c.len-2.ensures
