use Rattle.gib_local.proofs.ScopeNames.{place_twice, place_fresh}
use Rattle.gib_local.proofs.scopes.Scopes.new_place.Goals as goal

pub returns-in-Some : goal.returns-in-Some
returns-in-Some c = rw c.broken.ensures (place_twice c.args.self.now c.self.inside.variables c.self.inside.places c.self.inside.counts c.self.view_is c.args.x c.find.result c.in-Some.field-0 c.find.ensures c.in-Some.is)

pub returns-in-None : goal.returns-in-None
returns-in-None c = place_fresh c.args.self.now c.self.inside.variables c.self.inside.places c.self.inside.counts c.self.view_is c.args.x c.find.result c.find.ensures c.in-None.is
