use Rattle.std.proofs.lemmas.Result.{on_ok_weaker}
use Rattle.gib_local.proofs.ScopeNames.{variables_cut, places_cut, on_any}
use Rattle.gib_local.proofs.scopes.Scopes.leave.Goals as goal

pub returns-clause-variables : goal.returns-clause-variables
returns-clause-variables c =
    on_any c.truncate-2.result (variables_cut c.args.self.now c.self.inside.variables c.self.inside.places c.self.inside.counts c.self.view_is c.args.depth.variables c.truncate.new.self c.in_ok-truncate.ensures.rest)

pub returns-clause-places : goal.returns-clause-places
returns-clause-places c =
    on_ok_weaker c.truncate-2.result
    (λ q. places_cut c.args.self.now c.self.inside.variables c.self.inside.places c.self.inside.counts c.self.view_is c.args.depth.places c.truncate-2.new.self q)
    c.truncate-2.ensures.rest
