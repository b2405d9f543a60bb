use Rattle.std.proofs.Common.{◌∷◌, ap, ◌∙◌}
use Rattle.gib_check.specs.InScope.{ScopeOf, scope_of}
use Rattle.gib_check.proofs.InScope.{one_in, scope_of-push}
use Rattle.gib_check.proofs.scope.Scope.push.Goals as goal

pub invariant_of-self-in_default : goal.invariant_of-self-in_default
invariant_of-self-in_default g c =
    one_in c.self.inside.entries.items c.push.new.self.items (record { name = c.args.name; item = c.args.item; hidden = c.get-hidden.result }) c.self.inside.found c.set.new.self
    c.self.invariant c.get-hidden.ensures c.in_ok-push.ensures.items c.in_default.ensures.set

pub returns-clause-put : goal.returns-clause-put
returns-clause-put g c =
    ap scope_of c.in_ok-push.ensures.items
    ∙ scope_of-push c.self.inside.entries.items (record { name = c.args.name; item = c.args.item; hidden = c.get-hidden.result })
    ∙ ap (λ (s : ScopeOf g.row.T.Denot). (c.args.name.0, c.args.item) ∷ s) c.self.view_is
