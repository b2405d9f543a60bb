use Rattle.std.proofs.Common.{ap, sym, ◌∙◌, drop, arith}
use Rattle.gib_check.specs.InScope.{ScopeOf, scope_of}
use Rattle.gib_check.proofs.InScope.{newest_out, one_out, scope_of-push}
use Rattle.gib_check.proofs.scope.Scope.pop.Goals as goal

pub invariant_of-self-then-len-gt0 : goal.invariant_of-self-then-len-gt0
invariant_of-self-then-len-gt0 g c =
    one_out c.self.inside.entries.items c.truncate.new.self.items c.index-entry.result.now c.self.inside.found c.set.new.self c.self.invariant
    (newest_out c.self.inside.entries.items c.truncate.new.self.items c.index-entry.result.now _ (omega (arith, c.if-len-gt0.true, c.len-len.ensures)) (omega (arith, c.len-len.ensures, c.self.inside.entries.ok)) c.index-entry.ensures c.truncate.ensures.items)
    c.in_ok-set.ensures.set

pub returns-in_ok-set-clause-gone : goal.returns-in_ok-set-clause-gone
returns-in_ok-set-clause-gone g c =
    sym
    (ap (λ (s : ScopeOf g.row.T.Denot). drop 1 s)
    (sym c.self.view_is
    ∙ ap scope_of
    (newest_out c.self.inside.entries.items c.truncate.new.self.items c.index-entry.result.now _ (omega (arith, c.if-len-gt0.true, c.len-len.ensures)) (omega (arith, c.len-len.ensures, c.self.inside.entries.ok)) c.index-entry.ensures c.truncate.ensures.items)
    ∙ scope_of-push c.truncate.new.self.items c.index-entry.result.now))
