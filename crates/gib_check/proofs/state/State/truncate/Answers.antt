use Rattle.std.proofs.Common.{length, sym, subst}
use Rattle.std.proofs.lemmas.Result.{on_ok_weaker}
use Rattle.gib_check.specs.Judging.{IsScopeBelow}
use Rattle.gib_check.proofs.States.{cut_scope, below_drop}
use Rattle.gib_check.proofs.state.State.truncate.Goals as goal

pub invariant_of-self : goal.invariant_of-self
invariant_of-self c =
    let some = c.truncate.ensures.some in
    subst (IsScopeBelow (length c.self.inside.types)) (sym some.1) (below_drop (length c.self.inside.types) some.0 c.self.inside.scope c.self.invariant)

pub returns-clause-scope : goal.returns-clause-scope
returns-clause-scope c =
    on_ok_weaker c.truncate.result
    (λ q. cut_scope c.args.self.now c.self.inside.types c.self.inside.parts.items c.self.inside.scope c.truncate.new.self c.self.inside.counts c.args.len c.self.view_is q)
    c.truncate.ensures.rest
