use Rattle.std.proofs.Common.{◌≡◌, ◌++◌, length}
use Rattle.gib_core.specs.Arena.{term_of, binds_from}
use Rattle.gib_access.specs.Planned.{planned_from, others_from}
use Rattle.gib_access.proofs.planning.plan_ends.Given as goal

abbrev pub invariant-fields : goal.invariant-fields
invariant-fields l =
    (l.plan.ends.items ++ planned_from l.source.ended.now (binds_from (term_of l.source.terms.now) l.line.bindings.now) (term_of l.source.terms.now l.line.last.0) l.before l.left
    ≡ planned_from l.source.ended.now (binds_from (term_of l.source.terms.now) l.line.bindings.now) (term_of l.source.terms.now l.line.last.0) l.fn.first l.fn.fields)
    × (l.plan.others.items ++ others_from l.source.ended.now (binds_from (term_of l.source.terms.now) l.line.bindings.now) l.before l.left ≡ others_from l.source.ended.now (binds_from (term_of l.source.terms.now) l.line.bindings.now) l.fn.first l.fn.fields)

abbrev pub decreases-fields : goal.decreases-fields
decreases-fields l = length l.left
