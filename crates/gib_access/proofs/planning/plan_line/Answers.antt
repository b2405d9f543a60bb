use Rattle.gib_core.specs.Arena.{term_of, binds_from}
use Rattle.gib_access.proofs.Plans.{plan_mode, split_first}
use Rattle.gib_access.proofs.planning.plan_line.Goals as goal

pub returns-in_ok-plan-in-Ends-len1-up : goal.returns-in_ok-plan-in-Ends-len1-up
returns-in_ok-plan-in-Ends-len1-up c =
    let f = term_of c.args.source.now.terms.now in
    plan_mode c.args.source.now.mode c.args.source.now.ended.now (binds_from f c.args.line.now.bindings.now) (f c.args.line.now.last.0) c.args.packed.now _ _ c.in_ok-plan-in-Ends-len1-up.plan.ends.items c.in_ok-plan-in-Ends-len1-up.plan.others.items
    c.in-Ends-len1-up.is-0 (split_first c.args.packed.now (record { 0 = 0 }) c.in-Ends-len1-up.len_at_least) c.requires.line.ends c.in_ok-plan-in-Ends-len1-up.ensures.ends c.in_ok-plan-in-Ends-len1-up.ensures.others
