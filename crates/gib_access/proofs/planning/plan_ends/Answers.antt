use Rattle.std.proofs.Common.{◌++◌, ap, sym, ◌∙◌}
use Rattle.gib_core.specs.Arena.{term_of, binds_from}
use Rattle.gib_access.specs.Planned.{planned_from, others_from}
use Rattle.gib_access.proofs.Plans.{split_first}
use Rattle.gib_access.proofs.planning.plan_ends.Goals as goal

pub fields-preserved : goal.fields-preserved
fields-preserved c =
    let f = term_of c.args.source.now.terms.now in
    let es = c.args.source.now.ended.now in
    let bs = binds_from f c.args.line.now.bindings.now in
    let s = split_first c.fields.left.now (record { 0 = 0 }) c.in-len1-up.len_at_least in (
      c.in_ok-plan_field.ensures.ends _ ∙ ap (λ ys. c.fields.plan.ends.items ++ planned_from es bs (f c.args.line.now.last.0) c.fields.before ys) (sym s) ∙ c.fields.invariant.0,
      c.in_ok-plan_field.ensures.others _ ∙ ap (λ ys. c.fields.plan.others.items ++ others_from es bs c.fields.before ys) (sym s) ∙ c.fields.invariant.1,
    )
