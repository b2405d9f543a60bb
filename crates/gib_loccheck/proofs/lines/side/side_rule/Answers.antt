use Rattle.std.proofs.Common.{ap, sym, ◌∙◌}
use Rattle.gib_core.specs.Rules.{least, side_rules}
use Rattle.gib_loccheck.specs.Views.{before_of, setting_of}
use Rattle.gib_loccheck.proofs.lines.side.side_rule.Goals as goal

pub returns-in-Region : goal.returns-in-Region
returns-in-Region c =
    c.region_rule.ensures c.args.core.now.table
    ∙ ap (λ k. least (side_rules c.args.core.now.table (before_of c.args.walk.now) (setting_of c.args.walk.now c.args.target.now) k c.args.bound.variable c.args.bound.ty)) (sym c.in-Region.is)

pub returns-in-Scalar : goal.returns-in-Scalar
returns-in-Scalar c =
    c.scalar_rule.ensures c.args.core.now.table
    ∙ ap (λ k. least (side_rules c.args.core.now.table (before_of c.args.walk.now) (setting_of c.args.walk.now c.args.target.now) k c.args.bound.variable c.args.bound.ty)) (sym c.in-Scalar.is)
