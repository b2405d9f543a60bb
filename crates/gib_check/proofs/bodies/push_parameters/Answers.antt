use Rattle.gib_syntax.specs.GenericParts.{parameter_in}
use Rattle.std.proofs.Common.{map, ◌∙◌}
use Rattle.gib_check.specs.FirstFault as rule
use Rattle.gib_check.specs.Judging.{in_scope}
use Rattle.gib_check.proofs.BodySteps.{pushed_next}
use Rattle.gib_check.proofs.bodies.push_parameters.Goals as goal

pub parameters-preserved : goal.parameters-preserved
parameters-preserved c = (
  pushed_next c.args.named.now.exprs.words c.parameters.state c.read_first.new.self c.enter.new.self c.parameters.rest.now _ c.words.result.now c.in_ok-ty.ty
      (rule.with_parameters (map (parameter_in c.args.named.now.exprs.words) c.args.parameters.now) (in_scope c.args.state.now)) c.in-len1-up.len_at_least c.parameters.invariant.0 c.read_first.ensures.keeps c.in_ok-ty.ensures.met.form c.words.ensures c.in_ok-enter.ensures.scope,
  c.enter.ensures.counts ∙ c.read_first.ensures.keeps.counts ∙ c.parameters.invariant.1,
)
