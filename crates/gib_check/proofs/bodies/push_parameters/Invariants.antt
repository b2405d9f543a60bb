use Rattle.std.proofs.Common.{◌≡◌, length, map}
use Rattle.gib_check.specs.FirstFault as rule
use Rattle.gib_syntax.specs.GenericParts.{parameter_in}
use Rattle.gib_check.specs.Judging.{in_scope}
use Rattle.gib_check.proofs.bodies.push_parameters.Given as goal

abbrev pub invariant-parameters : goal.invariant-parameters
invariant-parameters l =
    (rule.with_parameters (map (parameter_in l.named.exprs.words) l.rest) (in_scope l.state) ≡ rule.with_parameters (map (parameter_in l.named.exprs.words) l.parameters) (in_scope l.fn.state)) × (l.state.counts ≡ l.fn.state.counts)

abbrev pub decreases-parameters : goal.decreases-parameters
decreases-parameters l = length l.rest
