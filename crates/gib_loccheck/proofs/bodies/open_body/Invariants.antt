use Rattle.std.proofs.Common.{◌≡◌, length, reverse, []}
use Rattle.gib_core.specs.Met.{with_parameters}
use Rattle.gib_core.specs.Rules.{bind_parameters}
use Rattle.gib_loccheck.proofs.bodies.open_body.Given as goal

abbrev pub invariant-parameters : goal.invariant-parameters
invariant-parameters l =
    (bind_parameters l.number l.left (reverse l.walk.bound.items) ≡ bind_parameters 0 l.parameters [])
    × (with_parameters l.number l.left (reverse l.walk.scope.items) ≡ with_parameters 0 l.parameters [])
    × (l.walk.cased.items ≡ []) × (l.walk.others.items ≡ []) × (l.walk.place ≡ l.fn.walk.place)

abbrev pub decreases-parameters : goal.decreases-parameters
decreases-parameters l = length l.left
