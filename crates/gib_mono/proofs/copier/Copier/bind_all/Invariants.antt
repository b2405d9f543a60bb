use Rattle.std.proofs.Common.{length}
use Rattle.gib_mono.specs.Copying.{bind_forms}
use Rattle.gib_mono.specs.Reading.{listed}
use Rattle.gib_mono.specs.Scenes.{forms, scope_in}
use Rattle.gib_mono.proofs.Meeting.{BoundSoFar}
use Rattle.gib_mono.proofs.copier.Copier.bind_all.Given as goal

abbrev pub invariant-names : goal.invariant-names
invariant-names l = BoundSoFar l.fn.self l.self l.names l.left (bind_forms l.variables (listed (forms l.fn.self.scene) l.types) (scope_in l.fn.self.scene))

abbrev pub decreases-names : goal.decreases-names
decreases-names l = length l.names
