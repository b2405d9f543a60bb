use Rattle.std.proofs.Common.{length}
use Rattle.gib_types.specs.Types.{forms_at}
use Rattle.gib_syntax.specs.Forms.{assign}
use Rattle.gib_mono.specs.Scenes.{forms}
use Rattle.gib_mono.proofs.Meeting.{PartsMet}
use Rattle.gib_mono.proofs.copier.Copier.meet_all_at.Given as goal

abbrev pub invariant-runs : goal.invariant-runs
invariant-runs l = PartsMet l.source.exprs.words (assign l.variables (forms_at (forms l.fn.self.scene) l.types)) l.fn.self l.self l.ids.items l.rest l.runs

abbrev pub decreases-runs : goal.decreases-runs
decreases-runs l = length l.rest
