use Rattle.std.proofs.Common.{ap, sym, ◌∙◌}
use Rattle.gib_core.specs.declared.node.BoundSide.{BoundSide}
use Rattle.gib_core.specs.Arena.{side_from}
use Rattle.gib_core.specs.Low.{side_slots}
use Rattle.gib_core.specs.PartTypes.{types_in}
use Rattle.gib_lower.proofs.PartMoves.{slots_numbered}
use Rattle.gib_lower.proofs.atoms.side_targets.Goals as goal

pub returns-in-Several : goal.returns-in-Several
returns-in-Several c = λ f. slots_numbered c.in-Several.side.first.0 (types_in c.in-Several.side.types) c.len.result c.len.ensures ∙ sym (ap (λ (s : BoundSide). side_slots (side_from f s)) c.in-Several.is)
