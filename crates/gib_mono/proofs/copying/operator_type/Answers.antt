use Rattle.std.proofs.Common.{length}
use Rattle.gib_mono.proofs.copying.operator_type.Goals as goal

pub meet-requires : goal.meet-requires
meet-requires c = c.operator_node.ensures.below (length c.args.copier.now.scene.types)
