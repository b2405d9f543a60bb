use Rattle.std.proofs.Common.{◌∷◌, ap, ◌∙◌}
use Rattle.gib_code.specs.Instruction as i
use Rattle.gib_core.specs.Low.{Over}
use Rattle.gib_lower.proofs.Tellings.{over_next}
use Rattle.gib_lower.proofs.ending.put_told.Goals as goal

pub overs-preserved : goal.overs-preserved
overs-preserved c =
    over_next c.overs.left.now c.over-item.result _ c.overs.code c.put.new.self _ c.in-len1-up.len_at_least c.over-item.is c.overs.invariant
    (c.in_ok-put.ensures ∙ ap (λ (o : Over). i.OverEnd o.tree o.field ∷ c.overs.code) c.over.view_is)
