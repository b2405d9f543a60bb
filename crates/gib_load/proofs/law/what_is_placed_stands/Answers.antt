use Rattle.gib_load.proofs.Sound.{placement_holds}
use Rattle.gib_load.proofs.law.what_is_placed_stands.Goals as goal

pub returns : goal.returns
returns c = λ laid m ty v rules sizes b e h small. placement_holds laid (record { rules = rules; heads = sizes }) m ty v b e h small
