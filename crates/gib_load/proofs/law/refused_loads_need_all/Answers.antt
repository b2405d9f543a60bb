use Rattle.gib_load.proofs.Spots.{refused_spent}
use Rattle.gib_load.proofs.law.refused_loads_need_all.Goals as goal

pub returns : goal.returns
returns c = λ laid m m' v rules sizes e h. refused_spent laid (record { rules = rules; heads = sizes }) m v m' e h
