-- Ends as the code keeps them.
use Rattle.std.specs.Prelude.{ℕ, List, []}
use Rattle.gib_core.specs.Ending.{Within}
use Rattle.gib_core.specs.Low.{Over, End, Returns, To, ToParts, scalar_slots}
use Rattle.gib_core.specs.PartTypes.{types_in}
use Rattle.gib_core.specs.Tree.{variables_from}
use Rattle.gib_lower.specs.declared.ending.Ending.{Ending as Kept}
use Rattle.gib_lower.specs.declared.ending.Ending.TheVariants as k
use Rattle.gib_lower.specs.declared.ending.Around.{Around}

-- What follows a term; the ends of these trees are told before a return.
abbrev pub end_of : Kept → List Over → End
end_of k.Returns os = Returns os
end_of (k.To l d) os = To l d
end_of (k.ToParts l x tys) os = ToParts l (scalar_slots (types_in tys) (variables_from x.0 (types_in tys)))

-- The slots that the scalar ones of several parts go to.
abbrev pub part_slots : Kept → List ℕ
part_slots k.Returns = []
part_slots (k.To l d) = []
part_slots (k.ToParts l x tys) = scalar_slots (types_in tys) (variables_from x.0 (types_in tys))

-- Where a term stands.
abbrev pub within_of : Around → Within
within_of a = record { ends = a.ends; par = a.par }
