use Rattle.std.proofs.Common.{◌≡◌, length, map}
use Rattle.gib_syntax.specs.Declarations.{type_of_name}
use Rattle.gib_local.specs.Knowing.{no_tree}
use Rattle.gib_local.proofs.known.are_scalars.Given as goal

abbrev pub invariant-fields : goal.invariant-fields
invariant-fields l = no_tree (map (type_of_name l.types) l.fields) ≡ no_tree (map (type_of_name l.types) l.rest)

abbrev pub decreases-fields : goal.decreases-fields
decreases-fields l = length l.rest
