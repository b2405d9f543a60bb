use Rattle.std.proofs.Common.{◌≡◌, ◌++◌, length, map}
use Rattle.gib_syntax.specs.Declarations.{type_of_name}
use Rattle.gib_infer.specs.Made.{globals_in}
use Rattle.gib_infer.proofs.parts.types_named.Given as goal

abbrev pub invariant-names : goal.invariant-names
invariant-names l = l.types.items ++ map (type_of_name (globals_in l.typed).table.types) l.left ≡ map (type_of_name (globals_in l.typed).table.types) l.names

abbrev pub decreases-names : goal.decreases-names
decreases-names l = length l.left
