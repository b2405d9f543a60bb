use Rattle.std.proofs.Common.{◌≡◌, ◌++◌, length}
use Rattle.gib_syntax.specs.Typing.{types_of}
use Rattle.gib_infer.specs.Made.{globals_in}
use Rattle.gib_infer.proofs.parts.bound_types.Given as goal

abbrev pub invariant-names : goal.invariant-names
invariant-names l = l.types.items ++ types_of (globals_in l.typed).table.types l.left ≡ types_of (globals_in l.typed).table.types l.names

abbrev pub decreases-names : goal.decreases-names
decreases-names l = length l.left
