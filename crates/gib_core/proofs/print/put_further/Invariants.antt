use Rattle.std.proofs.Common.{◌≡◌, ◌≤◌, ◌<◌, ◌+◌, length, drop}
use Rattle.gib_core.specs.PartTypes.{types_in}
use Rattle.gib_core.specs.CoreText.{spell_further}
use Rattle.gib_core.proofs.print.put_further.Given as goal

abbrev pub invariant-types : goal.invariant-types
invariant-types l = (1 ≤ l.i) × (l.i ≤ length (types_in l.types)) × (l.out ≡ spell_further (drop l.i (types_in l.types)) l.fn.out)

abbrev pub decreases-types : goal.decreases-types
decreases-types l = l.i
