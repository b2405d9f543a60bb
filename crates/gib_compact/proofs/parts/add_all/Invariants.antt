use Rattle.std.proofs.Common.{◌≡◌, ◌++◌, length}
use Rattle.gib_compact.specs.Gathered.{gathered}
use Rattle.gib_compact.proofs.parts.add_all.Given as goal

abbrev pub invariant-parts : goal.invariant-parts
invariant-parts l = record { whole : l.out.items ++ gathered l.parts.items ≡ l.fn.out.items ++ gathered l.fn.parts.items }

abbrev pub decreases-parts : goal.decreases-parts
decreases-parts l = length l.parts.items
