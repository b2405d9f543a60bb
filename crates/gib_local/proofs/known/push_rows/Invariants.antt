use Rattle.std.proofs.Common.{◌≡◌, ◌++◌, length, map}
use Rattle.gib_local.specs.Knowing.{kept_in}
use Rattle.gib_local.proofs.known.push_rows.Given as goal

abbrev pub invariant-constructors : goal.invariant-constructors
invariant-constructors l = l.rows.items ++ map (kept_in l.types) l.rest ≡ l.fn.rows.items ++ map (kept_in l.types) l.constructors

abbrev pub decreases-constructors : goal.decreases-constructors
decreases-constructors l = length l.rest
