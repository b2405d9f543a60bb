use Rattle.std.proofs.Common.{◌≡◌, ◌++◌, length, map}
use Rattle.gib_check.specs.NameViews.{row_decl}
use Rattle.gib_check.proofs.named.push_rows.Given as goal

abbrev pub invariant-constructors : goal.invariant-constructors
invariant-constructors l = l.rows.items ++ map (row_decl l.exprs.words l.place l.declaration) l.rest ≡ l.fn.rows.items ++ map (row_decl l.exprs.words l.place l.declaration) l.declaration.constructors.items

abbrev pub decreases-constructors : goal.decreases-constructors
decreases-constructors l = length l.rest
