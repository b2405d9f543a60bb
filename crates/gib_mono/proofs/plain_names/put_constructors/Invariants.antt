use Rattle.std.proofs.Common.{◌≡◌, length, map}
use Rattle.gib_syntax.specs.Forms.{NoForm}
use Rattle.gib_mono.specs.Declaring.{own_entry}
use Rattle.gib_mono.specs.Naming.{with_entries}
use Rattle.gib_mono.specs.Scenes.{names_in}
use Rattle.gib_mono.proofs.plain_names.put_constructors.Given as goal

abbrev pub invariant-constructors : goal.invariant-constructors
invariant-constructors l = with_entries (names_in l.names) (map (own_entry NoForm) l.rest) ≡ with_entries (names_in l.fn.names) (map (own_entry NoForm) l.constructors)

abbrev pub decreases-constructors : goal.decreases-constructors
decreases-constructors l = length l.rest
