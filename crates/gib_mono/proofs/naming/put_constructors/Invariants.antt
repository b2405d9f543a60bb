use Rattle.std.proofs.Common.{length, map}
use Rattle.gib_types.specs.Types.{forms_at}
use Rattle.gib_mono.specs.Declaring.{own_entry}
use Rattle.gib_mono.specs.Naming.{with_entries}
use Rattle.gib_mono.specs.Scenes.{forms, names_in}
use Rattle.gib_mono.proofs.Named.{NamedSoFar}
use Rattle.gib_mono.proofs.naming.put_constructors.Given as goal

abbrev pub invariant-constructors : goal.invariant-constructors
invariant-constructors l =
    NamedSoFar l.fn.copier l.copier (map (own_entry (forms_at (forms l.fn.copier.scene) l.types)) l.rest) (with_entries (names_in l.fn.copier.scene) (map (own_entry (forms_at (forms l.fn.copier.scene) l.types)) l.constructors))

abbrev pub decreases-constructors : goal.decreases-constructors
decreases-constructors l = length l.rest
