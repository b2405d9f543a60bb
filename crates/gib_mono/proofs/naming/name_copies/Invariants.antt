use Rattle.std.proofs.Common.{length}
use Rattle.gib_mono.specs.Declaring.{copies_from}
use Rattle.gib_mono.specs.Naming.{listed_entries, with_entries}
use Rattle.gib_mono.specs.Scenes.{forms, names_in}
use Rattle.gib_mono.specs.Sources.{globals_in}
use Rattle.gib_mono.proofs.Named.{KeysNamed}
use Rattle.gib_mono.proofs.naming.name_copies.Given as goal

abbrev pub invariant-keys : goal.invariant-keys
invariant-keys l = KeysNamed (globals_in l.source) l.fn.copier l.copier l.rest (with_entries (names_in l.fn.copier.scene) (listed_entries (copies_from (globals_in l.source) (forms l.fn.copier.scene) l.keys)))

abbrev pub decreases-keys : goal.decreases-keys
decreases-keys l = length l.rest
