use Rattle.std.proofs.Common.{◌≡◌, length}
use Rattle.gib_mono.specs.Bare.{function_names}
use Rattle.gib_mono.specs.Naming.{with_entries}
use Rattle.gib_mono.specs.Scenes.{names_in}
use Rattle.gib_mono.proofs.plain_names.put_functions.Given as goal

abbrev pub invariant-functions : goal.invariant-functions
invariant-functions l = with_entries (names_in l.names) (function_names l.rest) ≡ with_entries (names_in l.fn.names) (function_names l.functions)

abbrev pub decreases-functions : goal.decreases-functions
decreases-functions l = length l.rest
