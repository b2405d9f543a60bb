use Rattle.std.proofs.Common.{◌≡◌, length}
use Rattle.gib_core.specs.Rules.{have_types}
use Rattle.gib_loccheck.specs.Views.{before_of}
use Rattle.gib_loccheck.proofs.atoms.have_types.Given as goal

abbrev pub invariant-atoms : goal.invariant-atoms
invariant-atoms l = have_types (before_of l.walk) l.left l.types_left ≡ have_types (before_of l.walk) l.atoms l.types

abbrev pub decreases-atoms : goal.decreases-atoms
decreases-atoms l = length l.left
