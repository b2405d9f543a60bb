use Rattle.gib_types.specs.Table.{scalar_types}
use Rattle.std.proofs.Common.{◌≡◌, length}
use Rattle.gib_core.specs.Rules.{have_types}
use Rattle.gib_loccheck.specs.Views.{before_of}
use Rattle.gib_loccheck.proofs.atoms.have_scalar_types.Given as goal

abbrev pub invariant-fields : goal.invariant-fields
invariant-fields l = have_types (before_of l.walk) l.left (scalar_types l.fields_left) ≡ have_types (before_of l.walk) l.atoms (scalar_types l.fields)

abbrev pub decreases-fields : goal.decreases-fields
decreases-fields l = length l.fields_left
