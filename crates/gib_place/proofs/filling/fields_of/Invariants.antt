use Rattle.std.proofs.Common.{◌-◌, length}
use Rattle.gib_core.specs.Arena.{term_of}
use Rattle.gib_place.proofs.Found.{FieldsBehind}
use Rattle.gib_place.proofs.filling.fields_of.Given as goal

abbrev pub invariant-bindings : goal.invariant-bindings
invariant-bindings l = FieldsBehind (term_of l.terms) l.bindings l.i l.fields.items

abbrev pub decreases-bindings : goal.decreases-bindings
decreases-bindings l = length l.bindings - l.i
