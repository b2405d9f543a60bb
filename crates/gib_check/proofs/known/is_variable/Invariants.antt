use Rattle.std.proofs.Common.{◌≡◌, length}
use Rattle.std.specs.Prelude.{is_some}
use Rattle.gib_syntax.specs.Declarations.{place_of}
use Rattle.gib_syntax.specs.GenericTyping.{variable_numbers}
use Rattle.gib_check.proofs.known.is_variable.Given as goal

abbrev pub invariant-variables : goal.invariant-variables
invariant-variables l = is_some (place_of (variable_numbers l.variables) l.name.0) ≡ is_some (place_of (variable_numbers l.rest) l.name.0)

abbrev pub decreases-variables : goal.decreases-variables
decreases-variables l = length l.rest
