use Rattle.std.proofs.Common.{◌≡◌, ◌++◌, length}
use Rattle.gib_syntax.specs.Parts.{program_of}
use Rattle.gib_syntax.specs.Declarations.{table_of_program}
use Rattle.gib_plain.specs.Running.{types_in}
use Rattle.gib_plain.proofs.lookup.push_types.Given as goal

abbrev pub invariant-names : goal.invariant-names
invariant-names l =
    l.types.items ++ types_in (table_of_program (program_of l.typed)) l.rest ≡ l.initial.types.items ++ types_in (table_of_program (program_of l.typed)) l.names

abbrev pub decreases-names : goal.decreases-names
decreases-names l = length l.rest
