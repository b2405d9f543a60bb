use Rattle.std.proofs.Common.{◌≡◌, ◌-◌, length}
use Rattle.gib_syntax.specs.GenericParts.{generic_program_of}
use Rattle.gib_mono.specs.Sources.{globals_in}
use Rattle.gib_mono.specs.Walk.{plain_copies, plain_functions}
use Rattle.gib_mono.proofs.Plains.{PlainSoFar, types_left, functions_left}
use Rattle.gib_mono.proofs.find.add_plain.Given as goal

abbrev pub invariant-each_type : goal.invariant-each_type
invariant-each_type l = PlainSoFar (globals_in l.source) (plain_copies (generic_program_of l.source)) l.search (types_left (globals_in l.source).datas l.next (plain_functions (globals_in l.source).functions)) × (l.types ≡ length (globals_in l.source).datas) × (l.functions ≡ length (globals_in l.source).functions)

abbrev pub decreases-each_type : goal.decreases-each_type
decreases-each_type l = l.types - l.next

abbrev pub invariant-each_function : goal.invariant-each_function
invariant-each_function l = PlainSoFar (globals_in l.source) (plain_copies (generic_program_of l.source)) l.search (functions_left (globals_in l.source).functions l.next) × (l.functions ≡ length (globals_in l.source).functions)

abbrev pub decreases-each_function : goal.decreases-each_function
decreases-each_function l = l.functions - l.next
