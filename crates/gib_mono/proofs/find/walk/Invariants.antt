use Rattle.std.proofs.Common.{◌+◌, ◌-◌}
use Rattle.gib_syntax.specs.GenericParts.{generic_program_of}
use Rattle.gib_mono.specs.Searching.{Walked}
use Rattle.gib_mono.proofs.find.walk.Given as goal

abbrev pub invariant-copies : goal.invariant-copies
invariant-copies l = Walked (generic_program_of l.source) l.from l.search l.next

abbrev pub decreases-copies : goal.decreases-copies
decreases-copies l = 1201 + l.from - l.next
