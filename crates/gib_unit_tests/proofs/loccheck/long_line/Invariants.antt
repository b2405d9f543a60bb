use Rattle.std.proofs.Common.{◌<◌, ◌≤◌, length}
use Rattle.gib_unit_tests.proofs.loccheck.long_line.Given as goal

abbrev pub invariant-loop-number : goal.invariant-loop-number
invariant-loop-number l = (l.rest.0 < length l.terms) × (length l.fn.terms ≤ length l.terms)
