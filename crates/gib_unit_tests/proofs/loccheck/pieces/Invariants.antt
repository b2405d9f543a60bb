use Rattle.std.proofs.Common.{◌<◌, ◌≤◌, length}
use Rattle.gib_unit_tests.proofs.loccheck.pieces.Given as goal

abbrev pub invariant-loop-piece : goal.invariant-loop-piece
invariant-loop-piece l = (l.rest.0 < length l.terms) × (length l.fn.terms ≤ length l.terms)
