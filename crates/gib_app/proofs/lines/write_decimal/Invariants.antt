use Rattle.std.proofs.Common.{◌≡◌, ◌≤◌, ◌++◌, length, drop}
use Rattle.std.specs.Fmt.{decimal}
use Rattle.gib_app.proofs.lines.write_decimal.Given as goal

abbrev pub invariant-digits : goal.invariant-digits
invariant-digits l =
    (length (decimal l.rest) ≤ l.at) × (l.at ≤ length l.buffer) × (length l.buffer ≡ 20) × (decimal l.rest ++ drop l.at l.buffer ≡ decimal l.number)

abbrev pub decreases-digits : goal.decreases-digits
decreases-digits l = l.rest
