use Rattle.std.proofs.Common.{◌≡◌, ◌<◌, ◌≤◌, ◌++◌, ◌^◌, length}
use Rattle.std.specs.Fmt.{decimal}
use Rattle.gib_transcode.proofs.front.decimal.Given as goal

abbrev pub invariant-digits : goal.invariant-digits
invariant-digits l = (0 < l.sum) × (length l.rest ≤ length l.fn.text) × (l.fn.text ≡ decimal l.sum ++ l.rest)

abbrev pub decreases-digits : goal.decreases-digits
decreases-digits l = length l.rest
