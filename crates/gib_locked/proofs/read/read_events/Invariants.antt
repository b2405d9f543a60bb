use Rattle.std.proofs.Common.{◌≡◌, ◌++◌, map, true, length}
use Rattle.std.specs.List.{flat_map}
use Rattle.gib_locked.specs.Lines.{are_lines}
use Rattle.gib_locked.specs.JournalText.{fed, line_text}
use Rattle.gib_locked.proofs.read.read_events.Given as goal

abbrev pub invariant-lines : goal.invariant-lines
invariant-lines l = (are_lines l.lines.items ≡ true) × (l.fn.text ≡ flat_map fed (map line_text l.lines.items) ++ l.rest)

abbrev pub decreases-lines : goal.decreases-lines
decreases-lines l = length l.rest
