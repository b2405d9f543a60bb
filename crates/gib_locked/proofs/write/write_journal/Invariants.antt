use Rattle.std.proofs.Common.{◌≡◌, ◌++◌, map, take}
use Rattle.std.specs.List.{flat_map}
use Rattle.gib_locked.specs.JournalText.{fed, line_text}
use Rattle.gib_locked.proofs.write.write_journal.Given as goal

abbrev pub invariant-lines : goal.invariant-lines
invariant-lines l = l.out.items ≡ l.initial.out.items ++ flat_map fed (map line_text (take l.line-index l.line-items))
