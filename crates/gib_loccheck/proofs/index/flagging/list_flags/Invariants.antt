use Rattle.std.proofs.Common.{◌≡◌, ◌||◌, length}
use Rattle.gib_types.specs.declared.table.ConId.{ConId}
use Rattle.gib_core.specs.Rules.{is_one_of}
use Rattle.gib_base.specs.Entries.{entry_at}
use Rattle.gib_loccheck.specs.Found.{is_found}
use Rattle.gib_loccheck.proofs.index.flagging.list_flags.Given as goal

abbrev pub invariant-constructors : goal.invariant-constructors
invariant-constructors l = (k : ConId) → (is_found (entry_at l.flags k.0) || is_one_of l.left k) ≡ is_one_of l.constructors k

abbrev pub decreases-constructors : goal.decreases-constructors
decreases-constructors l = length l.left
