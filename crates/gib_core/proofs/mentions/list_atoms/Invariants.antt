use Rattle.std.proofs.Common.{◌≡◌, ◌++◌, ◌-◌, length, drop}
use Rattle.gib_core.specs.Mentioned.{all_used}
use Rattle.gib_core.proofs.mentions.list_atoms.Given as goal

abbrev pub invariant-atoms : goal.invariant-atoms
invariant-atoms l = l.mentions.items ++ all_used (drop l.i l.atoms) ≡ l.fn.mentions.items ++ all_used l.atoms

abbrev pub decreases-atoms : goal.decreases-atoms
decreases-atoms l = length l.atoms - l.i
