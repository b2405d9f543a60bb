use Rattle.std.proofs.Common.{◌≡◌, ◌≤◌, length, drop}
use Rattle.gib_core.specs.CoreText.{spell_atoms}
use Rattle.gib_core.proofs.print.put_atoms.Given as goal

abbrev pub invariant-atoms : goal.invariant-atoms
invariant-atoms l = (l.i ≤ length l.atoms) × (l.out ≡ spell_atoms (drop l.i l.atoms) l.fn.out)

abbrev pub decreases-atoms : goal.decreases-atoms
decreases-atoms l = l.i
