use Rattle.std.proofs.Common.{◌≡◌, ◌++◌}
use Rattle.gib_core.specs.CoreText.{indent}
use Rattle.gib_core.proofs.text.push_indent.Given as goal

abbrev pub invariant-levels : goal.invariant-levels
invariant-levels l = l.out.items ++ indent l.left ≡ l.fn.out.items ++ indent l.level

abbrev pub decreases-levels : goal.decreases-levels
decreases-levels l = l.left
