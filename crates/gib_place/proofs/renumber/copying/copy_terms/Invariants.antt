use Rattle.std.proofs.Common.{◌≤◌, ◌-◌, length}
use Rattle.gib_place.specs.Shifting.{Copies}
use Rattle.gib_place.proofs.renumber.copying.copy_terms.Given as goal

abbrev pub invariant-terms : goal.invariant-terms
invariant-terms l = (l.i ≤ length l.terms) × Copies l.numbers l.terms l.i l.fn.into l.into

abbrev pub decreases-terms : goal.decreases-terms
decreases-terms l = length l.terms - l.i
