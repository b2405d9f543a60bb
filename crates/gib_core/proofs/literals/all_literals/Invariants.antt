use Rattle.std.proofs.Common.{◌<◌, ◌≤◌, ◌-◌, ℕ, length}
use Rattle.gib_core.specs.Arena.{term_of}
use Rattle.gib_core.specs.Literals.{LiteralsFit}
use Rattle.gib_core.proofs.literals.all_literals.Given as goal

abbrev pub invariant-terms : goal.invariant-terms
invariant-terms l = record {
  within : l.index ≤ length l.terms;
  fit : (other : ℕ) → other < l.index → LiteralsFit (term_of l.terms other);
}

abbrev pub decreases-terms : goal.decreases-terms
decreases-terms l = length l.terms - l.index
