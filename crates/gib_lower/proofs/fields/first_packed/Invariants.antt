use Rattle.std.proofs.Common.{◌≡◌, ◌≤◌, ℕ, List, length}
use Rattle.gib_core.specs.Low.{Field, first_reach, further_fields, with_fields}
use Rattle.gib_lower.proofs.fields.first_packed.Given as goal

abbrev pub invariant-types : goal.invariant-types
invariant-types l = record {
  reached : (x size : ℕ) → first_reach x size l.types l.variables ≡ first_reach x size l.fn.types l.fn.variables;
  behind : (x : ℕ) (fs : List Field) → with_fields x l.types l.variables fs ≡ with_fields x l.fn.types l.fn.variables fs;
  further : (x p : ℕ) (fs : List Field) → further_fields x p l.types l.variables fs ≡ further_fields x p l.fn.types l.fn.variables fs;
  fewer : length l.types ≤ length l.fn.types;
}

abbrev pub decreases-types : goal.decreases-types
decreases-types l = length l.types
