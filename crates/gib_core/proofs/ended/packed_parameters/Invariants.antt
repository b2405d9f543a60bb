use Rattle.std.proofs.Common.{◌≡◌, ◌≤◌, ◌-◌, ◌++◌, ℕ, map, length, drop}
use Rattle.gib_core.specs.Tree.{Term}
use Rattle.gib_core.specs.Parts.{function_term}
use Rattle.gib_core.specs.Ending.{all_packed}
use Rattle.gib_core.proofs.ended.packed_parameters.Given as goal

abbrev pub invariant-functions : goal.invariant-functions
invariant-functions l = (l.i ≤ length l.functions) × ((f : ℕ → Term) → l.pairs.items ++ all_packed (map (function_term f) (drop l.i l.functions)) ≡ all_packed (map (function_term f) l.functions))

abbrev pub decreases-functions : goal.decreases-functions
decreases-functions l = length l.functions - l.i
