-- What the location checker answers.
use Rattle.std.specs.Prelude.{◌≡◌, ℕ}
use Rattle.gib_core.specs.Tree.{CoreTree}
use Rattle.gib_core.specs.Rules.{first_broken}
use Rattle.gib_loccheck.specs.declared.fault.LocFault.{LocFault}
use Rattle.gib_loccheck.specs.declared.fault.LocFault.TheVariants as fault
use Rattle.gib_loccheck.specs.Judging.{Says}

-- The refusal is for want of memory, and not for a rule.
abbrev pub IsMemory : LocFault → Type 0
IsMemory fault.Memory = Unit {0}
IsMemory (fault.Rule rule place) = ⊥

-- The refusal is for want of memory, or for this rule at this term.
abbrev pub IsMemoryOr : ℕ → ℕ → LocFault → Type 0
IsMemoryOr r p fault.Memory = Unit {0}
IsMemoryOr r p (fault.Rule rule place) = (rule ≡ r) × (place ≡ p)

-- A refusal is for want of memory, or for the first broken rule: that of the smallest term, there the smallest rule.
abbrev pub IsFirst : CoreTree → LocFault → Type 0
IsFirst core e = Says e (first_broken core)
