-- What the check answers where it refuses.
use Rattle.std.specs.Prelude.{◌≡◌, Some}
use Rattle.gib_syntax.specs.GenericTree.{GenericProgramTree}
use Rattle.gib_check.specs.declared.fault.Fault.{Fault}
use Rattle.gib_check.specs.declared.fault.TypeFault.{TypeFault}
use Rattle.gib_check.specs.declared.fault.TypeFault.TheVariants as t
use Rattle.gib_check.specs.FirstFault.{first_fault}

-- The refusal is for want of memory, and not for a rule.
abbrev pub IsMemory : TypeFault → Type 0
IsMemory t.Memory = Unit {0}
IsMemory (t.Broken fault) = ⊥

-- The refusal is for want of memory, or this one.
abbrev pub IsMemoryOr : Fault → TypeFault → Type 0
IsMemoryOr fault t.Memory = Unit {0}
IsMemoryOr fault (t.Broken other) = other ≡ fault

-- A refusal is for want of memory, or for the first broken rule.
abbrev pub IsFirst : GenericProgramTree → TypeFault → Type 0
IsFirst p t.Memory = Unit {0}
IsFirst p (t.Broken fault) = first_fault p ≡ Some fault
