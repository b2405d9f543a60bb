-- What the search answers, beside the walk.
use Rattle.std.specs.Prelude.{◌≡◌, List, Result, Err}
use Rattle.gib_base.specs.declared.Span.{Span}
use Rattle.gib_mono.specs.declared.found.MonoFault.{MonoFault}
use Rattle.gib_mono.specs.declared.found.MonoFault.TheVariants as m
use Rattle.gib_mono.specs.Walk.{Copy}

-- A limit was met where the walk meets it first.
abbrev pub IsLimitOf : Result (List Copy) Span → MonoFault → Type 0
IsLimitOf r m.Memory = Unit {0}
IsLimitOf r (m.Limit span) = r ≡ Err span

-- Memory was wanting.
abbrev pub IsMemory : MonoFault → Type 0
IsMemory m.Memory = Unit {0}
IsMemory (m.Limit span) = ⊥

-- Memory was wanting, or the limit was met there.
abbrev pub IsMemoryOr : Span → MonoFault → Type 0
IsMemoryOr s m.Memory = Unit {0}
IsMemoryOr s (m.Limit span) = span ≡ s
