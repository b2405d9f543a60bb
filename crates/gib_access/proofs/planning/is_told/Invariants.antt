use Rattle.std.proofs.Common.{◌≡◌, ◌≤◌, ◌-◌, length, drop, take}
use Rattle.gib_core.specs.Arena.{term_of, binds_from}
use Rattle.gib_access.specs.Planned.{any_tells}
use Rattle.gib_access.proofs.planning.is_told.Given as goal

abbrev pub invariant-bindings : goal.invariant-bindings
invariant-bindings l =
    (l.i ≤ l.many)
    × (any_tells l.source.ended.now (take l.many (binds_from (term_of l.source.terms.now) l.bindings)) l.z ≡ any_tells l.source.ended.now (take (l.many - l.i) (binds_from (term_of l.source.terms.now) (drop l.i l.bindings))) l.z)

abbrev pub decreases-bindings : goal.decreases-bindings
decreases-bindings l = l.many - l.i
