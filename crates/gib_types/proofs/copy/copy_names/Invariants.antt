use Rattle.std.proofs.Common.{◌-◌, ◌≡◌, ◌≤◌, length, take, map}
use Rattle.gib_base.specs.declared.name.Name.{Name}
use Rattle.gib_types.proofs.copy.copy_names.Given as goal

abbrev pub invariant-types : goal.invariant-types
invariant-types l = (l.i ≤ length l.types.types) × (map (λ (n : Name). n.0) l.names.items ≡ take l.i l.types.types)

abbrev pub decreases-types : goal.decreases-types
decreases-types l = l.count - l.i
