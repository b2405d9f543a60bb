use Rattle.std.proofs.Common.{◌+◌, ◌-◌, ◌≡◌, ◌≤◌, ◌<◌, ℕ, length, count_by, nat_lt, get_or}
use Rattle.gib_types.specs.declared.table.Constructor.{Constructor}
use Rattle.gib_types.proofs.table.list_firsts.Given as goal

abbrev pub invariant-types : goal.invariant-types
invariant-types l = (length l.firsts.items ≡ l.ty) × (l.ty ≤ l.types + 1) × ((ty : ℕ) → ty < l.ty → get_or l.firsts.items ty 0 ≡ count_by (λ (c : Constructor). nat_lt c.owner.0 ty) l.constructors)

abbrev pub decreases-types : goal.decreases-types
decreases-types l = l.types + 1 - l.ty
