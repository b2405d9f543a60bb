-- What is in scope was bound; more is in scope.
use Rattle.std.proofs.Common.{◌≡◌, ℕ, ◌+◌, ◌≤◌, true, List}
use Rattle.gib_core.specs.declared.atom.Variable.{Variable}
use Rattle.gib_core.specs.declared.scope.Known.{Known}
use Rattle.gib_core.specs.Rules.{Before, type_bound}
use Rattle.gib_core.proofs.Cased.{has}
use Rattle.gib_place.proofs.Counts.{occurs}
use Rattle.gib_place.proofs.Wider.{nums}

-- What is in scope was bound.
abbrev pub Scoped : List Known → Before → Type 0
Scoped ks b = (y : Variable) → has ks y ≡ true → 1 ≤ occurs (nums b.bound) y.0

-- What comes binds nothing twice.
abbrev pub Room : Before → List ℕ → Type 0
Room b xs = (y : ℕ) → occurs (nums b.bound) y + occurs xs y ≤ 1

-- More is in scope, with the types that it had; the same was cased.
pub record Wider (from : List Known) (b : Before) (ks : List Known) (b' : Before) : Type 0 where
  pub scope : (y : Variable) → has from y ≡ true → has ks y ≡ true
  pub types : (y : Variable) → has from y ≡ true → type_bound b'.bound y ≡ type_bound b.bound y
  pub cased : b'.cased ≡ b.cased
