-- The second part of the rule: how the passes were split from one another.
use Rattle.std.specs.Prelude.{◌≡◌, ◌≢◌, ℕ, ◌<◌, ◌≤◌, true, false, ◌&&◌, List, [], ◌∷◌, ◌++◌}
use mathlib.Core.Option.{some}
use lib.ListN.{get_elem?}
use Rattle.gib_arena.specs.declared.view.Branch.{Branch}
use Rattle.gib_arena.specs.Sums.{total, one_if, same_path, times_path}

-- 1 for a live pass with this path.
abbrev pub stands : List ℕ → Branch → ℕ
stands p b = one_if (b.live && same_path b.path p)

-- The second path is the first and more.
abbrev pub IsUnder : List ℕ → List ℕ → Type 0
IsUnder p q = (k : ℕ) × (rest : List ℕ) × (q ≡ p ++ k ∷ rest)

-- Paths of live passes differ; each but the empty one is out of one pass, whose path is a front of it; a pass numbers
-- its splits from 0 on; and a pass that was joined has none out.
pub record Rooted (limit : ℕ) (bs : List Branch) : Type 0 where
  pub distinct : (p : List ℕ) → total (stands p) bs ≤ 1
  pub parents : (p : List ℕ) → p ≢ [] → total (λ (b : Branch). times_path p b.out) bs ≡ total (stands p) bs
  pub below : (j : ℕ) (b : Branch) → get_elem? bs j ≡ some b → (p : List ℕ) → 0 < times_path p b.out → IsUnder b.path p
  pub numbers : (i j : ℕ) (b c : Branch) → get_elem? bs i ≡ some b → get_elem? bs j ≡ some c → b.live ≡ true → c.live ≡ true → (k : ℕ) (rest : List ℕ) → c.path ≡ b.path ++ k ∷ rest → k < b.next
  pub limits : (j : ℕ) (b : Branch) → get_elem? bs j ≡ some b → b.live ≡ true → b.limit ≡ limit
  pub spent_out : (j : ℕ) (b : Branch) → get_elem? bs j ≡ some b → b.live ≡ false → b.out ≡ []

-- The first pass, with no other one out.
abbrev pub IsAlone : Branch → Type 0
IsAlone b = (b.live ≡ true) × (b.path ≡ []) × (b.out ≡ [])
