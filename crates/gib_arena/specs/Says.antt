-- What the rule means, in terms of what stands at each address for each pass.
use Rattle.std.specs.Prelude.{◌≡◌, ◌≢◌, ℕ, ◌+◌, ◌*◌, ◌/◌, ◌<◌, ◌≤◌, true, false, List, [], ◌∷◌, ◌++◌, slice_index}
use mathlib.Core.Option.{some}
use lib.ListN.{get_elem?}
use Rattle.gib_arena.specs.declared.view.View.{View}
use Rattle.gib_arena.specs.Sums.{total, times_path}
use Rattle.gib_mem.specs.Memory.{Store, absent, fresh, byte, IsThere, Grows}
use Rattle.gib_arena.specs.Bytes.{share, byte_in}
use Rattle.gib_arena.specs.Cells.{cells_of}
use Rattle.gib_arena.specs.Rule.{nothing}
use Rattle.gib_arena.specs.Tree.{IsUnder, IsAlone}

-- The pass with this number has this view.
abbrev pub IsPass : List View → ℕ → View → Type 0
IsPass views j v = get_elem? views j ≡ some v

-- The rule in the words of cells: what every caller may rest on, whatever threads do in whatever order.
pub record Says (limit : ℕ) (words : List ℕ) (views : List View) : Type 0 where
  -- a known byte is the byte of its word, and a byte that nobody knows is 0 there
  pub known_is : (j : ℕ) (v : View) → IsPass views j v → (a b : ℕ) → cells_of v.holding a ≡ byte b → byte_in (slice_index words (a / 8 + 1)) a ≡ b
  pub unknown_is_zero : (a : ℕ) → ((j : ℕ) (v : View) (b : ℕ) → IsPass views j v → cells_of v.holding a ≢ byte b) → byte_in (slice_index words (a / 8 + 1)) a ≡ 0
  -- an address is fresh to one pass at most, and known to none while it is
  pub fresh_once : (i j : ℕ) (v w : View) → IsPass views i v → IsPass views j w → (a : ℕ) → cells_of v.holding a ≡ fresh → cells_of w.holding a ≡ fresh → i ≡ j
  pub fresh_is_unknown : (i j : ℕ) (v w : View) → IsPass views i v → IsPass views j w → (a b : ℕ) → cells_of v.holding a ≡ fresh → cells_of w.holding a ≢ byte b
  -- each address of a chunk that was drawn is fresh or known to some live pass
  pub drawn_is_held : (a : ℕ) → a < 4096 * slice_index words 0 → (j : ℕ) × (v : View) × IsPass views j v × (v.branch.live ≡ true) × IsThere (cells_of v.holding a)
  -- and no pass may touch another address; one that was joined holds nothing
  pub held_is_drawn : (j : ℕ) (v : View) → IsPass views j v → (a : ℕ) → IsThere (cells_of v.holding a) → a < 4096 * slice_index words 0
  pub spent_is_empty : (j : ℕ) (v : View) → IsPass views j v → v.branch.live ≡ false → v.holding ≡ nothing
  -- one store over all passes: what any of them knows stands in it, and nothing where a byte is still fresh
  pub whole : Store
  pub grows : (j : ℕ) (v : View) → IsPass views j v → Grows (cells_of v.holding) whole
  pub fresh_is_free : (j : ℕ) (v : View) → IsPass views j v → (a : ℕ) → cells_of v.holding a ≡ fresh → whole a ≡ absent
  -- the counter is the sum of the shares and at most the limit; no pass saw more, and none has more chunks than it saw
  pub shares_add_up : total (λ (v : View). share v.holding) views ≡ slice_index words 0
  pub within_limit : slice_index words 0 ≤ limit
  pub seen_is : (j : ℕ) (v : View) → IsPass views j v → v.holding.seen ≤ slice_index words 0
  pub share_seen : (j : ℕ) (v : View) → IsPass views j v → share v.holding ≤ v.holding.seen
  -- live passes have paths of their own; each but the first is out of one live pass, whose path is a front of its own, and the
  -- number behind that front is one of that pass's splits; what is out of a pass is the path of one live pass, and is out once
  pub paths_differ : (i j : ℕ) (v w : View) → IsPass views i v → IsPass views j w → v.branch.live ≡ true → w.branch.live ≡ true → v.branch.path ≡ w.branch.path → i ≡ j
  pub has_parent : (j : ℕ) (w : View) → IsPass views j w → w.branch.live ≡ true → w.branch.path ≢ [] → (i : ℕ) × (v : View) × IsPass views i v × (v.branch.live ≡ true) × (0 < times_path w.branch.path v.branch.out) × IsUnder v.branch.path w.branch.path
  pub one_parent : (i j : ℕ) (v w : View) → IsPass views i v → IsPass views j w → (p : List ℕ) → 0 < times_path p v.branch.out → 0 < times_path p w.branch.out → i ≡ j
  pub out_is_live : (i : ℕ) (v : View) → IsPass views i v → (p : List ℕ) → 0 < times_path p v.branch.out → (times_path p v.branch.out ≡ 1) × ((j : ℕ) × (w : View) × IsPass views j w × (w.branch.live ≡ true) × (w.branch.path ≡ p))
  pub splits_are_numbered : (i j : ℕ) (v w : View) → IsPass views i v → IsPass views j w → v.branch.live ≡ true → w.branch.live ≡ true → (k : ℕ) (rest : List ℕ) → w.branch.path ≡ v.branch.path ++ k ∷ rest → k < v.branch.next
  -- where the first pass has none out, no other one is live
  pub alone_is_only : (i j : ℕ) (v w : View) → IsPass views i v → IsPass views j w → IsAlone v.branch → w.branch.live ≡ true → j ≡ i
