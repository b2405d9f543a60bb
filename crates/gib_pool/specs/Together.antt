-- One store of all the words, over which the tasks of all passes are sound at once.
use Rattle.std.specs.Prelude.{◌≡◌, ℕ, ◌+◌, ◌*◌, ◌/◌, ◌<◌, ◌≤◌, true, List, slice_index}
use Rattle.gib_mem.specs.Memory.{Cell, Store, absent, fresh, byte, IsThere, look_of}
use Rattle.gib_weave.specs.Places.{Owned}
use Rattle.gib_arena.specs.declared.view.View.{View}
use Rattle.gib_arena.specs.Bytes.{byte_in}
use Rattle.gib_arena.specs.Cells.{cells_of}
use Rattle.gib_arena.specs.Says.{IsPass}
use Rattle.gib_pool.specs.Turn.{Wider}

-- 1 for a place where a byte may be put.
abbrev pub free : Cell → ℕ
free absent = 0
free fresh = 1
free (byte b) = 0

-- The addresses that are fresh to a pass: those that its task may put.
abbrev pub fresh_to : View → Owned
fresh_to v q = free (cells_of v.holding q)

-- The words and what all passes hold are, together, this one store.
pub record Together (words : List ℕ) (views : List View) (r : Store) : Type 0 where
  -- what a pass knows is known in it, and what is fresh to a pass is fresh in it
  pub each : (j : ℕ) (v : View) → IsPass views j v → Wider (cells_of v.holding) r
  -- what stands in it stands there for a live pass
  pub held : (a : ℕ) → IsThere (r a) → (j : ℕ) × (v : View) × IsPass views j v × (v.branch.live ≡ true) × (cells_of v.holding a ≡ r a)
  -- the words have its bytes, and 0 where it has none
  pub bytes : (a : ℕ) → byte_in (slice_index words (a / 8 + 1)) a ≡ look_of (r a)
  -- it has every address of the chunks that word 0 counts, and no other
  pub drawn : (a : ℕ) → a < 4096 * slice_index words 0 → IsThere (r a)
  pub above : (a : ℕ) → 4096 * slice_index words 0 ≤ a → r a ≡ absent
  -- what is fresh to a pass stands there for no other pass
  pub apart : (i j : ℕ) (v w : View) → IsPass views i v → IsPass views j w → (a : ℕ) → cells_of v.holding a ≡ fresh → IsThere (cells_of w.holding a) → i ≡ j
