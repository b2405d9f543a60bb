-- What the calls leave to those that follow.
use Rattle.std.specs.Prelude.{◌≡◌, ℕ, ◌+◌, ◌≤◌, ◌^◌, ◌⊎◌, List}
use Rattle.gib_mem.specs.Memory.{Store, Memory, Owned, Holds, Grows}
pub use Rattle.gib_mem.specs.Memory.{IsBounded}
use Rattle.gib_region.specs.Region.{rest, Behind, pointer, IsApart, AreOwned}

-- Once an item of k bytes is placed at a: its bytes are owned, so is the rest of the chunk behind it, where a redirect
-- fits; what was known stays; the item is where the cursor was, or a redirect leads there.
pub record Leaves (m m' : Memory) (at k a : ℕ) : Type 0 where
  pub owned : Owned m'.cells a k
  pub behind : Owned m'.cells (a + k) (rest (a + k))
  pub redirect_fits : 9 ≤ rest (a + k)
  pub grows : Grows m.cells m'.cells
  pub led : (a ≡ at) ⊎ Holds m'.cells at (pointer 255 a)
  pub small : a + k + 9 ≤ 2 ^ 44

-- The tails are owned, and the cursor is in none of their chunks.
pub record TailsKept (s : Store) (tails : List ℕ) (at : ℕ) : Type 0 where
  pub owned : AreOwned s tails
  pub apart : IsApart at tails

-- Once a region has begun: the rest of the chunk behind its start is owned, 74 bytes at least, and so are the tails.
pub record BeginsOwned (s : Store) (tails : List ℕ) (at : ℕ) : Type 0 where
  pub behind : Behind s at
  pub long : 74 ≤ rest at
  pub kept : TailsKept s tails at
