-- Where loading finds all chunks drawn.
use Rattle.std.specs.Prelude.{◌≡◌, ℕ, List, ◌∷◌, ◌++◌}
use Rattle.gib_mem.specs.Memory.{Memory}
use Rattle.gib_types.specs.Layout.{LaidOut, head_size}
use Rattle.gib_types.specs.Loaded.{Loaded}
use Rattle.gib_types.specs.Tree.{Datum, con, Data}
use Rattle.gib_region.specs.Region.{HasRoom}
use Rattle.gib_load.specs.Preorder.{Head, heads}
use Rattle.gib_load.specs.Placement.{Open, place_heads, begun}

-- Some of the heads were placed, and for the next one there is no room and no chunk. The memory is as these heads and
-- their redirects left it.
pub record Stuck (laid : LaidOut) (r : Open) (hs : List Head) (m : Memory) : Type 0 where
  pub front : List Head
  pub next : Head
  pub later : List Head
  pub parts : hs ≡ front ++ next ∷ later
  pub same : m ≡ (place_heads laid r front).memory
  pub no_room : HasRoom (place_heads laid r front).at (head_size laid next.tag) → ⊥
  pub all : m.drawn ≡ m.limit

-- The loading of a value is refused: there is no chunk to begin the region of a constructor in, or none for one of the
-- heads. A scalar needs no chunk.
pub data Refused (laid : LaidOut) (m : Memory) (v : Datum) : Memory → Type 0 where
  at_start : {k : ℕ} {vs : Data} → v ≡ con k vs → m.drawn ≡ m.limit → Refused laid m v m
  at_head : {m' : Memory} → Stuck laid (begun m) (heads v) m' → Refused laid m v m'

-- All chunks are drawn, and the value needs them.
pub record Spent (v : Datum) (m : Memory) : Type 0 where
  pub all : m.drawn ≡ m.limit
  pub loaded : Loaded m.limit v
