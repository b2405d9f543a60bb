-- What loading makes of a memory.
use Rattle.std.specs.Prelude.{ℕ, ◌+◌, ◌*◌, List, [], ◌∷◌, if◌then◌else◌}
use Rattle.gib_mem.specs.Memory.{Memory, after_puts, after_draw}
use Rattle.gib_types.specs.Layout.{LaidOut, head_size}
use Rattle.gib_types.specs.Tree.{Datum, whole, truth, con}
use Rattle.gib_region.specs.Region.{redirected, finished, has_room}
use Rattle.gib_packed.specs.Head.{head_bytes}
use Rattle.gib_packed.specs.declared.root.Root.{Root}
use Rattle.gib_packed.specs.declared.root.Root.TheVariants.{Whole, Truth, At}
use Rattle.gib_load.specs.Preorder.{Head, heads}
use Rattle.gib_load.specs.Spot.{Spot, further, places}

-- A region that is open: the memory, and the cursor.
pub record Open : Type 0 where
  pub memory : Memory
  pub at : ℕ

-- Where an open region's cursor is, with the chunks that are drawn.
abbrev pub spot_of : Open → Spot
spot_of r = record { at = r.at; drawn = r.memory.drawn }

-- The region once an item of k bytes goes at its cursor: where there was no room, a chunk was drawn and a redirect to
-- it put.
abbrev pub with_room : Open → ℕ → Open
with_room r k = if has_room r.at k then r else record { memory = redirected r.memory r.at r.memory.drawn; at = 4096 * r.memory.drawn }

-- Bytes are put at the cursor, which is behind them then.
abbrev pub with_bytes : Open → ℕ → List ℕ → Open
with_bytes r k bytes = record { memory = after_puts r.memory r.at bytes; at = r.at + k }

-- A head is put at the cursor. The offsets in it are the places that its packed fields get.
abbrev pub put_head : LaidOut → Open → Head → Open
put_head laid r h = with_bytes r (head_size laid h.tag) (head_bytes laid h.tag (places laid (further (spot_of r) (head_size laid h.tag)) h.fields) h.fields)

-- One head more, where there is room for it.
abbrev pub place_head : LaidOut → Open → Head → Open
place_head laid r h = put_head laid (with_room r (head_size laid h.tag)) h

-- Heads, one after another.
abbrev pub place_heads : LaidOut → Open → List Head → Open
place_heads laid r [] = r
place_heads laid r (h ∷ hs) = place_heads laid (place_head laid r h) hs

-- A region that begins with no tail kept.
abbrev pub begun : Memory → Open
begun m = record { memory = after_draw m m.drawn; at = 4096 * m.drawn }

-- The memory, the root and the tails that loading leaves.
pub record Placement : Type 0 where
  pub memory : Memory
  pub root : Root
  pub tails : List ℕ

-- The placement once a region is finished that was begun in the memory.
abbrev pub finished_at : Memory → Open → Placement
finished_at m r = record { memory = r.memory; root = At (4096 * m.drawn); tails = finished [] r.at }

-- What a memory in which nothing is drawn, with no tails, becomes by a value: a scalar is its own root and leaves all as
-- it was; for a constructor one region is begun, the heads are placed in preorder, and the region is finished.
abbrev pub placed_in : LaidOut → Memory → Datum → Placement
placed_in laid m (whole z) = record { memory = m; root = Whole z; tails = [] }
placed_in laid m (truth b) = record { memory = m; root = Truth b; tails = [] }
placed_in laid m (con k vs) = finished_at m (place_heads laid (begun m) (heads (con k vs)))
