-- Where items go, by their lengths alone.
use Rattle.std.specs.Prelude.{ℕ, ◌+◌, ◌*◌, List, [], ◌∷◌, if◌then◌else◌}
use Rattle.gib_types.specs.Layout.{LaidOut, head_size}
use Rattle.gib_types.specs.Tree.{Datum, whole, truth, con, Data, none, more}
use Rattle.gib_region.specs.Region.{has_room}

-- The cursor of a region, and how many chunks are drawn.
pub record Spot : Type 0 where
  pub at : ℕ
  pub drawn : ℕ

-- The spot at which an item of k bytes goes: the cursor, or the start of a new chunk.
abbrev pub room_for : Spot → ℕ → Spot
room_for s k = if has_room s.at k then s else record { at = 4096 * s.drawn; drawn = s.drawn + 1 }

-- The spot so many bytes further on.
abbrev pub further : Spot → ℕ → Spot
further s k = record { at = s.at + k; drawn = s.drawn }

-- The spot behind an item of k bytes.
abbrev pub past_item : Spot → ℕ → Spot
past_item s k = further (room_for s k) k

-- The spot behind a value, and behind the values of fields; a scalar stands in its head.
abbrev mutual
  pub past_value : LaidOut → Spot → Datum → Spot
  past_value laid s (whole z) = s
  past_value laid s (truth b) = s
  past_value laid s (con k vs) = past_fields laid (past_item s (head_size laid k)) vs

  pub past_fields : LaidOut → Spot → Data → Spot
  past_fields laid s none = s
  past_fields laid s (more v vs) = past_fields laid (past_value laid s v) vs

-- Where the packed fields start that are placed from a spot on: each where the cursor is then.
abbrev pub places : LaidOut → Spot → Data → List ℕ
places laid s none = []
places laid s (more (whole z) vs) = places laid s vs
places laid s (more (truth b) vs) = places laid s vs
places laid s (more (con k ws) vs) = s.at ∷ places laid (past_value laid s (con k ws)) vs
