-- What is left of a payload where some of its heads were placed.
use Rattle.std.specs.Prelude.{◌≡◌, ℕ, ◌+◌, ◌*◌, ◌<◌, ◌≤◌, List, [], ◌∷◌, ◌++◌, length, Bool, true, false, Option, Some, None}
use Rattle.gib_mem.specs.Memory.{Memory, Owned, after_puts}
use Rattle.gib_types.specs.Layout.{LaidOut, has_offsets, head_size}
use Rattle.gib_types.specs.Table.{Table, con_at, fields_at}
use Rattle.gib_types.specs.Tree.{HaveTypes}
use Rattle.gib_packed.specs.Head.{address}
use Rattle.gib_packed.specs.Scalars.{scalars}
use Rattle.gib_load.specs.Preorder.{Head, all_heads}
use Rattle.gib_load.specs.Spot.{Spot, past_item, past_fields}
use Rattle.gib_load.specs.Gaps.{filled}

-- The bytes of heads without offsets.
abbrev pub bytes_of : List Head → List ℕ
bytes_of [] = []
bytes_of (h ∷ hs) = (h.tag ∷ scalars h.fields) ++ bytes_of hs

-- A head of a constructor of the table, with fields of its types.
pub record IsHead (table : Table) (h : Head) : Type 0 where
  pub owner : ℕ
  pub owned : con_at table owner h.tag ≡ Some h.tag
  pub typed : HaveTypes table h.fields (fields_at table h.tag)

-- Each is one.
pub data AreHeads (table : Table) : List Head → Type 0 where
  no_heads : AreHeads table []
  one_head : {h : Head} {hs : List Head} → IsHead table h → AreHeads table hs → AreHeads table (h ∷ hs)

-- All heads of values, each of which is told by its first one.
abbrev pub all_of : List Head → List Head
all_of [] = []
all_of (h ∷ f) = h ∷ (all_heads h.fields ++ all_of f)

-- Where these values start, from a spot on.
abbrev pub starts : LaidOut → Spot → List Head → List ℕ
starts laid s [] = []
starts laid s (h ∷ f) = s.at ∷ starts laid (past_fields laid (past_item s (head_size laid h.tag)) h.fields) f

-- Each value has a gap, where gaps are kept; else no constructor has offsets.
abbrev pub IsLong : LaidOut → Bool → List (Option ℕ) → List Head → Type 0
IsLong laid true dues forest = length dues ≡ length forest
IsLong laid false dues forest = (dues ≡ []) × ((k : ℕ) → k < length laid.table.rows → has_offsets laid k ≡ false)

-- Each gap is fresh and lies below the address, also once it is noted in those before it.
abbrev pub AreOpen : Memory → ℕ → List (Option ℕ) → Type 0
AreOpen m at [] = Unit {0}
AreOpen m at (None ∷ ds) = AreOpen m at ds
AreOpen m at (Some gap ∷ ds) = Owned m.cells gap 8 × (gap + 8 ≤ at) × ((start : ℕ) → AreOpen (after_puts m gap (address start)) at ds)

-- The bytes are those of values that are due, from a spot on; once it is noted in the gaps where these start the memory is the target.
pub record Rest (laid : LaidOut) (noting : Bool) (spot : Spot) (now : Memory) (bytes : List ℕ) (dues : List (Option ℕ)) (target : Memory) : Type 0 where
  pub forest : List Head
  pub left : bytes ≡ bytes_of (all_of forest)
  pub typed : AreHeads laid.table (all_of forest)
  pub long : IsLong laid noting dues forest
  pub same : filled now dues (starts laid spot forest) ≡ target
