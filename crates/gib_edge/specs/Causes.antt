-- When a fault may be told, and what a shelf or a sink tells of its bytes and its calls.
use Rattle.std.specs.Prelude.{◌≡◌, ◌≢◌, ◌⊎◌, ℕ, ◌+◌, ◌-◌, ◌^◌, ◌/◌, ◌%◌, ◌<◌, ◌≤◌, min, max, Bool, List, ◌++◌, take, Option, Some, if◌then◌else◌, Result, IfSome, OnOk, OnErr}
use Rattle.gib_edge.specs.Views.{Held, Hidden, Missing, Has, SinkView}

-- The count went up, or stands at 2^64 - 1, where a 64-bit counter stays.
abbrev pub Rose : ℕ → ℕ → Type 0
Rose before now = (before < now) ⊎ (now ≡ 2 ^ 64 - 1)

-- A count after so many more; it goes no further than 2^64 - 1, and never falls.
abbrev pub raised : ℕ → ℕ → ℕ
raised count more = max count (min (count + more) (2 ^ 64 - 1))

-- The count never falls, an error is answered only where it rose, and it stays where there is none.
pub record HasCause {T E : Type 0} (before now : ℕ) (result : Result T E) : Type 0 where
  pub later : before ≤ now
  pub failed : OnErr result (Rose before now)
  pub quiet : OnOk result (now ≡ before)

-- The bytes, where they are told.
abbrev pub told : Bool → List ℕ → Held
told tells bytes = if tells then Has bytes else Hidden

-- These are all bytes of a name, where that is told; none are those of a name that is not there.
abbrev pub IsAllOf : Held → List ℕ → Type 0
IsAllOf Hidden bytes = Unit {0}
IsAllOf Missing bytes = ⊥
IsAllOf (Has all) bytes = bytes ≡ all

-- These are the bytes of a name, or the first of so many; none are those of a name that is not there.
abbrev pub IsFrontOf : Held → ℕ → List ℕ → Type 0
IsFrontOf Hidden most bytes = Unit {0}
IsFrontOf Missing most bytes = ⊥
IsFrontOf (Has all) most bytes = bytes ≡ take most all

-- No bytes are told of a name.
abbrev pub IsUntold : Held → Type 0
IsUntold Hidden = Unit {0}
IsUntold Missing = Unit {0}
IsUntold (Has all) = ⊥

-- Where the items so far are told: these were added at their end.
abbrev pub Appends : {X : Type 0} → Option (List X) → Option (List X) → List X → Type 0
Appends old new items = IfSome old (λ before. new ≡ Some (before ++ items))

-- Where the items so far are told: a front of these was added at their end.
abbrev pub AppendsPart : {X : Type 0} → Option (List X) → Option (List X) → List X → Type 0
AppendsPart old new items = IfSome old (λ before. (n : ℕ) × (new ≡ Some (before ++ take n items)))

-- One more piece was put, of so many bytes.
pub record HasPut (before now : SinkView) (bytes : ℕ) : Type 0 where
  pub puts : now.puts ≡ raised before.puts 1
  pub whole : bytes ≡ 4096 → now.whole ≡ raised before.whole 1
  pub other : bytes ≢ 4096 → now.whole ≡ before.whole
  pub last : now.last ≡ bytes

-- So many more pieces were put, all of 4,096 bytes.
pub record PutsWhole (before now : SinkView) (count : ℕ) : Type 0 where
  pub puts : now.puts ≡ raised before.puts count
  pub whole : now.whole ≡ raised before.whole count

-- In how many pieces of at most 4,096 bytes, none of them empty, so many bytes can be put at best.
abbrev pub pieces : ℕ → ℕ
pieces bytes = (bytes + 4095) / 4096

-- The length of the last of these pieces, where all others are of 4,096 bytes.
abbrev pub last_piece : ℕ → ℕ
last_piece bytes = (bytes + 4095) % 4096 + 1

-- So many bytes were put in as few pieces as can be: all but the last are of 4,096 bytes, and the last is of the bytes that
-- are left, which are no more.
pub record PutsPieces (before now : SinkView) (bytes : ℕ) : Type 0 where
  pub puts : now.puts ≡ raised before.puts (pieces bytes)
  pub whole : now.whole ≡ raised before.whole (bytes / 4096)
  pub last : 0 < bytes → now.last ≡ last_piece bytes

-- A front of so many bytes was put in such pieces.
pub record PutsSomePieces (before now : SinkView) (bytes : ℕ) : Type 0 where
  pub front : ℕ
  pub within : front ≤ bytes
  pub puts : PutsPieces before now front
