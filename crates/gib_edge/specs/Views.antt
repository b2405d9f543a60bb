-- What is told of a shelf and of a sink.
use Rattle.std.specs.Prelude.{ℕ, List, Option}

-- What a name holds: it is not told; nothing, since the name is not there; or these bytes.
pub data Held : Type 0 where
  Hidden : Held
  Missing : Held
  Has : List ℕ → Held

-- A call of a shelf: a read of a name that asks for so many bytes, or a write of a name.
pub data Call : Type 0 where
  ReadOf : List ℕ → ℕ → Call
  WriteOf : List ℕ → Call

-- What is told of a shelf: what each name holds, how often reads and writes of it have failed, and all calls so
-- far, where these are told.
pub record ShelfView : Type 0 where
  pub kept : List ℕ → Held
  pub reads : List ℕ → ℕ
  pub writes : List ℕ → ℕ
  pub calls : Option (List Call)

-- What is told of a sink: all bytes that it took, where they are told, how often it has failed, how often it was
-- called, how many of the pieces that it was given were of 4,096 bytes, and the length of the last one.
pub record SinkView : Type 0 where
  pub taken : Option (List ℕ)
  pub faults : ℕ
  pub puts : ℕ
  pub whole : ℕ
  pub last : ℕ
