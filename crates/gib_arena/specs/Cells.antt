-- What stands at each address for a pass.
use Rattle.std.specs.Prelude.{ℕ, ltb, cond, Option, Some, None}
use Rattle.gib_mem.specs.Memory.{Cell, Store, absent, fresh, byte}
use Rattle.gib_arena.specs.declared.view.Holding.{Holding}
use Rattle.gib_arena.specs.Sums.{times}
use Rattle.gib_arena.specs.Bytes.{chunk_of, byte_at}

-- The byte where there is one, else this cell.
abbrev pub byte_or : Cell → Option ℕ → Cell
byte_or c None = c
byte_or c (Some b) = byte b

-- In a chunk of its own it has put a byte or may put one; of the others it knows what it learned.
abbrev pub cells_of : Holding → Store
cells_of h a = cond (ltb 0 (times (chunk_of a) h.chunks)) (byte_or fresh (byte_at h.own a)) (byte_or absent (byte_at h.learned a))
