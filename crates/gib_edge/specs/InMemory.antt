-- What the shelf and the sink in memory keep, and when they fail.
use Rattle.std.specs.Prelude.{◌≡◌, ℕ, List, [], Option, Some, Bool, ◌==◌, map}
use Rattle.std.specs.List.{list_any}
use Rattle.std.specs.String.{string_bytes}
use Rattle.gib_edge.specs.Views.{Held, Call, ReadOf, WriteOf, ShelfView, SinkView}
use Rattle.gib_edge.specs.Causes.{raised}
use Rattle.gib_edge.specs.Fails.{part_at}
use Rattle.gib_edge.specs.Files.{held, held_or_missing}
use Rattle.gib_edge.specs.declared.mem_shelf.MemShelf.{MemShelf}
use Rattle.gib_edge.specs.declared.mem_shelf.KeptCall.{KeptCall}
use Rattle.gib_edge.specs.declared.mem_shelf.KeptCall.TheVariants as kept
use Rattle.gib_edge.specs.declared.mem_sink.MemSink.{MemSink}

-- What a shelf keeps under a name.
abbrev pub kept_by : MemShelf → List ℕ → Held
kept_by shelf name = held_or_missing (held shelf.files.items name)

-- How often a read has failed, under any name.
abbrev pub failed_reads : MemShelf → ℕ
failed_reads shelf = shelf.read_faults

-- How often a write has failed, under any name.
abbrev pub failed_writes : MemShelf → ℕ
failed_writes shelf = shelf.write_faults

-- A call.
abbrev pub call_of : KeptCall → Call
call_of (kept.Read name most) = ReadOf (string_bytes name) most
call_of (kept.Write name) = WriteOf (string_bytes name)

-- All calls so far.
abbrev pub calls_of : MemShelf → List Call
calls_of shelf = map call_of shelf.called.items

-- What is told of a shelf.
abbrev pub shelf_view : MemShelf → ShelfView
shelf_view shelf = record { kept = kept_by shelf; reads = λ name. failed_reads shelf; writes = λ name. failed_writes shelf; calls = Some (calls_of shelf) }

-- Whether the next call, a read or a write, is one that fails.
abbrev pub is_due : MemShelf → Bool
is_due shelf = list_any (λ number. number == shelf.calls) shelf.fails.items

-- The numbers of the calls that fail stay, and one more call was made.
pub record ShelfTurned (old new : MemShelf) : Type 0 where
  pub fails : new.fails ≡ old.fails
  pub calls : new.calls ≡ raised old.calls 1

-- A shelf that was not called yet, and fails at the calls of these numbers.
pub record IsNewShelf (numbers : List ℕ) (shelf : MemShelf) : Type 0 where
  pub fails : shelf.fails.items ≡ numbers
  pub calls : shelf.calls ≡ 0
  pub called : calls_of shelf ≡ []
  pub reads : shelf.read_faults ≡ 0
  pub writes : shelf.write_faults ≡ 0

-- The bytes that a sink took.
abbrev pub taken_by : MemSink → List ℕ
taken_by sink = sink.bytes.items

-- For how many more bytes a sink has room.
abbrev pub room_left : MemSink → ℕ
room_left sink = sink.left

-- How often a sink has failed.
abbrev pub failed_puts : MemSink → ℕ
failed_puts sink = sink.faults

-- What is told of a sink.
abbrev pub sink_view : MemSink → SinkView
sink_view sink = record { taken = Some (taken_by sink); faults = failed_puts sink; puts = sink.pieces.puts; whole = sink.pieces.whole; last = sink.pieces.last }

-- After how many bytes the next put fails, if it is one that fails.
abbrev pub part_due : MemSink → Option ℕ
part_due sink = part_at sink.fails.items sink.pieces.puts

-- A sink that took nothing yet, with this room, which fails at these puts.
pub record IsNewSink (room : ℕ) (parts : List (ℕ × ℕ)) (sink : MemSink) : Type 0 where
  pub bytes : sink.bytes.items ≡ []
  pub left : sink.left ≡ room
  pub fails : sink.fails.items ≡ parts
  pub puts : sink.pieces.puts ≡ 0
  pub whole : sink.pieces.whole ≡ 0
  pub last : sink.pieces.last ≡ 0
  pub faults : sink.faults ≡ 0
