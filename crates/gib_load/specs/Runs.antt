-- Bytes of a payload that go one behind another, of which some wait.
use Rattle.std.specs.Prelude.{ℕ, ◌+◌, ◌-◌, ◌*◌, ◌≤◌, List, length, take, drop}
use Rattle.gib_mem.specs.Memory.{Memory, Owned, after_puts}
use Rattle.gib_region.specs.Stream.{streamed, MayWait}
use Rattle.gib_load.specs.declared.run.Run.{Run}

-- Those that the stream did not take yet.
abbrev pub untaken : List ℕ → Run → List ℕ
untaken payload r = take (r.to - r.from) (drop r.from payload)

-- The memory once all that wait are put.
abbrev pub carried : Memory → List ℕ → Run → Memory
carried m payload r = after_puts (streamed m r.stream) r.stream.at (untaken payload r)

-- They stand in the payload, and their addresses are fresh.
pub record Carries (m : Memory) (payload : List ℕ) (r : Run) : Type 0 where
  pub within : r.to ≤ length payload
  pub may : MayWait m.cells r.stream
  pub owned : Owned (streamed m r.stream).cells r.stream.at (r.to - r.from)

-- A head is put at an address, but for its gaps of eight bytes each: its tag, and behind so many gaps its scalars.
abbrev pub with_head : Memory → ℕ → ℕ → List ℕ → Memory
with_head m at gaps item = after_puts (after_puts m at (take 1 item)) (at + 1 + 8 * gaps) (drop 1 item)
