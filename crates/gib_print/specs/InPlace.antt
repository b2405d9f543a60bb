-- A payload as a memory that is only read.
use Rattle.std.specs.Prelude.{◌≡◌, ℕ, ◌*◌, ◌≤◌, ◌<◌, ◌^◌, Bool, List, [], length, Option, None, Some, true, false, slice_get}
use Rattle.std.proofs.Common.{arith, ap, eqb, cond, ◌∙◌}
use Rattle.std.proofs.lemmas.Bool.Decides.{nat_tests}
use Rattle.std.proofs.lemmas.Option.{slice_get_past}
use Rattle.gib_types.specs.Layout.{LaidOut}
use Rattle.gib_types.specs.Table.{Table}
use Rattle.gib_mem.specs.Memory.{Cell, absent, fresh, byte, Store, set_cell, Memory, sole, IsBounded}

-- What stands where there is a byte, or none.
abbrev pub cell_of : Option ℕ → Cell
cell_of None = absent
cell_of (Some b) = byte b

-- What stands at each address: that of the first byte is 0.
abbrev pub cells_of : List ℕ → Store
cells_of bytes q = cell_of (slice_get bytes q)

-- What stands at each address where the place behind the bytes is closed, open, or holds a byte that was put.
abbrev pub cells_with : Option (Option ℕ) → List ℕ → Store
cells_with None bytes = cells_of bytes
cells_with (Some None) bytes = set_cell (cells_of bytes) (length bytes) fresh
cells_with (Some (Some b)) bytes = set_cell (set_cell (cells_of bytes) (length bytes) fresh) (length bytes) (byte b)

-- The byte that was put behind the bytes; 0 where none was.
abbrev pub behind_byte : Option (Option ℕ) → ℕ
behind_byte None = 0
behind_byte (Some None) = 0
behind_byte (Some (Some b)) = b

-- The memory that the bytes and the place behind them are, of so many chunks.
abbrev pub read_only : Option (Option ℕ) → List ℕ → ℕ → Memory
read_only behind bytes chunks = record { cells = cells_with behind bytes; drawn = chunks; share = chunks; limit = chunks; alone = true; holder = sole }

-- How the heads of a payload lie: without offsets.
abbrev pub packed_layout : Table → LaidOut
packed_layout table = record { table = table; with_offsets = [] }

-- At an address behind the one that is set stands what stood there.
elsewhere : (s : Store) (at q : ℕ) (c : Cell) → at < q → set_cell s at c q ≡ s q
elsewhere s at q c lt = let e : eqb q at ≡ false = grind (arith, nat_tests) in ap (λ (b : Bool). cond b c (s q)) e

-- Nothing stands past the bytes.
past_bytes : (bytes : List ℕ) (q : ℕ) → length bytes < q → cells_of bytes q ≡ absent
past_bytes bytes q lt = ap cell_of (slice_get_past bytes q (omega (arith, lt)))

-- The same past an open place behind them.
past_open : (bytes : List ℕ) (q : ℕ) → length bytes < q → cells_with (Some None) bytes q ≡ absent
past_open bytes q lt = elsewhere (cells_of bytes) (length bytes) q fresh lt ∙ past_bytes bytes q lt

-- The same past that place, whatever it is.
past_behind : (behind : Option (Option ℕ)) (bytes : List ℕ) (q : ℕ) → length bytes < q → cells_with behind bytes q ≡ absent
past_behind None bytes q lt = past_bytes bytes q lt
past_behind (Some None) bytes q lt = past_open bytes q lt
past_behind (Some (Some b)) bytes q lt = elsewhere (cells_with (Some None) bytes) (length bytes) q (byte b) lt ∙ past_open bytes q lt

-- Nothing stands past the place behind the bytes.
pub read_only_bounded : (behind : Option (Option ℕ)) (bytes : List ℕ) (chunks : ℕ) → length bytes < 4096 * chunks → chunks < 2 ^ 32
    → IsBounded (read_only behind bytes chunks)
read_only_bounded behind bytes chunks long small = record {
  above = λ q h. past_behind behind bytes q (omega (arith, long, h));
  order = omega arith;
  small = small;
}
