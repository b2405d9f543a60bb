-- The memory that a pass shows.
use Rattle.std.specs.Prelude.{ℕ, ◌&&◌, Bool, true, false, List, [], ◌∷◌}
use Rattle.atomic_table.specs.Seated.{TableId}
use Rattle.gib_mem.specs.Memory.{Memory, sole}
use Rattle.gib_arena.specs.declared.view.Branch.{Branch}
use Rattle.gib_arena.specs.declared.view.View.{View}
use Rattle.gib_arena.specs.Bytes.{share}
use Rattle.gib_arena.specs.Cells.{cells_of}

-- Whether a list has no item.
abbrev pub is_empty : {A : Type 0} → List A → Bool
is_empty [] = true
is_empty (x ∷ xs) = false

-- The first pass, with no other one out.
abbrev pub is_alone : Branch → Bool
is_alone b = b.live && (is_empty b.path && is_empty b.out)

-- What no other table has.
abbrev pub name_of : TableId → List ℕ
name_of z = z.words ∷ z.slots ∷ z.views_name ∷ z.atom ∷ z.block ∷ z.offset ∷ z.slot_names

-- What a pass of the arena of this table is as a memory: it is alone where it is the first pass and none is out.
abbrev pub shown : TableId → View → Memory
shown z v = record {
  cells = cells_of v.holding;
  drawn = v.holding.seen;
  share = share v.holding;
  limit = v.branch.limit;
  alone = is_alone v.branch;
  holder = record { arena = name_of z; path = v.branch.path; splits = v.branch.next; out = v.branch.out };
}

-- What the first pass of an arena is as a memory together with that arena, where no other pass is out: memory of one owner.
abbrev pub shown_alone : View → Memory
shown_alone v = record {
  cells = cells_of v.holding;
  drawn = v.holding.seen;
  share = share v.holding;
  limit = v.branch.limit;
  alone = true;
  holder = sole;
}
