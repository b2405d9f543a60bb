-- What contracts see of a pass.
use Rattle.std.specs.Prelude.{◌≡◌}
use Rattle.gib_mem.specs.Memory.{Store}
use Rattle.gib_arena.specs.declared.view.View.{View}
use Rattle.gib_arena.specs.declared.memory.Arena.{Arena}
use Rattle.gib_arena.specs.declared.memory.Pass.{Pass}
use Rattle.gib_arena.specs.Cells.{cells_of}

-- What the pass holds, and where it stands among the passes.
abbrev pub view : Pass → View
view p = p.seat.me.0

-- What stands at each address for the pass.
abbrev pub cells : Pass → Store
cells p = cells_of p.seat.me.0.holding

-- The pass is of this arena.
abbrev pub IsOf : Arena → Pass → Type 0
IsOf a p = p.seat.table_id ≡ a.table.shared.table_id
