-- Memory of one owner over an arena.
use Rattle.gib_mem.specs.Memory.{Memory, IsBounded}
use Rattle.gib_arena.specs.declared.sole_mem.SoleMem.{SoleMem}
use Rattle.gib_arena.specs.Passes.{view}
use Rattle.gib_arena.specs.Shown.{shown_alone}
use Rattle.gib_arena.specs.ShownLaws.{shown_bounded}

-- What its first pass shows.
abbrev pub sole_memory : SoleMem → Memory
sole_memory m = shown_alone (view m.pass)

-- It keeps what every memory keeps.
pub sole_bounded : (m : SoleMem) → IsBounded (sole_memory m)
sole_bounded m =
    let b = shown_bounded m.pass.seat.table_id m.arena.table.shared.table_id (view m.pass) m.arena.limit m.of m.pass.sound m.pass.sized m.arena.sized m.arena.small in
    record { above = b.above; order = b.order; small = b.small }
