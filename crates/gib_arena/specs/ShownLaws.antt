-- The law of a memory, of what a pass shows.
use Rattle.std.specs.Prelude.{◌≡◌, ℕ, ◌+◌, ◌*◌, ◌^◌, ◌<◌}
use Rattle.std.proofs.Common.{ap, arith}
use Rattle.atomic_table.specs.Seated.{TableId}
use Rattle.gib_mem.specs.Memory.{IsBounded}
use Rattle.gib_arena.specs.declared.view.View.{View}
use Rattle.gib_arena.specs.Steps.{IsSoundView}
use Rattle.gib_arena.specs.Shown.{shown}
use Rattle.gib_arena.specs.CellLaws.{bounded}

pub shown_bounded : (z its : TableId) (v : View) (limit : ℕ) → z ≡ its → IsSoundView v → z.words ≡ 512 * v.branch.limit + 1 → its.words ≡ 512 * limit + 1 → limit < 2 ^ 32 → IsBounded (shown z v)
shown_bounded z its v limit same s a b c = let w = ap (λ (z : TableId). z.words) same in record {
  above = λ q l. bounded v.branch.limit v.holding s q l;
  order = s.seen_in;
  small = omega arith;
}
