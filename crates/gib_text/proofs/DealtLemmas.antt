-- Items that are dealt.
use Rattle.std.proofs.Common.{◌≡◌, ℕ, List, take, drop}
use Rattle.gib_arena.specs.Passes.{cells}
use Rattle.gib_arena.specs.declared.memory.Pass.{Pass}
use Rattle.gib_types.specs.Layout.{LaidOut}
use Rattle.gib_print.specs.Cut.{Cut}
use Rattle.gib_print.specs.declared.item.Item.{Item}
use Rattle.gib_print.proofs.CutLemmas.{Cut-split, Cut-grows}
use Rattle.gib_compact.specs.Back.{IsSplit}
use Rattle.gib_compact.proofs.BackLemmas.{same_cells}
use Rattle.gib_text.specs.Dealt.{Dealt}

pub dealt_of : {laid : LaidOut} {names : List (List ℕ)} (p l r : Pass) (n : ℕ) (items : List Item) {all : List ℕ} → IsSplit p l r → Cut laid names (cells p) items all → Dealt laid names l r (take n items) (drop n items) all
dealt_of p l r n items s c =
    let h = Cut-split n items c in
    record { xs = h.xs; ys = h.ys; front = Cut-grows (same_cells p l r s) h.front; back = Cut-grows s.knows h.back; whole = h.whole }
