-- Items that are dealt.
use Rattle.std.specs.Prelude.{◌≡◌, ℕ, List, ◌++◌}
use Rattle.gib_arena.specs.Passes.{cells}
use Rattle.gib_arena.specs.declared.memory.Pass.{Pass}
use Rattle.gib_types.specs.Layout.{LaidOut}
use Rattle.gib_print.specs.Cut.{Cut}
use Rattle.gib_print.specs.declared.item.Item.{Item}

-- The bytes are those of the first items for one pass, and then those of the others for another one.
pub record Dealt (laid : LaidOut) (names : List (List ℕ)) (l r : Pass) (first second : List Item) (all : List ℕ) : Type 0 where
  pub xs : List ℕ
  pub ys : List ℕ
  pub front : Cut laid names (cells l) first xs
  pub back : Cut laid names (cells r) second ys
  pub whole : xs ++ ys ≡ all
