-- A pass that comes back.
use Rattle.std.specs.Prelude.{◌≡◌, ℕ, List, ◌++◌}
use Rattle.gib_mem.specs.Memory.{Grows, fresh}
use Rattle.gib_arena.specs.declared.memory.Arena.{Arena}
use Rattle.gib_arena.specs.declared.memory.Pass.{Pass}
use Rattle.gib_types.specs.Layout.{LaidOut}
use Rattle.gib_arena.specs.Bytes.{share}
use Rattle.gib_arena.specs.Steps.{split_left, split_right}
use Rattle.gib_compact.specs.declared.piece.Piece.{Piece}
use Rattle.gib_compact.specs.Cut.{Cut}
use Rattle.gib_arena.specs.Passes.{view, cells, IsOf}

-- It is the same one of the arena, with the same ones out; it knows what it knew, what was fresh to it is, and it drew nothing.
pub record IsBack (a : Arena) (old new : Pass) : Type 0 where
  pub own : IsOf a new
  pub path : (view new).branch.path ≡ (view old).branch.path
  pub out : (view new).branch.out ≡ (view old).branch.out
  pub limit : (view new).branch.limit ≡ (view old).branch.limit
  pub known : Grows (cells old) (cells new)
  pub free : (q : ℕ) → cells old q ≡ fresh → cells new q ≡ fresh
  pub drew : share (view new).holding ≡ share (view old).holding

-- A pass was split in two.
pub record IsSplit (p l r : Pass) : Type 0 where
  pub left : view l ≡ split_left (view p)
  pub right : view r ≡ split_right (view p)
  pub knows : Grows (cells p) (cells r)

-- The bytes are those of the first pieces for one pass, and then those of the others for another one.
pub record Parts (laid : LaidOut) (l r : Pass) (ps qs : List Piece) (all : List ℕ) : Type 0 where
  pub xs : List ℕ
  pub ys : List ℕ
  pub first : Cut laid (cells l) ps xs
  pub second : Cut laid (cells r) qs ys
  pub whole : xs ++ ys ≡ all
