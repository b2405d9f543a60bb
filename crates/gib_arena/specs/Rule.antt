-- The rule of the whole: what the words and all passes' views keep at every time.
use Rattle.std.specs.Prelude.{◌≡◌, ℕ, true, false, [], map}
use mathlib.Core.Option.{some}
use lib.ListN.{get_elem?}
use Rattle.atomic_table.specs.Table.{State}
use Rattle.gib_arena.specs.declared.view.Holding.{Holding}
use Rattle.gib_arena.specs.declared.view.Branch.{Branch}
use Rattle.gib_arena.specs.declared.view.View.{View}
use Rattle.gib_arena.specs.Bytes.{Held}
use Rattle.gib_arena.specs.Tree.{Rooted}

-- What a view holds: bytes, chunks, and the number of chunks seen drawn.
abbrev pub holding : View → Holding
holding v = v.holding

-- Where the pass of a view stands among the passes.
abbrev pub branch : View → Branch
branch v = v.branch

-- A pass that knows nothing and owns nothing.
abbrev pub nothing : Holding
nothing = record { own = []; learned = []; chunks = []; seen = 0 }

-- The words and what all passes hold fit each other, the passes that live form one tree, and one that does not live holds nothing.
pub record ArenaRule (limit : ℕ) (s : State (Unit {0}) View) : Type 0 where
  pub bytes : Held limit s.words (map holding s.views)
  pub tree : Rooted limit (map branch s.views)
  pub spent : (j : ℕ) (v : View) → get_elem? s.views j ≡ some v → v.branch.live ≡ false → v.holding ≡ nothing

-- The view of the first pass.
abbrev pub first_view : ℕ → View
first_view limit = record { holding = nothing; branch = record { live = true; limit = limit; path = []; next = 0; out = [] } }
