-- The passes of a worker's frames are those that were split off its own pass.
use Rattle.std.specs.Prelude.{◌≡◌, ℕ, ◌<◌, List, [], ◌∷◌, ◌++◌, Option, Some, None}
use Rattle.atomic_table.specs.Seated.{TableId}
use Rattle.gib_arena.specs.declared.memory.Pass.{Pass}
use Rattle.gib_arena.specs.Passes.{view}
use Rattle.gib_frame.specs.declared.due.Due.{Due}

-- The path of the pass that a frame was made with.
abbrev pub path : Due → List ℕ
path e = (view e.pass.value).branch.path

-- The paths of those that were made, the newest first.
abbrev pub lent_paths : List (Option Due) → List (List ℕ)
lent_paths [] = []
lent_paths (None ∷ es) = lent_paths es
lent_paths (Some e ∷ es) = path e ∷ lent_paths es

-- They were split from one pass in turn, the newest first: their numbers fall, and are below n.
abbrev pub AreSplits : TableId → List ℕ → ℕ → List (Option Due) → Type 0
AreSplits z p n [] = Unit {0}
AreSplits z p n (None ∷ es) = AreSplits z p n es
AreSplits z p n (Some e ∷ es) = (k : ℕ) × (k < n) × (path e ≡ p ++ k ∷ []) × (e.pass.value.seat.table_id ≡ z) × AreSplits z p k es

-- The passes of these frames, and no others, are split off the pass and did not come back.
pub record Lends (p : Pass) (lent : List (Option Due)) : Type 0 where
  pub splits : AreSplits p.seat.table_id (view p).branch.path (view p).branch.next lent
  pub out : (view p).branch.out ≡ lent_paths lent
