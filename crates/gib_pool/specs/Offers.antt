-- What an offer of a right side to others leaves.
use Rattle.std.specs.Prelude.{◌≡◌, ℕ, List, [], ◌∷◌, ◌++◌, Option, Some, None, IfSome}
use Rattle.gib_mem.specs.Memory.{fresh}
use Rattle.gib_core.specs.LoweredParts.{LoweredParts}
use Rattle.gib_machine.specs.Sides.{Waiting}
use Rattle.gib_arena.specs.declared.memory.Arena.{Arena}
use Rattle.gib_arena.specs.declared.memory.Pass.{Pass}
use Rattle.gib_arena.specs.Passes.{cells, IsOf}
use Rattle.gib_frame.specs.declared.due.Due.{Due}
use Rattle.gib_frame.specs.declared.ends.Frame.{Frame}
use Rattle.gib_frame.specs.Answers.{drawn_by}
use Rattle.gib_frame.specs.Dues.{frame_due}
use Rattle.gib_pool.specs.Active.{IsSamePass}
use Rattle.gib_pool.specs.Frames.{due_maybe}
use Rattle.gib_pool.specs.Lent.{Lends}
use Rattle.gib_pool.specs.Turn.{IsFor}

-- What a worker pushed and did not pop, once the task of a frame was pushed, where there is one.
abbrev pub pushed : List Due → Option Frame → List Due
pushed mine None = mine
pushed mine (Some f) = mine ++ frame_due f ∷ []

-- A right side that waits was offered by a frame that was made for it, or was not: the pass is the same one, it drew nothing, and what was
-- split off it is lent to that frame.
pub record Offers (a : Arena) (l : LoweredParts) (w : Waiting) (was new : Pass) (old mine : List Due) (frame : Option Frame) : Type 0 where
  pub own : IsOf a new
  pub same : IsSamePass was new
  pub drawn : drawn_by new ≡ drawn_by was
  pub free : (q : ℕ) → cells was q ≡ fresh → cells new q ≡ fresh
  pub side : IfSome frame (λ (f : Frame). IsFor l (cells was) w (frame_due f))
  pub lends : (lent : List (Option Due)) → Lends was lent → Lends new (due_maybe frame ∷ lent)
  pub forks : mine ≡ pushed old frame
