-- How far a function went with a text.
use Rattle.std.specs.Prelude.{◌≡◌, ℕ, List, ◌++◌}
use Rattle.gib_edge.specs.Views.{SinkView}
use Rattle.gib_types.specs.Layout.{LaidOut}
use Rattle.gib_mem.specs.Memory.{Store}
use Rattle.gib_print.specs.Framing.{works}
use Rattle.gib_print.specs.Sending.{Sent}
use Rattle.gib_print.specs.Working.{Left}
use Rattle.gib_print.specs.declared.frame.Frame.{Frame}

-- Where the last value ended at a, the frames fs are left; of what they print these bytes were put, or wait to be put, and
-- the rest of it is left to the frames gs, where the last value ended at b.
pub record Goes (laid : LaidOut) (names : List (List ℕ)) (s : Store) (fs : List Frame) (a : ℕ) (gs : List Frame) (b : ℕ) (before now : SinkView) (old new : List ℕ) : Type 0 where
  pub bytes : List ℕ
  pub sent : Sent before now old new bytes
  pub onward : (rest : List ℕ) → Left laid names s (works laid.table fs) a rest → (later : List ℕ) × Left laid names s (works laid.table gs) b later × (bytes ++ later ≡ rest)
