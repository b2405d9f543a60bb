-- What the reads of a call leave.
use Rattle.std.specs.Prelude.{◌≡◌, ◌≤◌, ℕ, List}
use Rattle.gib_edge.specs.Causes.{Appends, AppendsPart}
use Rattle.gib_edge.specs.Views.{Call, ShelfView}
use Rattle.gib_app.specs.declared.stop.Stop.{Stop}
use Rattle.gib_app.specs.Ending.{ReadsStay}
use Rattle.gib_app.specs.Stopping.{answer_for}

-- The calls were made, which only read, and none of them failed.
pub record HasRead (before now : ShelfView) (calls : List Call) : Type 0 where
  pub same : (name : List ℕ) → now.kept name ≡ before.kept name
  pub reads : (name : List ℕ) → now.reads name ≡ before.reads name
  pub writes : (name : List ℕ) → now.writes name ≡ before.writes name
  pub called : Appends before.calls now.calls calls

-- A front of the calls was made, which only read, and then this stop came; counts rise only with the status that tells of them.
pub record HasStopped (before now : ShelfView) (calls : List Call) (stop : Stop) : Type 0 where
  pub same : (name : List ℕ) → now.kept name ≡ before.kept name
  pub later : (name : List ℕ) → before.reads name ≤ now.reads name
  pub reads : ReadsStay before.reads now.reads (answer_for stop).status
  pub writes : (name : List ℕ) → now.writes name ≡ before.writes name
  pub once : AppendsPart before.calls now.calls calls
