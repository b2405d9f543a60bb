-- What the writes that a plan makes first leave.
use Rattle.std.specs.Prelude.{◌≡◌, ◌≤◌, ℕ, List, Bool}
use Rattle.gib_edge.specs.Causes.{Appends, AppendsPart}
use Rattle.gib_edge.specs.Views.{ShelfView}
use Rattle.gib_app.specs.declared.stop.Stop.{Stop}
use Rattle.gib_words.specs.Plan.{Write}
use Rattle.gib_app.specs.Writes.{AreMade, IsNamedIn, IsStuckIn}
use Rattle.gib_app.specs.Calls.{first_calls}
use Rattle.gib_app.specs.Ending.{StaysAfter, WritesStay}
use Rattle.gib_app.specs.Stopping.{answer_for}
use Rattle.gib_app.specs.Stops.{StopsBy}

-- The writes were made, and nothing else was done.
pub record HasWritten (tells : Bool) (before now : ShelfView) (writes : List Write) : Type 0 where
  pub made : AreMade tells before.kept now.kept writes
  pub reads : (name : List ℕ) → now.reads name ≡ before.reads name
  pub counts : (name : List ℕ) → now.writes name ≡ before.writes name
  pub called : Appends before.calls now.calls (first_calls writes)

-- One of the writes failed, or memory ran out: a front of them was made, and nothing else was done.
pub record HasStuck (tells : Bool) (before now : ShelfView) (writes : List Write) (stop : Stop) : Type 0 where
  pub cause : StopsBy (λ fault. ⊥) (λ name. ⊥) (λ fault. ⊥) (λ reason. ⊥) (λ name. IsStuckIn tells before.kept writes before now name) stop
  pub others : (name : List ℕ) → (IsNamedIn writes name → ⊥) → now.kept name ≡ before.kept name
  pub front : StaysAfter tells writes before.kept now.kept (answer_for stop).status
  pub reads : (name : List ℕ) → now.reads name ≡ before.reads name
  pub later : (name : List ℕ) → before.writes name ≤ now.writes name
  pub counts : WritesStay before.writes now.writes (answer_for stop).status
  pub once : AppendsPart before.calls now.calls (first_calls writes)
