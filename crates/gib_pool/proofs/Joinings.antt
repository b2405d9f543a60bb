-- A worker goes on from a join whose right side's frame was settled.
use Rattle.std.proofs.Common.{◌≡◌, List, ◌∷◌, sym, subst, ◌∙◌}
use Rattle.std.specs.Prelude.{Option, Some}
use Rattle.std.specs.Vec.{vec_capacity}
use Rattle.gib_core.specs.LoweredParts.{LoweredParts}
use Rattle.gib_machine.specs.Levels.{IsWithin}
use Rattle.gib_machine.specs.declared.turn.Turn.TheVariants.{AtJoin}
use Rattle.gib_weave.specs.Owing.{Debt}
use Rattle.gib_arena.specs.declared.memory.Arena.{Arena}
use Rattle.gib_arena.specs.Passes.{view, IsOf}
use Rattle.gib_frame.specs.declared.due.Due.{Due}
use Rattle.gib_pool.specs.declared.back.Back.{Back}
use Rattle.gib_pool.specs.declared.active.ActiveTask.{ActiveTask}
use Rattle.gib_pool.specs.Backs.{IsBack}
use Rattle.gib_pool.specs.Frames.{AreHere}
use Rattle.gib_pool.specs.Active.{Holds, IsHere, IsOn, IsSamePass, OwesStill, StandsAt, active_lent, active_state}
use Rattle.gib_pool.specs.Lent.{Lends}
use Rattle.gib_pool.proofs.Draining.{here_after}

-- The frame that was settled, and what is left.
pub record Settled (a : Arena) (old new : ActiveTask) (due : Due) (mine more : List Due) (r : Back) : Type 0 where
  pub newest : active_lent old ≡ Some due ∷ active_lent new
  pub own : IsOf a new.pass
  pub lends : (lent : List (Option Due)) → Lends old.pass (Some due ∷ lent) → Lends new.pass lent
  pub same : IsSamePass old.pass new.pass
  pub back : IsBack due (view old.pass) (view new.pass) mine more old.here new.here r

module _ (a : Arena) (l : LoweredParts) (old new : ActiveTask) (due : Due) (mine more : List Due) (r : Back) where
  pub holds_then : Settled a old new due mine more r → Holds a l old → new.workspace.value.machine.width ≡ old.workspace.value.machine.width → IsWithin (vec_capacity new.workspace.value.frames) (active_state new) → Holds a l new
  holds_then s h w k = record { own = s.own; lends = s.lends (active_lent new) (subst (Lends old.pass) s.newest h.lends); made = w ∙ h.made; within = k }

  pub here_then : Settled a old new due mine more r → IsHere old mine → IsHere new more
  here_then s h = here_after due (active_lent new) (view old.pass) (view new.pass) old.here new.here mine more r s.back (subst (λ (es : List (Option Due)). AreHere es old.here mine) s.newest h)

  pub goes_on : (was : ActiveTask) → old ≡ was → Settled a old new due mine more r → Holds a l was → IsHere was mine → new.workspace.value.machine.width ≡ old.workspace.value.machine.width
      → IsWithin (vec_capacity new.workspace.value.frames) (active_state new) → ((d : Debt) → StandsAt l d old AtJoin → OwesStill l d new) → IsOn a l (λ (d : Debt). StandsAt l d was AtJoin) was more new
  goes_on was is s h i w k owes = subst (λ (x : ActiveTask). IsOn a l (λ (d : Debt). StandsAt l d x AtJoin) x more new) is
      record { holds = holds_then s (subst (Holds a l) (sym is) h) w k; owes = owes; here = here_then s (subst (λ (x : ActiveTask). IsHere x mine) (sym is) i); same = s.same }
