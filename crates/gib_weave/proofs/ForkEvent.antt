-- A task forks: its right side waits.
use Rattle.std.proofs.Common.{◌≡◌, ℕ, List, ◌∷◌, slice_get, arith}
use Rattle.gib_types.specs.declared.table.Ty.{Ty}
use Rattle.gib_syntax.specs.Meaning.{Outcome}
use Rattle.gib_core.specs.Tree.{CoreTree}
use Rattle.gib_code.specs.Program.{CodeTree}
use Rattle.gib_machine.specs.State.{State}
use Rattle.gib_machine.specs.Sides.{left_starts, right_of}
use Rattle.gib_core.specs.Cost.{Cost}
use Rattle.gib_weave.specs.Owing.{Debt}
use Rattle.gib_weave.specs.Paying.{Share, Spends, with_rest}
use Rattle.gib_weave.specs.Sound.{Forks}
use Rattle.gib_weave.specs.Weave.{Status, Waits, Running, Weave, task, with_sides, Sound}
use Rattle.gib_weave.proofs.Acts.{owing, acts_here, runs_on, running_sound}

module _ (core : CoreTree) (code : CodeTree) (ty : Ty) (o : Outcome) (whole : Cost) (w : Weave) (sd : Sound core code ty o whole w) (i : ℕ) (run : (task w.tasks i).stage ≡ Running) where
  abbrev left : State
  left = left_starts (task w.tasks i).state (slice_get code.instructions (task w.tasks i).state.ip)

  abbrev sides : List Status
  sides = Waits (right_of (task w.tasks i).state (slice_get code.instructions (task w.tasks i).state.ip)) ∷ (task w.tasks i).sides

  pub fork_keeps : (sh : Share) → Spends (sd.family i).share sh 0 → Forks core code (sd.family i).owed (sd.family i).own sh w.memory.cells (task w.tasks i).state → Sound core code ty o whole (with_sides w i left sides)
  fork_keeps sh p h =
      let ds : List Debt = h.debt ∷ (sd.family i).owed.sides in
      let a = acts_here core code ty o whole w sd i (record { state = left; sides = sides; stage = Running }) (with_rest sh h.rest) ds run tt (record {
        balanced = p.balanced;
        costs = record { regions = let a = p.costs.regions in let b = h.pays.regions in omega (arith, a, b); items = let a = p.costs.items in let b = h.pays.items in omega (arith, a, b) };
        drawn = let a = p.drawn in omega (arith, a);
        alone = λ q. q;
      }) in
      runs_on core code ty o whole w sd i w.memory left sides (owing (sd.family i) (sd.family i).own (with_rest sh h.rest) ds) a h.left (h.right, (running_sound core code ty o whole w sd i run).1)
