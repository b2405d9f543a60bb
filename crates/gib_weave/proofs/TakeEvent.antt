-- A task takes its newest right side, which waits.
use Rattle.std.proofs.Common.{◌≡◌, ℕ, List, ◌∷◌, ap, arith}
use Rattle.gib_types.specs.declared.table.Ty.{Ty}
use Rattle.gib_syntax.specs.Meaning.{Outcome}
use Rattle.gib_core.specs.Tree.{CoreTree}
use Rattle.gib_code.specs.Program.{CodeTree}
use Rattle.gib_machine.specs.Sides.{Waiting, takes}
use Rattle.gib_core.specs.Cost.{Cost}
use Rattle.gib_weave.specs.Paying.{Share, Spends, with_side}
use Rattle.gib_weave.specs.Sound.{Meets}
use Rattle.gib_weave.specs.Weave.{Status, Waits, Running, Weave, task, with_sides, Sound}
use Rattle.gib_weave.proofs.Acts.{owing, acts_here, runs_on, listed}

module _ (core : CoreTree) (code : CodeTree) (ty : Ty) (o : Outcome) (whole : Cost) (w : Weave) (sd : Sound core code ty o whole w) (i : ℕ) (run : (task w.tasks i).stage ≡ Running) where
  pub take_keeps : (x : Waiting) (sts : List Status) → (task w.tasks i).sides ≡ Waits x ∷ sts → (sh : Share) → Spends (sd.family i).share sh 0 → Meets core code (sd.family i).owed (sd.family i).own sh w.memory.cells (task w.tasks i).state
      → Sound core code ty o whole (with_sides w i (takes (task w.tasks i).state) sts)
  take_keeps x sts e sh p h =
      let m = takes (task w.tasks i).state in
      let all = listed core code ty o whole w sd i (Waits x ∷ sts) (h.debt ∷ h.others) run e h.sides in
      let a = acts_here core code ty o whole w sd i (record { state = m; sides = sts; stage = Running }) (with_side sh h.debt.most) h.others run tt (record {
        balanced = p.balanced;
        costs = record {
          regions = let a = p.costs.regions in let b = ap (λ (c : Cost). c.regions) all.1 in omega (arith, a, b);
          items = let a = p.costs.items in let b = ap (λ (c : Cost). c.items) all.1 in omega (arith, a, b);
        };
        drawn = let a = p.drawn in omega (arith, a);
        alone = λ q. q;
      }) in
      runs_on core code ty o whole w sd i w.memory m sts (owing (sd.family i) (sd.family i).own (with_side sh h.debt.most) h.others) a h.take all.0.1
