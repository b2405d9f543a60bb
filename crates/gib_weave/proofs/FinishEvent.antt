-- A task ends with an answer.
use Rattle.std.proofs.Common.{◌≡◌, ℕ, [], slice_set, arith}
use Rattle.gib_types.specs.declared.table.Ty.{Ty}
use Rattle.gib_syntax.specs.Meaning.{Outcome}
use Rattle.gib_core.specs.Tree.{CoreTree}
use Rattle.gib_code.specs.declared.answer.Answer.{Answer}
use Rattle.gib_code.specs.Program.{CodeTree}
use Rattle.gib_core.specs.Cost.{Cost}
use Rattle.gib_weave.specs.Sound.{IsAnswer}
use Rattle.gib_weave.specs.Weave.{Running, Weave, ended_task, task, Sound}
use Rattle.gib_weave.proofs.Acts.{owing, acts, acts_here}

module _ (core : CoreTree) (code : CodeTree) (ty : Ty) (o : Outcome) (whole : Cost) (w : Weave) (sd : Sound core code ty o whole w) (i : ℕ) (run : (task w.tasks i).stage ≡ Running) where
  pub finish_keeps : (a : Answer) → IsAnswer code.laid w.memory.cells (sd.family i).owed.ty (sd.family i).owed.all a → Sound core code ty o whole (record { memory = w.memory; tasks = slice_set w.tasks i (ended_task a) })
  finish_keeps a h =
      acts core code ty o whole w sd i w.memory (ended_task a) (owing (sd.family i) (sd.family i).own (sd.family i).share [])
      (acts_here core code ty o whole w sd i (ended_task a) (sd.family i).share [] run tt (record { balanced = λ b. b; costs = record { regions = omega arith; items = omega arith }; drawn = omega arith; alone = λ q. q })) h
