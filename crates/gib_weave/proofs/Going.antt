-- A weave that is sound can go on.
use Rattle.std.proofs.Common.{◌≡◌, ℕ, zero, suc, List, [], ◌∷◌, ◌++◌, slice_set, refl, subst, ◌∙◌}
use Rattle.std.specs.Prelude.{slice_get}
use Rattle.gib_code.specs.declared.answer.Answer.{Answer}
use Rattle.gib_syntax.specs.Meaning.{Outcome}
use Rattle.gib_types.specs.declared.table.Ty.{Ty}
use Rattle.gib_core.specs.Cost.{Cost}
use Rattle.gib_core.specs.Tree.{CoreTree}
use Rattle.gib_code.specs.Program.{CodeTree, Runs}
use Rattle.gib_machine.specs.State.{State, Ask, Silent, Get, Put, Draw, widest}
use Rattle.gib_machine.specs.Sides.{joins, side_start, takes}
use Rattle.gib_machine.specs.Stepping.{KeepsWidth}
use Rattle.gib_machine.proofs.Widths.{step_keeps_width, left_keeps_width, take_keeps_width, join_keeps_width}
use Rattle.gib_weave.specs.Applied.{CanGo, HaveWidth}
use Rattle.gib_weave.specs.Starting.{AreBodies}
use Rattle.gib_weave.specs.Weave.{Weave, Task, Status, Event, IsOn, Next, Sound, asks, ended_task, no_task, task, with_sides}
use Rattle.gib_weave.specs.Weave as w
use Rattle.gib_weave.proofs.Calls.{can_of}
use Rattle.gib_weave.proofs.Acts.{owes_next}

pub can_go : (core : CoreTree) (code : CodeTree) → AreBodies core code → (ty : Ty) (o : Outcome) (whole : Cost) (v : Weave) → Runs code → Sound core code ty o whole v
    → HaveWidth code v.tasks → CanGo code v
can_go core code ok ty o whole v runs sd wide = record {
  runs = runs;
  alone = sd.shared.alone;
  widths = wide;
  can = λ i run. can_of core code (sd.family i).owed (sd.family i).own (sd.family i).share v.memory (task v.tasks i).state (asks code v i) (owes_next core code ok ty o whole v sd i (asks code v i) run refl);
}

-- Each event leaves the frames of those that run of one width.

-- Where the task runs, its frames have this width.
abbrev IsWide : ℕ → Task → Type 0
IsWide n t = t.stage ≡ w.Running → t.state.width ≡ n

set_wide : (ts : List Task) (i : ℕ) (t : Task) (n : ℕ) → ((j : ℕ) → IsWide n (task ts j)) → IsWide n t → (j : ℕ) → IsWide n (task (slice_set ts i t) j)
set_wide [] i t n h k j = h j
set_wide (u ∷ us) zero t n h k zero = k
set_wide (u ∷ us) zero t n h k (suc j) = h (suc j)
set_wide (u ∷ us) (suc i) t n h k zero = h 0
set_wide (u ∷ us) (suc i) t n h k (suc j) = set_wide us i t n (λ q. h (suc q)) k j

more_wide : (ts : List Task) (t : Task) (n : ℕ) → ((j : ℕ) → IsWide n (task ts j)) → IsWide n t → (j : ℕ) → IsWide n (task (ts ++ t ∷ []) j)
more_wide [] t n h k zero = k
more_wide [] t n h k (suc j) = h j
more_wide (u ∷ ts) t n h k zero = h 0
more_wide (u ∷ ts) t n h k (suc j) = more_wide ts t n (λ q. h (suc q)) k j

ended_wide : (a : Answer) (n : ℕ) → IsWide n (ended_task a)
ended_wide a n e = absurd cc

gone_wide : (n : ℕ) → IsWide n no_task
gone_wide n e = absurd cc

module _ (code : CodeTree) (v : Weave) (wide : HaveWidth code v.tasks) where
  -- the machine of a task that runs goes on
  one : (i : ℕ) (m : State) (sts : List Status) → IsOn v i → m.width ≡ (task v.tasks i).state.width → HaveWidth code (with_sides v i m sts).tasks
  one i m sts on e = set_wide v.tasks i (record { state = m; sides = sts; stage = w.Running }) (widest code.functions) wide (λ r. e ∙ wide i on.here)

  after : (i : ℕ) (a : Ask) → asks code v i ≡ a → KeepsWidth (task v.tasks i).state.width a
  after i a e = subst (KeepsWidth (task v.tasks i).state.width) e (step_keeps_width code (task v.tasks i).state)

  pub widths_kept : (e : Event) (v' : Weave) → Next code v e v' → HaveWidth code v'.tasks
  widths_kept _ _ (w.silent {i = i} {m = m} on e) = one i m (task v.tasks i).sides on (after i (Silent m) e)
  widths_kept _ _ (w.get {i = i} {a = a} {n = more} {x = x} {k = k} on e known) = one i (k x) (task v.tasks i).sides on (after i (Get a more k) e x)
  widths_kept _ _ (w.puts {i = i} {a = a} {b = b} {bs = bs} {m = m} on e) = one i m (task v.tasks i).sides on (after i (Put a b bs m) e)
  widths_kept _ _ (w.draws {i = i} {c = c} {k = k} on e d) = one i (k c) (task v.tasks i).sides on (after i (Draw k) e c)
  widths_kept _ _ (w.forks {i = i} on e) = one i _ _ on (left_keeps_width (task v.tasks i).state (slice_get code.instructions (task v.tasks i).state.ip))
  widths_kept _ _ (w.steals {i = i} {x = x} {sts = sts} on few s) =
      more_wide (with_sides v i (task v.tasks i).state sts).tasks (record { state = side_start code x; sides = []; stage = w.Running }) (widest code.functions) (one i (task v.tasks i).state sts on refl) (λ r. refl)
  widths_kept _ _ (w.takes_it {i = i} {sts = sts} on e q) = one i (takes (task v.tasks i).state) sts on (take_keeps_width (task v.tasks i).state)
  widths_kept _ _ (w.finishes {i = i} {a = a} on e) = set_wide v.tasks i (ended_task a) (widest code.functions) wide (ended_wide a (widest code.functions))
  widths_kept _ _ (w.joins_it {i = i} {j = j} {sts = sts} {a = a} on e q fin) =
      set_wide (with_sides v i (joins (task v.tasks i).state a) sts).tasks j no_task (widest code.functions) (one i (joins (task v.tasks i).state a) sts on (join_keeps_width (task v.tasks i).state a)) (gone_wide (widest code.functions))
