-- What a call of a weave leaves.
use Rattle.std.proofs.lemmas.Bool.{cases_lt}
use Rattle.std.proofs.lemmas.List.{get_or_read, get_or_append_left, length-append, length-set, set-append_left}
use Rattle.std.proofs.Common.{◌≡◌, ◌⊎◌, inl, inr, ℕ, zero, suc, ◌<◌, ◌≤◌, List, [], ◌∷◌, ◌++◌, ◌^◌, length, get_or, drop, slice_set, true, refl, sym, ap, subst, ◌∙◌, arith}
use Rattle.std.specs.Prelude.{Result, Ok, Err, slice_get}
use Rattle.gib_code.specs.declared.answer.Answer.{Answer}
use Rattle.gib_machine.specs.declared.stand.Stand.TheVariants as stand
use Rattle.gib_mem.specs.Memory.{Memory, with_drawn, after_puts, after_draw}
use Rattle.gib_region.specs.Region.{IsFull}
use Rattle.gib_core.specs.Tree.{CoreTree}
use Rattle.gib_code.specs.Program.{CodeTree}
use Rattle.gib_machine.specs.State.{State, Ask, Silent, Get, Put, Draw, AtFork, AtJoin, Ended}
use Rattle.gib_machine.specs.Machine.{next}
use Rattle.gib_machine.specs.Sides.{Waiting, left_starts, joins, right_of, side_start, takes}
use Rattle.gib_machine.specs.Stepping.{CanStep, Made, stand_of, with_tails}
use Rattle.gib_machine.specs.declared.turn.Turn.{Turn}
use Rattle.gib_machine.specs.declared.turn.Turn.TheVariants as turn
use Rattle.gib_weave.specs.declared.task.WeaveFault.{WeaveFault}
use Rattle.gib_weave.specs.declared.task.WeaveFault.TheVariants as fault
use Rattle.gib_weave.specs.Applied.{Applied, CanGo, IsBegun, IsDraw, IsForked, forked, stepped}
use Rattle.gib_weave.specs.Weave.{Weave, Task, Stage, Status, Waits, Running, Joined, Step, Fork, Steal, Take, Finish, Join, Stolen, Next, NewestWaits, NewestFinished, Enabled, IsAction, IsEnd, IsFinished, IsOn, asks, ended_task, moved, no_task, task, weave_start, with_sides}
use Rattle.gib_weave.specs.Weave as w
use Rattle.gib_weave.specs.Starting.{root_start}

pub not_joined : Joined ≡ Running → ⊥
not_joined e = absurd cc

-- A number that no task has is that of none that runs.
pub is_not_past : (v : Weave) (i : ℕ) → length v.tasks ≤ i → IsOn v i → ⊥
is_not_past v i h on = go v.tasks i h on.here
  where
    go : (ts : List Task) (k : ℕ) → length ts ≤ k → (task ts k).stage ≡ Running → ⊥
    go [] k l e = absurd (not_joined e)
    go (t ∷ ts) zero l e = absurd (omega (arith, l))
    go (t ∷ ts) (suc k) l e = go ts k (omega (arith, l)) e

-- A task that is set as it is.
set_same : (ts : List Task) (i : ℕ) → slice_set ts i (task ts i) ≡ ts
set_same [] i = refl
set_same (t ∷ ts) zero = refl
set_same (t ∷ ts) (suc i) = ap (λ (us : List Task). t ∷ us) (set_same ts i)

-- A task that is set leaves as many.
pub set_few : (ts : List Task) (i : ℕ) (t : Task) → length ts ≤ 2 ^ 32 → length (slice_set ts i t) ≤ 2 ^ 32
set_few ts i t h = let e = length-set ts i t in omega (arith, e, h)

-- One more where there are fewer.
pub few_more : (ts : List Task) (t : Task) → length ts < 2 ^ 32 → length (ts ++ t ∷ []) ≤ 2 ^ 32
few_more ts t h = let e = length-append ts (t ∷ []) in omega (arith, e, h)

module _ (code : CodeTree) (v : Weave) (i : ℕ) (on : IsOn v i) where
  -- the machine and the memory are as they were
  stays : (m : Memory) (s : State) → m ≡ v.memory → s ≡ (task v.tasks i).state → moved v m i s ≡ v
  stays m s e f =
      ap (λ (q : Memory). moved v q i s) e ∙ ap (λ (q : State). moved v v.memory i q) f
      ∙ ap (λ (g : Stage). record { memory = v.memory; tasks = slice_set v.tasks i (record { state = (task v.tasks i).state; sides = (task v.tasks i).sides; stage = g }) }) (sym on.here)
      ∙ ap (λ (ts : List Task). record { memory = v.memory; tasks = ts }) (set_same v.tasks i)

  goes : (m n : Memory) (s t : State) (r : Turn) → r ≡ turn.Went → s ≡ t → m ≡ n → Next code v (Step i) (moved v n i t) → Applied code v (Step i) (moved v m i s) (stepped r)
  goes m n s t r a b c h =
      subst (λ (q : Turn). Applied code v (Step i) (moved v m i s) (stepped q)) (sym a)
      (subst (λ (q : Memory). Next code v (Step i) (moved v q i s)) (sym c) (subst (λ (q : State). Next code v (Step i) (moved v n i q)) (sym b) h))

  not_now : (a : Ask) (m : Memory) (s : State) → asks code v i ≡ a → (IsAction a → ⊥) → s ≡ (task v.tasks i).state → m ≡ v.memory → (moved v m i s ≡ v) × (Enabled code v (Step i) → ⊥)
  not_now a m s e n p q = (stays m s q p, λ h. n (subst IsAction e h.1))

  full : (m : Memory) (s : State) (k : ℕ → State) → v.memory.alone ≡ true → asks code v i ≡ Draw k → s ≡ (task v.tasks i).state → IsFull v.memory m
      → (moved v m i s ≡ v) × Enabled code v (Step i) × IsDraw (asks code v i) × (v.memory.drawn ≡ v.memory.limit)
  full m s k al e p f = (
    stays m s (f.same ∙ ap (λ (n : ℕ). with_drawn v.memory n) (sym (f.all al))) p,
    (on, subst IsAction (sym e) tt),
    subst IsDraw (sym e) tt,
    f.all al,
  )

  by_turn : (m : Memory) (s : State) (r x : Turn) → r ≡ x → Applied code v (Step i) (moved v m i s) (stepped x) → Applied code v (Step i) (moved v m i s) (stepped r)
  by_turn m s r x e h = subst (λ (q : Turn). Applied code v (Step i) (moved v m i s) (stepped q)) (sym e) h

  applied : (a : Ask) (m : Memory) (s : State) (r : Turn) → v.memory.alone ≡ true → asks code v i ≡ a → Made a (task v.tasks i).state s v.memory m r → Applied code v (Step i) (moved v m i s) (stepped r)
  applied (Silent n) m s r al e p = goes m v.memory s n r p.0 p.1 p.2 (w.silent on e)
  applied (Get a more k) m s r al e p = goes m v.memory s (k p.0) r p.2 p.3 p.4 (w.get on e p.1)
  applied (Put a b bs n) m s r al e p = goes m (after_puts v.memory a (b ∷ bs)) s n r p.0 p.1 p.2 (w.puts on e)
  applied (Draw k) m s r al e (inl p) = goes m (after_draw v.memory p.0) s (k p.0) r p.2 p.3 p.4 (w.draws on e p.1)
  applied (Draw k) m s r al e (inr p) = by_turn m s r turn.Full p.0 (full m s k al e p.1 p.2)
  applied AtFork m s r al e p = by_turn m s r turn.AtFork p.0 (not_now AtFork m s e (λ h. h) p.1 p.2)
  applied AtJoin m s r al e p = by_turn m s r turn.AtJoin p.0 (not_now AtJoin m s e (λ h. h) p.1 p.2)
  applied (Ended a) m s r al e p = by_turn m s r turn.Ended p.0 (not_now (Ended a) m s e (λ h. h) p.1 p.2)

-- A step of the task.
pub step_applied : (code : CodeTree) (v : Weave) (i : ℕ) (m : Memory) (t : Task) (r : Turn) → IsOn v i → v.memory.alone ≡ true → t ≡ record (task v.tasks i) { state = t.state } → Made (asks code v i) (task v.tasks i).state t.state v.memory m r
    → Applied code v (Step i) (record { memory = m; tasks = slice_set v.tasks i t }) (stepped r)
step_applied code v i m t r on al e p =
    let same : record { state = t.state; sides = (task v.tasks i).sides; stage = Running } ≡ t = ap (λ (g : Stage). record { state = t.state; sides = (task v.tasks i).sides; stage = g }) (sym on.here) ∙ sym e in
    subst (λ (u : Task). Applied code v (Step i) (record { memory = m; tasks = slice_set v.tasks i u }) (stepped r)) same (applied code v i on (asks code v i) m t.state r al refl p)

pub on_below : (v : Weave) (i : ℕ) → IsOn v i → i < length v.tasks
on_below v i on = go (cases_lt i (length v.tasks))
  where
    go : (i < length v.tasks) ⊎ (length v.tasks ≤ i) → i < length v.tasks
    go (inl h) = h
    go (inr h) = absurd (is_not_past v i h on)

-- The task that was read can make a step.
pub can_step : (code : CodeTree) (v : Weave) (i : ℕ) (t : Task) → CanGo code v → IsOn v i → t ≡ task v.tasks i → CanStep code t.state v.memory
can_step code v i t h on e = subst (λ (u : Task). CanStep code u.state v.memory) (sym e) (record { runs = h.runs; made = h.widths i on.here; can = h.can i on.here })

-- It made one.
pub read_step_applied : (code : CodeTree) (v : Weave) (ts : List Task) (i : ℕ) (m : Memory) (t u : Task) (r : Turn) (o : Result (Unit {0}) WeaveFault) → IsOn v i → CanGo code v → ts ≡ v.tasks → t ≡ task v.tasks i
    → Made (next code t.state) t.state u.state v.memory m r → u ≡ record t { state = u.state } → o ≡ stepped r → Applied code v (Step i) (record { memory = m; tasks = slice_set ts i u }) o
read_step_applied code v ts i m t u r o on h te e p k oe =
    subst (Applied code v (Step i) (record { memory = m; tasks = slice_set ts i u })) (sym oe)
    (subst (λ (us : List Task). Applied code v (Step i) (record { memory = m; tasks = slice_set us i u }) (stepped r)) (sym te)
    (step_applied code v i m u r on h.alone (k ∙ ap (λ (q : Task). record q { state = u.state }) e) (subst (λ (q : Task). Made (next code q.state) q.state u.state v.memory m r) e p)))

-- The task that was read is the task of the number.
pub read_task : (ts us : List Task) (i : ℕ) (t : Task) → t ≡ get_or us i t → us ≡ ts → i < length ts → t ≡ task ts i
read_task ts us i t e f h = get_or_read us i t (let l = ap length f in omega (arith, h, l)) e no_task ∙ ap (λ (q : List Task). task q i) f

-- Where a machine stands.

pub at_fork : (a : Ask) → stand_of a ≡ stand.Fork → a ≡ AtFork
at_fork (Silent m) e = absurd cc
at_fork (Get a more k) e = absurd cc
at_fork (Put a b bs m) e = absurd cc
at_fork (Draw k) e = absurd cc
at_fork AtFork e = refl
at_fork AtJoin e = absurd cc
at_fork (Ended a) e = absurd cc

pub at_join : (a : Ask) → stand_of a ≡ stand.Join → a ≡ AtJoin
at_join (Silent m) e = absurd cc
at_join (Get a more k) e = absurd cc
at_join (Put a b bs m) e = absurd cc
at_join (Draw k) e = absurd cc
at_join AtFork e = absurd cc
at_join AtJoin e = refl
at_join (Ended a) e = absurd cc

pub not_end : (a : Ask) → ((x : Answer) → a ≡ Ended x → ⊥) → IsEnd a → ⊥
not_end (Silent m) f h = h
not_end (Get a more k) f h = h
not_end (Put a b bs m) f h = h
not_end (Draw k) f h = h
not_end AtFork f h = h
not_end AtJoin f h = h
not_end (Ended a) f h = absurd (f a refl)

-- Events that change one task.

module _ (code : CodeTree) (v : Weave) (ts : List Task) (i : ℕ) (t u : Task) (on : IsOn v i) (te : ts ≡ v.tasks) (e : t ≡ task v.tasks i) where
  running : (s : State) (sts : List Status) → u ≡ record { state = s; sides = sts; stage = t.stage } → record { memory = v.memory; tasks = slice_set ts i u } ≡ with_sides v i s sts
  running s sts h =
      ap (λ (us : List Task). record { memory = v.memory; tasks = slice_set us i u }) te
      ∙ ap (λ (x : Task). record { memory = v.memory; tasks = slice_set v.tasks i x }) (h ∙ ap (λ (x : Task). record { state = s; sides = sts; stage = x.stage }) e ∙ ap (λ (g : Stage). record { state = s; sides = sts; stage = g }) on.here)

  goes_left : next code t.state ≡ AtFork → u ≡ forked t (slice_get code.instructions t.state.ip) → Next code v (Fork i) (record { memory = v.memory; tasks = slice_set ts i u })
  goes_left a h =
      let f = task v.tasks i in
      let k : u ≡ record { state = left_starts f.state (slice_get code.instructions f.state.ip); sides = Waits (right_of f.state (slice_get code.instructions f.state.ip)) ∷ f.sides; stage = t.stage } =
      h ∙ ap (λ (x : Task). record { state = left_starts x.state (slice_get code.instructions x.state.ip); sides = Waits (right_of x.state (slice_get code.instructions x.state.ip)) ∷ x.sides; stage = t.stage }) e in
      subst (Next code v (Fork i)) (sym (running _ _ k)) (w.forks on (sym (ap (λ (x : Task). next code x.state) e) ∙ a))

  pub fork_applied : (r : Result (Unit {0}) WeaveFault) → next code t.state ≡ AtFork → IsForked t (slice_get code.instructions t.state.ip) u r → Applied code v (Fork i) (record { memory = v.memory; tasks = slice_set ts i u }) r
  fork_applied (Ok x) a h = goes_left a h
  fork_applied (Err fault.Memory) a h = (
    ap (λ (us : List Task). record { memory = v.memory; tasks = slice_set us i u }) te ∙ ap (λ (x : Task). record { memory = v.memory; tasks = slice_set v.tasks i x }) (h ∙ e)
        ∙ ap (λ (us : List Task). record { memory = v.memory; tasks = us }) (set_same v.tasks i),
    tt,
  )
  fork_applied (Err fault.NotNow) a h = absurd h
  fork_applied (Err fault.Full) a h = absurd h

  pub take_applied : next code t.state ≡ AtJoin → NewestWaits t.sides → u ≡ record { state = takes t.state; sides = drop 1 t.sides; stage = t.stage } → Next code v (Take i) (record { memory = v.memory; tasks = slice_set ts i u })
  take_applied a n h = go t.sides refl n
    where
      go : (sts : List Status) → t.sides ≡ sts → NewestWaits sts → Next code v (Take i) (record { memory = v.memory; tasks = slice_set ts i u })
      go [] q m = absurd m
      go (w.Runs j ∷ sts) q m = absurd m
      go (Waits x ∷ sts) q m =
          let f = task v.tasks i in
          let k : u ≡ record { state = takes f.state; sides = sts; stage = t.stage } =
          h ∙ ap (λ (x : Task). record { state = takes x.state; sides = drop 1 t.sides; stage = t.stage }) e ∙ ap (λ (qs : List Status). record { state = takes (task v.tasks i).state; sides = drop 1 qs; stage = t.stage }) q in
          subst (Next code v (Take i)) (sym (running _ _ k)) (w.takes_it on (sym (ap (λ (x : Task). next code x.state) e) ∙ a) (sym (ap (λ (x : Task). x.sides) e) ∙ q))

  pub finish_applied : (a : Answer) → next code t.state ≡ Ended a → u ≡ ended_task a → Next code v (Finish i) (record { memory = v.memory; tasks = slice_set ts i u })
  finish_applied a p h =
      subst (Next code v (Finish i))
      (sym (ap (λ (us : List Task). record { memory = v.memory; tasks = slice_set us i u }) te ∙ ap (λ (x : Task). record { memory = v.memory; tasks = slice_set v.tasks i x }) h))
      (w.finishes on (sym (ap (λ (x : Task). next code x.state) e) ∙ p))

-- Two reads of one task are one.
pub same_task : (ts us : List Task) (i : ℕ) (t x : Task) → t ≡ get_or us i t → us ≡ ts → i < length ts → x ≡ task ts i → t ≡ x
same_task ts us i t x e f h g = read_task ts us i t e f h ∙ sym g

-- A number that no task has is that of none that has ended.
pub none_finished : (ts : List Task) (i : ℕ) → length ts ≤ i → IsFinished (task ts i).stage → ⊥
none_finished [] i h f = f
none_finished (t ∷ ts) zero h f = absurd (omega (arith, h))
none_finished (t ∷ ts) (suc i) h f = none_finished ts i (omega (arith, h)) f

-- A join changes two tasks.
module _ (code : CodeTree) (v : Weave) (ts : List Task) (i j : ℕ) (t u x : Task) (a : Answer) (on : IsOn v i) (te : ts ≡ v.tasks) (e : t ≡ task v.tasks i) (fin : (task v.tasks j).stage ≡ w.Finished a) where
  pub join_applied : next code t.state ≡ AtJoin → t.sides ≡ w.Runs j ∷ drop 1 t.sides → u ≡ record { state = joins t.state a; sides = drop 1 t.sides; stage = t.stage } → x ≡ no_task → Next code v (Join i) (record { memory = v.memory; tasks = slice_set (slice_set ts i u) j x })
  join_applied p q h k =
      let f = task v.tasks i in
      let same : record { memory = v.memory; tasks = slice_set ts i u } ≡ with_sides v i (joins f.state a) (drop 1 f.sides) =
      ap (λ (us : List Task). record { memory = v.memory; tasks = slice_set us i u }) te
      ∙ ap (λ (z : Task). record { memory = v.memory; tasks = slice_set v.tasks i z }) (h ∙ ap (λ (z : Task). record { state = joins z.state a; sides = drop 1 z.sides; stage = z.stage }) e ∙ ap (λ (g : Stage). record { state = joins f.state a; sides = drop 1 f.sides; stage = g }) on.here) in
      subst (λ (us : List Task). Next code v (Join i) (record { memory = v.memory; tasks = slice_set us j x })) (sym (ap (λ (z : Weave). z.tasks) same))
      (subst (λ (z : Task). Next code v (Join i) (record { memory = v.memory; tasks = slice_set (with_sides v i (joins f.state a) (drop 1 f.sides)).tasks j z })) (sym k)
      (w.joins_it on (sym (ap (λ (z : Task). next code z.state) e) ∙ p) (sym (ap (λ (z : Task). z.sides) e) ∙ q ∙ ap (λ (z : Task). w.Runs j ∷ drop 1 z.sides) e) fin))

-- A join that is not enabled.

pub no_side : (code : CodeTree) (v : Weave) (i : ℕ) (t : Task) → t ≡ task v.tasks i → (IsBegun t.sides → ⊥) → Enabled code v (Join i) → ⊥
no_side code v i t e n h = go (task v.tasks i).sides (subst (λ (z : Task). IsBegun z.sides → ⊥) e n) h.2
  where
    go : (sts : List Status) → (IsBegun sts → ⊥) → NewestFinished v.tasks sts → ⊥
    go [] m f = f
    go (Waits x ∷ sts) m f = f
    go (w.Runs j ∷ sts) m f = m tt

pub not_ended : (code : CodeTree) (v : Weave) (i j : ℕ) (t : Task) → t ≡ task v.tasks i → t.sides ≡ w.Runs j ∷ drop 1 t.sides → (IsFinished (task v.tasks j).stage → ⊥) → Enabled code v (Join i) → ⊥
not_ended code v i j t e q n h = n (subst (NewestFinished v.tasks) (sym (ap (λ (z : Task). z.sides) e) ∙ q) h.2)

-- A steal.

pub steal_applied : (code : CodeTree) (v : Weave) (us : List Task) (i : ℕ) (x : Waiting) (t u n : Task) → IsOn v i → i < length v.tasks → length v.tasks < 2 ^ 32 → us ≡ v.tasks ++ n ∷ [] → t ≡ task v.tasks i
    → n ≡ record { state = side_start code x; sides = []; stage = Running } → Stolen (length v.tasks) t.sides x u.sides → u ≡ record t { sides = u.sides } → Next code v (Steal i) (record { memory = v.memory; tasks = slice_set us i u })
steal_applied code v us i x t u n on b few ue e ne s h =
    let f = task v.tasks i in
    let side : Task = record { state = side_start code x; sides = []; stage = Running } in
    let new : Task = record { state = f.state; sides = u.sides; stage = Running } in
    let k : u ≡ new = h ∙ ap (λ (q : Task). record { state = q.state; sides = u.sides; stage = q.stage }) e ∙ ap (λ (g : Stage). record { state = f.state; sides = u.sides; stage = g }) on.here in
    let all : slice_set us i u ≡ slice_set v.tasks i new ++ side ∷ [] =
    ap (λ (q : List Task). slice_set q i u) ue ∙ set-append_left v.tasks (n ∷ []) i u b ∙ ap (λ (q : Task). slice_set v.tasks i q ++ n ∷ []) k ∙ ap (λ (q : Task). slice_set v.tasks i new ++ q ∷ []) ne in
    subst (λ (q : List Task). Next code v (Steal i) (record { memory = v.memory; tasks = q })) (sym all) (w.steals on few (subst (λ (q : Task). Stolen (length v.tasks) q.sides x u.sides) e s))

-- The task that was read is the task of the number, though one was put behind.
pub read_before : (ts us : List Task) (i : ℕ) (t n : Task) → t ≡ get_or us i t → us ≡ ts ++ n ∷ [] → i < length ts → t ≡ task ts i
read_before ts us i t n e f h =
    read_task (ts ++ n ∷ []) us i t e f (let l = length-append ts (n ∷ []) in omega (arith, h, l)) ∙ get_or_append_left ts (n ∷ []) no_task i h

-- The root alone.
pub root_alone : (core : CoreTree) (code : CodeTree) (v : Memory) (m : State) (w depth level : ℕ) (tails : List ℕ) → ((ts : List ℕ) → with_tails m ts ≡ root_start core code w depth level ts)
    → record { memory = v; tasks = record { state = with_tails m tails; sides = []; stage = Running } ∷ [] } ≡ weave_start core code v w depth level tails
root_alone core code v m w depth level tails h = ap (λ (s : State). record { memory = v; tasks = record { state = s; sides = []; stage = Running } ∷ [] }) (h tails)
