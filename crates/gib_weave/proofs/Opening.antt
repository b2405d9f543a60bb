-- Which tasks are open after an event.
use Rattle.std.proofs.lemmas.Bool.{cases_eq, cases_lt, false≢true}
use Rattle.std.proofs.lemmas.List.{length-set}
use Rattle.std.proofs.Common.{◌≡◌, ◌⊎◌, inl, inr, ℕ, zero, suc, ◌<◌, ◌≤◌, List, [], ◌∷◌, ◌++◌, length, slice_set, Bool, true, false, ◌&&◌, ◌||◌, refl, sym, ap, subst, ◌∙◌, arith}
use Rattle.std.specs.Prelude.{Result, Ok, Err, Some, None, nat_eq, IsTrue}
use Rattle.std.specs.List.{list_any}
use Rattle.std.specs.Ordering.{nat_cmp, is_lt}
use Rattle.std.specs.BTreeMap.{is_at}
use Rattle.std.specs.BTreeSet.{BTreeSet, btree_set_len, contains}
use Rattle.std.proofs.Math.Bool.{or-false}
use Rattle.gib_mem.specs.Memory.{Memory}
use Rattle.gib_mem.specs.Plain.{nothing}
use Rattle.gib_core.specs.Tree.{CoreTree}
use Rattle.gib_code.specs.Program.{CodeTree}
use Rattle.gib_machine.specs.State.{State}
use Rattle.gib_weave.specs.declared.event.Event.{Event as TaskEvent}
use Rattle.gib_weave.specs.declared.event.Event.TheVariants as event
use Rattle.gib_weave.specs.declared.task.WeaveFault.{WeaveFault}
use Rattle.gib_weave.specs.declared.task.WeaveFault.TheVariants as fault
use Rattle.gib_weave.specs.Applied.{Applied, AreOpen, can_steal_from, event_of, number_of, opens, over}
use Rattle.gib_weave.specs.Weave.{Weave, Task, Event, Next, IsOn, Running, Finished, has_waiting, is_running, task}
use Rattle.gib_weave.specs.Weave as w
use Rattle.gib_weave.proofs.Applying.{on_below}
use Rattle.gib_weave.proofs.Picking.{newest_open, none_open, past_is_shut}
use Rattle.gib_weave.proofs.Picks.{is_waiting, next_enabled}
use Rattle.gib_weave.proofs.Weaves.{in_list, set_here, set_there}

-- Another task is as it was.
apart : (ts : List Task) (i j : ℕ) (t : Task) → (j ≡ i → ⊥) → can_steal_from (task (slice_set ts i t) j) ≡ can_steal_from (task ts j)
apart ts i j t ne = ap can_steal_from (set_there ts i j t ne)

-- One more task that is not open.
one_more : (ts : List Task) (t : Task) (i : ℕ) → can_steal_from t ≡ false → can_steal_from (task (ts ++ t ∷ []) i) ≡ can_steal_from (task ts i)
one_more [] t zero e = e
one_more [] t (suc i) e = refl
one_more (x ∷ ts) t zero e = refl
one_more (x ∷ ts) t (suc i) e = one_more ts t i e

-- A task that runs is open where a side waits.
running_is : (t : Task) → t.stage ≡ Running → can_steal_from t ≡ has_waiting t.sides
running_is t e = ap (λ (g : w.Stage). is_running g && has_waiting t.sides) e

module _ (code : CodeTree) (v : Weave) where
  -- a task that goes on with its sides
  goes_on : (i : ℕ) (m : State) → IsOn v i → can_steal_from (task (slice_set v.tasks i (record { state = m; sides = (task v.tasks i).sides; stage = Running })) i) ≡ can_steal_from (task v.tasks i)
  goes_on i m on = ap can_steal_from (set_here v.tasks i (record { state = m; sides = (task v.tasks i).sides; stage = Running }) (on_below v i on)) ∙ sym (running_is (task v.tasks i) on.here)

  -- the side's task of a join is as it was: not open
  joined : (i j k : ℕ) (t gone : Task) (a : _) → (task v.tasks j).stage ≡ Finished a → can_steal_from gone ≡ false → (k ≡ i → ⊥) → can_steal_from (task (slice_set (slice_set v.tasks i t) j gone) k) ≡ can_steal_from (task v.tasks k)
  joined i j k t gone a fin off ne = go (cases_eq k j)
    where
      below : j < length (slice_set v.tasks i t)
      below = let l = in_list v.tasks j (subst w.IsThere (sym fin) tt) in let n = length-set v.tasks i t in omega (arith, l, n)

      at_side : can_steal_from (task (slice_set (slice_set v.tasks i t) j gone) j) ≡ can_steal_from (task v.tasks j)
      at_side = ap can_steal_from (set_here (slice_set v.tasks i t) j gone below) ∙ off ∙ sym (ap (λ (g : w.Stage). is_running g && has_waiting (task v.tasks j).sides) fin)

      go : (k ≡ j) ⊎ (k ≡ j → ⊥) → can_steal_from (task (slice_set (slice_set v.tasks i t) j gone) k) ≡ can_steal_from (task v.tasks k)
      go (inl e) = subst (λ (n : ℕ). can_steal_from (task (slice_set (slice_set v.tasks i t) j gone) n) ≡ can_steal_from (task v.tasks n)) (sym e) at_side
      go (inr d) = apart (slice_set v.tasks i t) j k gone d ∙ apart v.tasks i k t ne

  -- each task but that of the event is as it was
  stays : {e : Event} {v' : Weave} → Next code v e v' → (k : ℕ) → (k ≡ number_of e → ⊥) → can_steal_from (task v'.tasks k) ≡ can_steal_from (task v.tasks k)
  stays (w.silent {i = i} on e) k ne = apart v.tasks i k _ ne
  stays (w.get {i = i} on e known) k ne = apart v.tasks i k _ ne
  stays (w.puts {i = i} on e) k ne = apart v.tasks i k _ ne
  stays (w.draws {i = i} on e dr) k ne = apart v.tasks i k _ ne
  stays (w.forks {i = i} on e) k ne = apart v.tasks i k _ ne
  stays (w.steals {i = i} {sts = sts} on few st) k ne = one_more (slice_set v.tasks i (record { state = (task v.tasks i).state; sides = sts; stage = Running })) _ k refl ∙ apart v.tasks i k _ ne
  stays (w.takes_it {i = i} on e q) k ne = apart v.tasks i k _ ne
  stays (w.finishes {i = i} on e) k ne = apart v.tasks i k _ ne
  stays (w.joins_it {i = i} {j = j} {a = a} on e q fin) k ne = joined i j k _ _ a fin refl ne

  -- a step leaves its task as it was
  step_stays : {i : ℕ} {v' : Weave} → Next code v (w.Step i) v' → can_steal_from (task v'.tasks i) ≡ can_steal_from (task v.tasks i)
  step_stays (w.silent {i = i} {m = m} on e) = goes_on i m on
  step_stays (w.get {i = i} {x = x} {k = k} on e known) = goes_on i (k x) on
  step_stays (w.puts {i = i} {m = m} on e) = goes_on i m on
  step_stays (w.draws {i = i} {c = c} {k = k} on e dr) = goes_on i (k c) on

  same_number : (n : ℕ) → nat_eq n n ≡ false → ⊥
  same_number n h = grind (arith, Rattle.std.proofs.lemmas.Bool.Decides.nat_tests)

  -- the task of an event that opens none was open if it is now
  was_open : {e : Event} {v' : Weave} → Next code v e v' → opens e (number_of e) ≡ false → can_steal_from (task v'.tasks (number_of e)) ≡ true → can_steal_from (task v.tasks (number_of e)) ≡ true
  was_open (w.silent {i = i} {m = m} on e) o h = sym (goes_on i m on) ∙ h
  was_open (w.get {i = i} {x = x} {k = k} on e known) o h = sym (goes_on i (k x) on) ∙ h
  was_open (w.puts {i = i} {m = m} on e) o h = sym (goes_on i m on) ∙ h
  was_open (w.draws {i = i} {c = c} {k = k} on e dr) o h = sym (goes_on i (k c) on) ∙ h
  was_open (w.forks {i = i} on e) o h = absurd (same_number i o)
  was_open (w.steals {i = i} on few st) o h = running_is (task v.tasks i) on.here ∙ is_waiting (task v.tasks i).sides (next_enabled code v _ _ (w.steals on few st)).2
  was_open (w.takes_it {i = i} on e q) o h = running_is (task v.tasks i) on.here ∙ ap has_waiting q
  was_open (w.finishes {i = i} on e) o h = absurd (false≢true (sym (ap can_steal_from (set_here v.tasks i _ (on_below v i on))) ∙ h))
  was_open (w.joins_it {i = i} {j = j} {sts = sts} {a = a} on e q fin) o h =
      running_is (task v.tasks i) on.here ∙ ap has_waiting q
      ∙ sym (ap can_steal_from (set_there (slice_set v.tasks i _) j i _ not_side ∙ set_here v.tasks i _ (on_below v i on))) ∙ h
    where
      not_side : i ≡ j → ⊥
      not_side s = ended_runs (sym (ap (λ (n : ℕ). (task v.tasks n).stage) s ∙ fin) ∙ on.here)
        where
          ended_runs : Finished a ≡ Running → ⊥
          ended_runs h = absurd cc

  record Keeps (e : Event) (v' : Weave) : Type 0 where
    pub others : (k : ℕ) → (k ≡ number_of e → ⊥) → can_steal_from (task v'.tasks k) ≡ can_steal_from (task v.tasks k)
    pub here : opens e (number_of e) ≡ false → can_steal_from (task v'.tasks (number_of e)) ≡ true → can_steal_from (task v.tasks (number_of e)) ≡ true

  by_same : (e : Event) (v' : Weave) → v' ≡ v → Keeps e v'
  by_same e v' s = subst (Keeps e) (sym s) (record { others = λ k ne. refl; here = λ o h. h })

  keeps : (e : Event) (v' : Weave) (r : Result (Unit {0}) WeaveFault) → Applied code v e v' r → Keeps e v'
  keeps e v' (Ok u) h = record { others = stays h; here = was_open h }
  keeps e v' (Err fault.NotNow) h = by_same e v' h.0
  keeps e v' (Err fault.Full) h = by_same e v' h.0
  keeps e v' (Err fault.Memory) h = by_same e v' h.0

  step_keeps : (i : ℕ) (v' : Weave) (r : Result (Unit {0}) WeaveFault) → Applied code v (w.Step i) v' r → can_steal_from (task v'.tasks i) ≡ can_steal_from (task v.tasks i)
  step_keeps i v' (Ok u) h = step_stays h
  step_keeps i v' (Err fault.NotNow) h = ap (λ (x : Weave). can_steal_from (task x.tasks i)) h.0
  step_keeps i v' (Err fault.Full) h = ap (λ (x : Weave). can_steal_from (task x.tasks i)) h.0
  step_keeps i v' (Err fault.Memory) h = absurd h.1

  -- A step leaves the numbers right.
  pub open_after_step : (i : ℕ) (e : TaskEvent) (v' : Weave) (r : Result (Unit {0}) WeaveFault) (s : BTreeSet ℕ) → e ≡ event.Step i → Applied code v (event_of e) v' r → AreOpen s v.tasks → AreOpen s v'.tasks
  open_after_step i e v' r s is h o k =
      let a = subst (λ (x : TaskEvent). Applied code v (event_of x) v' r) is h in
      o k ∙ sym (go a (cases_eq k i))
    where
      go : Applied code v (w.Step i) v' r → (k ≡ i) ⊎ (k ≡ i → ⊥) → can_steal_from (task v'.tasks k) ≡ can_steal_from (task v.tasks k)
      go a (inl d) = subst (λ (n : ℕ). can_steal_from (task v'.tasks n) ≡ can_steal_from (task v.tasks n)) (sym d) (step_keeps i v' r a)
      go a (inr ne) = (keeps (w.Step i) v' r a).others k ne

opens_other : (e : Event) (k : ℕ) → (k ≡ number_of e → ⊥) → opens e k ≡ false
opens_other (w.Step i) k ne = refl
opens_other (w.Fork i) k ne = grind (arith, Rattle.std.proofs.lemmas.Bool.Decides.nat_tests)
opens_other (w.Steal i) k ne = refl
opens_other (w.Take i) k ne = refl
opens_other (w.Finish i) k ne = refl
opens_other (w.Join i) k ne = refl

narrowed : (a b c : Bool) → (b ≡ false → c ≡ true → a ≡ true) → ((a || b) && c) ≡ c
narrowed true b c h = refl
narrowed false true c h = refl
narrowed false false true h = absurd (false≢true (h refl refl))
narrowed false false false h = refl

-- Where the task that an event may open was added before, and its task is taken out behind it if it is not open, the numbers are right.
pub open_after : (code : CodeTree) (v v' : Weave) (e : Event) (r : Result (Unit {0}) WeaveFault) (s s1 s2 : BTreeSet ℕ) → Applied code v e v' r → AreOpen s v.tasks
    → ((k : ℕ) → contains nat_cmp s1 k ≡ (contains nat_cmp s k || opens e k))
    → contains nat_cmp s2 (number_of e) ≡ (contains nat_cmp s1 (number_of e) && can_steal_from (task v'.tasks (number_of e)))
    → ((k : ℕ) → (k ≡ number_of e → ⊥) → contains nat_cmp s2 k ≡ contains nat_cmp s1 k) → AreOpen s2 v'.tasks
open_after code v v' e r s s1 s2 h o added here others k = go (cases_eq k (number_of e))
  where
    n : ℕ
    n = number_of e

    kept : Keeps code v e v'
    kept = keeps code v e v' r h

    at_task : contains nat_cmp s2 n ≡ can_steal_from (task v'.tasks n)
    at_task =
        here ∙ ap (λ (b : Bool). b && can_steal_from (task v'.tasks n)) (added n ∙ ap (λ (b : Bool). b || opens e n) (o n))
        ∙ narrowed (can_steal_from (task v.tasks n)) (opens e n) (can_steal_from (task v'.tasks n)) kept.here

    go : (k ≡ n) ⊎ (k ≡ n → ⊥) → contains nat_cmp s2 k ≡ can_steal_from (task v'.tasks k)
    go (inl d) = subst (λ (i : ℕ). contains nat_cmp s2 i ≡ can_steal_from (task v'.tasks i)) (sym d) at_task
    go (inr ne) = others k ne ∙ added k ∙ ap (λ (b : Bool). contains nat_cmp s k || b) (opens_other e k ne) ∙ or-false (contains nat_cmp s k) ∙ o k ∙ sym (kept.others k ne)

-- Where there is no number, no task is open.
shut_all : (ts : List Task) (s : BTreeSet ℕ) → AreOpen s ts → s.keys ≡ [] → (k : ℕ) → can_steal_from (task ts k) ≡ false
shut_all ts s o e k = sym (o k) ∙ ap (list_any (is_at (nat_cmp k))) e

pub none_to_steal : (v : Weave) (s : BTreeSet ℕ) → AreOpen s v.tasks → (0 < btree_set_len s → ⊥) → None ≡ w.steal_below v (length v.tasks)
none_to_steal v s o h = none_open v (shut_all v.tasks s o (empty s.keys h)) (length v.tasks)
  where
    empty : (ks : List ℕ) → (0 < length ks → ⊥) → ks ≡ []
    empty [] g = refl
    empty (k ∷ ks) g = absurd (g (omega arith))

-- The greatest of the numbers is that of the newest task that is open.
pub newest_to_steal : (v : Weave) (s : BTreeSet ℕ) (n : ℕ) → AreOpen s v.tasks → IsTrue (contains nat_cmp s n) → ((q : ℕ) → IsTrue (contains nat_cmp s q) → is_lt (nat_cmp n q) ≡ false) → Some (w.Steal n) ≡ w.steal_below v (length v.tasks)
newest_to_steal v s n o has h = newest_open v n can above (length v.tasks) (below (cases_lt n (length v.tasks)))
  where
    can : can_steal_from (task v.tasks n) ≡ true
    can = sym (o n) ∙ has

    below : (n < length v.tasks) ⊎ (length v.tasks ≤ n) → n < length v.tasks
    below (inl l) = l
    below (inr l) = absurd (false≢true (past_is_shut v.tasks n l ∙ can))

    above : (k : ℕ) → n < k → can_steal_from (task v.tasks k) ≡ false
    above k l = sym (o k) ∙ by_answer (contains nat_cmp s k) refl
      where
        by_answer : (b : Bool) → contains nat_cmp s k ≡ b → contains nat_cmp s k ≡ false
        by_answer true e = absurd (less (h k e))
          where
            less : is_lt (nat_cmp n k) ≡ false → ⊥
            less f = grind (arith, Rattle.std.proofs.lemmas.Bool.Decides.nat_tests)
        by_answer false e = e

-- In the weave of the root alone no task is open.
pub start_is_shut : (core : CoreTree) (code : CodeTree) (ts : List Task) (place depth level : ℕ) (tails : List ℕ) (s : BTreeSet ℕ) → ((v : Memory) → over v ts ≡ w.weave_start core code v place depth level tails) → s.keys ≡ [] → AreOpen s ts
start_is_shut core code ts place depth level tails s h e k =
    ap (list_any (is_at (nat_cmp k))) e ∙ sym (ap (λ (v : Weave). can_steal_from (task v.tasks k)) (h (nothing 0)) ∙ shut k)
  where
    shut : (i : ℕ) → can_steal_from (task (w.weave_start core code (nothing 0) place depth level tails).tasks i) ≡ false
    shut zero = refl
    shut (suc i) = refl
