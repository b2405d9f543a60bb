-- The worked journals are legal, event by event.
use Rattle.std.specs.Prelude.{List, ◌+◌}
use Rattle.std.proofs.Common.{◌≡◌, ℕ, zero, suc, Bool, true, false, ◌&&◌, nat_lt, [], ◌∷◌, length, slice_get, refl, ap, arith}
use Rattle.std.proofs.lemmas.Bool.Decides.{nat_tests}
use Rattle.std.proofs.lemmas.Bool.{and_parts}
use Rattle.gib_mem.specs.Memory as mem
use Rattle.gib_mem.specs.Memory.{Store, Memory, Cell, absent, fresh, byte, Holds}
use Rattle.gib_code.specs.declared.answer.Answer.TheVariants as answer
use Rattle.gib_code.specs.Program.{CodeTree}
use Rattle.gib_machine.specs.State.{Ask, Silent, Get, Put, Draw, AtFork, AtJoin, Ended}
use Rattle.gib_machine.specs.Sides.{left_starts, right_of, side_start, joins, takes}
use Rattle.gib_weave.specs.Weave as ev
use Rattle.gib_weave.specs.Weave.{Waits, Runs, Stage, Running, Finished, Joined, Weave, Event, Step, Fork, Steal, Take, Finish, Join, task, with_sides, ended_task, no_task, asks, IsOn, Next, Legal, none, more, oldest, is_running}
use Rattle.gib_weave.specs.Worked.{code, start, steps_then, stolen, taken, in_place}
use Rattle.gib_weave.proofs.Row.{byte_of, bytes_of, act, steps}

-- Bytes stand at so many addresses from a on.
abbrev is_byte : Cell → Bool
is_byte absent = false
is_byte fresh = false
is_byte (byte b) = true

abbrev all_bytes : Store → ℕ → ℕ → Bool
all_bytes s a zero = true
all_bytes s a (suc n) = is_byte (s a) && all_bytes s (a + 1) n

-- The action can be made.
abbrev can : Memory → Ask → Bool
can v (Silent m) = true
can v (Get a n k) = all_bytes v.cells a (suc n)
can v (Put a b bs m) = true
can v (Draw k) = nat_lt v.drawn v.limit
can v AtFork = false
can v AtJoin = false
can v (Ended a) = false

-- So many steps of task i can be made, one after another.
abbrev all_can : CodeTree → ℕ → ℕ → Weave → Bool
all_can p i zero w = true
all_can p i (suc n) w = is_running (task w.tasks 0).stage && (is_running (task w.tasks i).stage && (can w.memory (asks p w i) && all_can p i n (act w i (asks p w i))))

runs : (st : Stage) → is_running st ≡ true → st ≡ Running
runs Running e = refl
runs (Finished a) e = absurd cc
runs Joined e = absurd cc

cell_is : (c : Cell) → is_byte c ≡ true → c ≡ byte (byte_of c)
cell_is absent e = absurd cc
cell_is fresh e = absurd cc
cell_is (byte b) e = refl

holds : (s : Store) (a n : ℕ) → all_bytes s a n ≡ true → Holds s a (bytes_of s a n)
holds s a zero e = mem.none
holds s a (suc n) e = let h = and_parts (is_byte (s a)) (all_bytes s (a + 1) n) e in mem.more (cell_is (s a) h.0) (holds s (a + 1) n h.1)

so_long : (s : Store) (a n : ℕ) → length (bytes_of s a n) ≡ n
so_long s a zero = refl
so_long s a (suc n) = ap suc (so_long s (a + 1) n)

-- An action that can be made is the task's next step.
next_is : (p : CodeTree) (i : ℕ) (w : Weave) (a : Ask) → asks p w i ≡ a → IsOn w i → can w.memory a ≡ true → Next p w (Step i) (act w i a)
next_is p i w (Silent m) e on c = ev.silent on e
next_is p i w (Get a n k) e on c = ev.get on e (bytes_of w.memory.cells a (suc n), holds w.memory.cells a (suc n) c, so_long w.memory.cells a (suc n), refl)
next_is p i w (Put a b bs m) e on c = ev.puts on e
next_is p i w (Draw k) e on c = ev.draws on e (record { order = omega arith; within = grind (arith, nat_tests); alone = λ x. refl })
next_is p i w AtFork e on c = absurd cc
next_is p i w AtJoin e on c = absurd cc
next_is p i w (Ended a) e on c = absurd cc

-- So many steps, and what is legal behind them.
pub steps_are : (p : CodeTree) (i n : ℕ) (w v : Weave) (es : List Event) → all_can p i n w ≡ true → Legal p (steps p i n w) es v → Legal p w (steps_then i n es) v
steps_are p i zero w v es e l = l
steps_are p i (suc n) w v es e l =
    let h = and_parts (is_running (task w.tasks 0).stage) (is_running (task w.tasks i).stage && (can w.memory (asks p w i) && all_can p i n (act w i (asks p w i)))) e in
    let g = and_parts (is_running (task w.tasks i).stage) (can w.memory (asks p w i) && all_can p i n (act w i (asks p w i))) h.1 in
    let f = and_parts (can w.memory (asks p w i)) (all_can p i n (act w i (asks p w i))) g.1 in
    more (next_is p i w (asks p w i) refl (record { here = runs (task w.tasks i).stage g.0; root = runs (task w.tasks 0).stage h.0 }) f.0) (steps_are p i n (act w i (asks p w i)) v es f.1 l)

pub on : {w : Weave} {i : ℕ} → (task w.tasks i).stage ≡ Running → (task w.tasks 0).stage ≡ Running → IsOn w i
on h r = record { here = h; root = r }

-- The weaves between the steps of the journal in which the right side is stolen.
abbrev s1 : Weave
s1 = steps code 0 7 (start 4)

abbrev s2 : Weave
s2 = with_sides s1 0 (left_starts (task s1.tasks 0).state (slice_get code.instructions (task s1.tasks 0).state.ip)) (Waits (right_of (task s1.tasks 0).state (slice_get code.instructions (task s1.tasks 0).state.ip)) ∷ [])

abbrev s3 : Weave
s3 = record { memory = s2.memory; tasks = record { state = (task s2.tasks 0).state; sides = Runs 1 ∷ []; stage = Running } ∷ record { state = side_start code (right_of (task s1.tasks 0).state (slice_get code.instructions (task s1.tasks 0).state.ip)); sides = []; stage = Running } ∷ [] }

abbrev s4 : Weave
s4 = steps code 1 13 s3

abbrev s5 : Weave
s5 = record { memory = s4.memory; tasks = (task s4.tasks 0) ∷ ended_task (answer.At 4096) ∷ [] }

abbrev s6 : Weave
s6 = steps code 0 11 s5

abbrev s7 : Weave
s7 = record { memory = s6.memory; tasks = record { state = joins (task s6.tasks 0).state (answer.At 4096); sides = []; stage = Running } ∷ no_task ∷ [] }

abbrev s8 : Weave
s8 = steps code 0 6 s7

abbrev pub stolen_end : Weave
stolen_end = record { memory = s8.memory; tasks = ended_task (answer.At 27) ∷ no_task ∷ [] }

pub stolen_is_legal : Legal code (start 4) stolen stolen_end
stolen_is_legal =
    steps_are code 0 7 (start 4) stolen_end (Fork 0 ∷ Steal 0 ∷ steps_then 1 13 (Finish 1 ∷ steps_then 0 11 (Join 0 ∷ steps_then 0 6 (Finish 0 ∷ [])))) refl
    (more {w' = s2} (ev.forks {i = 0} (on refl refl) refl)
    (more {w' = s3} (ev.steals {i = 0} (on refl refl) (grind (arith, nat_tests)) (oldest tt))
    (steps_are code 1 13 s3 stolen_end (Finish 1 ∷ steps_then 0 11 (Join 0 ∷ steps_then 0 6 (Finish 0 ∷ []))) refl
    (more {w' = s5} (ev.finishes {i = 1} {a = answer.At 4096} (on refl refl) refl)
    (steps_are code 0 11 s5 stolen_end (Join 0 ∷ steps_then 0 6 (Finish 0 ∷ [])) refl
    (more {w' = s7} (ev.joins_it {i = 0} {j = 1} {a = answer.At 4096} (on refl refl) refl refl refl)
    (steps_are code 0 6 s7 stolen_end (Finish 0 ∷ []) refl
    (more {w' = stolen_end} (ev.finishes {i = 0} {a = answer.At 27} (on refl refl) refl) none))))))))

-- And where it is taken.
abbrev t3 : Weave
t3 = steps code 0 11 s2

abbrev t4 : Weave
t4 = with_sides t3 0 (takes (task t3.tasks 0).state) []

abbrev t5 : Weave
t5 = steps code 0 16 t4

abbrev pub taken_end : Weave
taken_end = record { memory = t5.memory; tasks = ended_task (answer.At 27) ∷ [] }

pub taken_is_legal : Legal code (start 4) taken taken_end
taken_is_legal =
    steps_are code 0 7 (start 4) taken_end (Fork 0 ∷ steps_then 0 11 (Take 0 ∷ steps_then 0 16 (Finish 0 ∷ []))) refl
    (more {w' = s2} (ev.forks {i = 0} (on refl refl) refl)
    (steps_are code 0 11 s2 taken_end (Take 0 ∷ steps_then 0 16 (Finish 0 ∷ [])) refl
    (more {w' = t4} (ev.takes_it {i = 0} (on refl refl) refl refl)
    (steps_are code 0 16 t4 taken_end (Finish 0 ∷ []) refl
    (more {w' = taken_end} (ev.finishes {i = 0} {a = answer.At 27} (on refl refl) refl) none)))))

-- And where nothing is forked.
abbrev p1 : Weave
p1 = steps code 0 36 (start 0)

abbrev pub place_end : Weave
place_end = record { memory = p1.memory; tasks = ended_task (answer.At 27) ∷ [] }

pub in_place_is_legal : Legal code (start 0) in_place place_end
in_place_is_legal =
    steps_are code 0 36 (start 0) place_end (Finish 0 ∷ []) refl
    (more {w' = place_end} (ev.finishes {i = 0} {a = answer.At 27} (on refl refl) refl) none)
