-- An event leads to one weave.
use Rattle.std.proofs.Common.{◌≡◌, ℕ, suc, List, [], ◌∷◌, ◌++◌, slice_set, true, refl, sym, ap, subst, ◌∙◌}
use Rattle.gib_mem.specs.Memory.{Reads, after_draw, after_puts}
use Rattle.gib_code.specs.declared.answer.Answer.{Answer}
use Rattle.gib_code.specs.declared.answer.Answer.TheVariants.{NoValue}
use Rattle.gib_types.specs.declared.reason.Reason.TheVariants.{Deep}
use Rattle.gib_code.specs.Program.{CodeTree}
use Rattle.gib_machine.specs.State.{State, Ask, Silent, Get, Put, Draw, AtFork, AtJoin, Ended}
use Rattle.gib_machine.specs.Sides.{Waiting, joins, side_start, takes}
use Rattle.gib_weave.specs.Weave.{Weave, Stage, Running, Finished, Joined, Status, Waits, Runs, Stolen, oldest, older, Event, Next, moved, no_task, ended_task, task, with_sides}
use Rattle.gib_weave.specs.Weave as ev
use Rattle.gib_weave.proofs.Memories.{reads_one}
use Rattle.gib_weave.proofs.Newest.{none_stolen, oldest_same}

-- What an ask holds.

abbrev state_in : Ask → State
state_in (Silent m) = m
state_in (Get a more k) = no_task.state
state_in (Put a b bs m) = m
state_in (Draw k) = no_task.state
state_in AtFork = no_task.state
state_in AtJoin = no_task.state
state_in (Ended a) = no_task.state

abbrev address_in : Ask → ℕ
address_in (Silent m) = 0
address_in (Get a more k) = a
address_in (Put a b bs m) = a
address_in (Draw k) = 0
address_in AtFork = 0
address_in AtJoin = 0
address_in (Ended a) = 0

abbrev more_in : Ask → ℕ
more_in (Silent m) = 0
more_in (Get a more k) = more
more_in (Put a b bs m) = 0
more_in (Draw k) = 0
more_in AtFork = 0
more_in AtJoin = 0
more_in (Ended a) = 0

abbrev bytes_in : Ask → List ℕ
bytes_in (Silent m) = []
bytes_in (Get a more k) = []
bytes_in (Put a b bs m) = b ∷ bs
bytes_in (Draw k) = []
bytes_in AtFork = []
bytes_in AtJoin = []
bytes_in (Ended a) = []

abbrev then_in : Ask → ℕ → State
then_in (Silent m) n = no_task.state
then_in (Get a more k) n = k n
then_in (Put a b bs m) n = no_task.state
then_in (Draw k) n = k n
then_in AtFork n = no_task.state
then_in AtJoin n = no_task.state
then_in (Ended a) n = no_task.state

abbrev answer_in : Ask → Answer
answer_in (Silent m) = NoValue Deep
answer_in (Get a more k) = NoValue Deep
answer_in (Put a b bs m) = NoValue Deep
answer_in (Draw k) = NoValue Deep
answer_in AtFork = NoValue Deep
answer_in AtJoin = NoValue Deep
answer_in (Ended a) = a

abbrev answer_of : Stage → Answer
answer_of Running = NoValue Deep
answer_of (Finished a) = a
answer_of Joined = NoValue Deep

abbrev rest_of : List Status → List Status
rest_of [] = []
rest_of (st ∷ sts) = sts

abbrev number_of : Status → ℕ
number_of (Waits x) = 0
number_of (Runs j) = j

abbrev number_first : List Status → ℕ
number_first [] = 0
number_first (st ∷ sts) = number_of st

begun_same : {j : ℕ} {x y : Waiting} {sts a b : List Status} → Stolen j sts x a → Stolen j sts y b → a ≡ b
begun_same (oldest n) (oldest m) = refl
begun_same (oldest n) (older s) = absurd (none_stolen n s)
begun_same (older s) (oldest m) = absurd (none_stolen m s)
begun_same (older {st = st} s) (older t) = ap (λ (q : List Status). st ∷ q) (begun_same s t)

-- The newest side of task i was joined, which is task n.
abbrev after_join : Weave → ℕ → ℕ → List Status → Answer → Weave
after_join w i n r x = record { memory = w.memory; tasks = slice_set (with_sides w i (joins (task w.tasks i).state x) r).tasks n no_task }

pub next_is_one : (code : CodeTree) (w v v' : Weave) (e : Event) → w.memory.alone ≡ true → Next code w e v → Next code w e v' → v ≡ v'
next_is_one code w _ _ _ al (ev.silent {i = i} on e) (ev.silent on' e') = ap (λ (a : Ask). moved w w.memory i (state_in a)) (sym e ∙ e')
next_is_one code w _ _ _ al (ev.silent on e) (ev.get on' e' f') = absurd (let q = sym e ∙ e' in cc)
next_is_one code w _ _ _ al (ev.silent on e) (ev.puts on' e') = absurd (let q = sym e ∙ e' in cc)
next_is_one code w _ _ _ al (ev.silent on e) (ev.draws on' e' d') = absurd (let q = sym e ∙ e' in cc)
next_is_one code w _ _ _ al (ev.get on e f) (ev.silent on' e') = absurd (let q = sym e ∙ e' in cc)
next_is_one code w _ _ _ al (ev.get {i = i} {a = a} {n = n} {x = b} {k = k} on e f) (ev.get {a = a'} {n = n'} {x = b'} on' e' f') =
    let q = sym e ∙ e' in
    let h : b ≡ b' = reads_one (subst (λ (y : ℕ). Reads w.memory.cells y (suc n') b) (ap address_in q) (subst (λ (m : ℕ). Reads w.memory.cells a (suc m) b) (ap more_in q) f)) f' in
    ap (λ (n : ℕ). moved w w.memory i (k n)) h ∙ ap (λ (x : Ask). moved w w.memory i (then_in x b')) q
next_is_one code w _ _ _ al (ev.get on e f) (ev.puts on' e') = absurd (let q = sym e ∙ e' in cc)
next_is_one code w _ _ _ al (ev.get on e f) (ev.draws on' e' d') = absurd (let q = sym e ∙ e' in cc)
next_is_one code w _ _ _ al (ev.puts on e) (ev.silent on' e') = absurd (let q = sym e ∙ e' in cc)
next_is_one code w _ _ _ al (ev.puts on e) (ev.get on' e' f') = absurd (let q = sym e ∙ e' in cc)
next_is_one code w _ _ _ al (ev.puts {i = i} on e) (ev.puts on' e') = ap (λ (x : Ask). moved w (after_puts w.memory (address_in x) (bytes_in x)) i (state_in x)) (sym e ∙ e')
next_is_one code w _ _ _ al (ev.puts on e) (ev.draws on' e' d') = absurd (let q = sym e ∙ e' in cc)
next_is_one code w _ _ _ al (ev.draws on e d) (ev.silent on' e') = absurd (let q = sym e ∙ e' in cc)
next_is_one code w _ _ _ al (ev.draws on e d) (ev.get on' e' f') = absurd (let q = sym e ∙ e' in cc)
next_is_one code w _ _ _ al (ev.draws on e d) (ev.puts on' e') = absurd (let q = sym e ∙ e' in cc)
next_is_one code w _ _ _ al (ev.draws {i = i} {c = c} {k = k} on e d) (ev.draws {c = c'} on' e' d') =
    let h : c ≡ c' = d.alone al ∙ sym (d'.alone al) in
    ap (λ (n : ℕ). moved w (after_draw w.memory n) i (k n)) h ∙ ap (λ (x : Ask). moved w (after_draw w.memory c') i (then_in x c')) (sym e ∙ e')
next_is_one code w _ _ _ al (ev.forks on e) (ev.forks on' e') = refl
next_is_one code w _ _ _ al (ev.steals {i = i} {x = x} {sts = sts} on few s) (ev.steals {x = x'} {sts = sts'} on' few' s') =
    ap (λ (q : List Status). record { memory = w.memory; tasks = (with_sides w i (task w.tasks i).state q).tasks ++ record { state = side_start code x; sides = []; stage = Running } ∷ [] }) (begun_same s s')
    ∙ ap (λ (y : Waiting). record { memory = w.memory; tasks = (with_sides w i (task w.tasks i).state sts').tasks ++ record { state = side_start code y; sides = []; stage = Running } ∷ [] }) (oldest_same s s')
next_is_one code w _ _ _ al (ev.takes_it {i = i} on e q) (ev.takes_it on' e' q') = ap (λ (sts : List Status). with_sides w i (takes (task w.tasks i).state) (rest_of sts)) (sym q ∙ q')
next_is_one code w _ _ _ al (ev.finishes {i = i} on e) (ev.finishes on' e') =
    ap (λ (x : Ask). record { memory = w.memory; tasks = slice_set w.tasks i (ended_task (answer_in x)) }) (sym e ∙ e')
next_is_one code w _ _ _ al (ev.joins_it {i = i} {j = j} {sts = sts} {a = a} on e q f) (ev.joins_it {j = j'} {sts = sts'} {a = a'} on' e' q' f') =
    let s = sym q ∙ q' in
    let h : j ≡ j' = ap number_first s in
    let g : a ≡ a' = ap answer_of (sym f ∙ ap (λ (n : ℕ). (task w.tasks n).stage) h ∙ f') in
    ap (λ (n : ℕ). after_join w i n sts a) h ∙ ap (λ (r : List Status). after_join w i j' (rest_of r) a) s ∙ ap (λ (x : Answer). after_join w i j' sts' x) g
