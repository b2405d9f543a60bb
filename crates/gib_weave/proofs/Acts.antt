-- One task acts: it becomes another, over a memory of its own making.
use Rattle.std.proofs.Common.{◌≡◌, ℕ, ◌+◌, ◌<◌, true, List, length, slice_set, refl, ap, ◌∙◌, arith, suc, subst}
use Rattle.std.proofs.lemmas.List.{length-set}
use Rattle.gib_types.specs.declared.table.Ty.{Ty}
use Rattle.gib_syntax.specs.Results.{Results}
use Rattle.gib_syntax.specs.Meaning.{Outcome}
use Rattle.gib_mem.specs.Memory.{Memory, Store, absent, IsBounded}
use Rattle.gib_core.specs.Tree.{CoreTree}
use Rattle.gib_code.specs.declared.answer.Answer.{Answer}
use Rattle.gib_code.specs.Program.{CodeTree}
use Rattle.gib_machine.specs.State.{State, Ask}
use Rattle.gib_machine.specs.Machine.{next}
use Rattle.gib_core.specs.Fits.{put}
use Rattle.gib_region.specs.Count.{Balanced}
use Rattle.gib_core.specs.Cost.{Cost}
use Rattle.gib_weave.specs.Owing.{Debt}
use Rattle.gib_weave.specs.Paying.{Share, AtMost}
use Rattle.gib_weave.specs.Places.{Owned}
use Rattle.gib_weave.specs.Sound.{After, IsAnswer, Safe, Others}
use Rattle.gib_weave.specs.Starting.{AreBodies}
use Rattle.gib_weave.specs.Weave.{Status, Stage, Running, Finished, Task, Weave, task, Member, Family, IsThere, AllSides, SoundAs, IsSound, Sound, Shared, waiting_costs, bill_of, bill_at, total}
use Rattle.gib_weave.proofs.Basics.{put_each, one_and_others}
use Rattle.gib_weave.proofs.Memories.{bounded_small}
use Rattle.gib_weave.proofs.Step.{step_keeps}
use Rattle.gib_weave.proofs.Weaves.{runs_inside, stays, IsAs, IsKept, itself, set_as, set_else, sound_as, Amount, one_changes, IsLike, like, put_like, Named, sides_keep, same_others, sound_kept}

-- The new own addresses of task i are nobody else's, and drawn.
pub record Owns (f : Family) (i : ℕ) (own : Owned) (s : Store) : Type 0 where
  pub apart : (j q : ℕ) → (j ≡ i → ⊥) → 0 < own q → 0 < (f j).own q → ⊥
  pub drawn : (q : ℕ) → 0 < own q → s q ≡ absent → ⊥

-- Its new bill is no more than the one before, and it drew what was drawn.
pub record Pays (w : Weave) (f : Family) (i : ℕ) (v : Memory) (sts : List Status) (b : Member) : Type 0 where
  pub balanced : Balanced (f i).share.count → Balanced b.share.count
  pub costs : AtMost (bill_of b sts) (bill_at w.tasks f i)
  pub drawn : b.share.count.drawn + w.memory.drawn ≡ (f i).share.count.drawn + v.drawn
  pub alone : w.memory.alone ≡ true → v.alone ≡ true

-- Task i runs and becomes t over the memory v, and b is said of it.
pub record Acts (w : Weave) (f : Family) (i : ℕ) (v : Memory) (t : Task) (b : Member) : Type 0 where
  pub runs : (task w.tasks i).stage ≡ Running
  pub there : IsThere t.stage
  pub like : IsLike (f i) b
  pub others : (j : ℕ) → (j ≡ i → ⊥) → Others (f j).own w.memory.cells v.cells
  pub owns : Owns f i b.own v.cells
  pub bounded : IsBounded v
  pub pays : Pays w f i v t.sides b

-- The same member, with other addresses of its own, another share, and other right sides.
abbrev pub owing : Member → Owned → Share → List Debt → Member
owing b own sh ds = record b { own = own; share = sh; owed = record b.owed { sides = ds } }

pub owing_like : (b : Member) (own : Owned) (sh : Share) (ds : List Debt) → IsLike b (owing b own sh ds)
owing_like b own sh ds = record { parent = refl; place = refl; type = refl; all = refl }

module _ (w : Weave) (f : Family) (i : ℕ) (v : Memory) (t : Task) (b : Member) (a : Acts w f i v t b) where
  abbrev after : List Task
  after = slice_set w.tasks i t

  abbrev said : Family
  said = put f i b

  inside : i < length w.tasks
  inside = runs_inside w.tasks i a.runs

  now : IsAs after said i t b
  now = set_as w.tasks f i t b inside

  else : (j : ℕ) → (j ≡ i → ⊥) → IsKept w.tasks after f said j
  else j ne = set_else w.tasks f i j t (task w.tasks j) b (f j) ne (itself w.tasks f j)

  pub names : (k n : ℕ) → Named w.tasks after f said k n
  names k n = record { one = λ j x y z h. (stays w.tasks i t inside a.there j h, put_like f i b a.like j) }

  -- so much of all tasks, where t and b are those of task i now
  sum : (g : Amount) → total (λ j. g (said j) (task after j).sides) (length after) + g (f i) (task w.tasks i).sides ≡ total (λ j. g (f j) (task w.tasks j).sides) (length w.tasks) + g b t.sides
  sum g =
      let s = one_changes g w.tasks after f said (length w.tasks) i t b inside now (λ j l ne. else j ne) in
      let n = ap (λ (n : ℕ). total (λ j. g (said j) (task after j).sides) n) (length-set w.tasks i t) in
      omega (arith, s, n)

  pub shares : (whole : Cost) → Shared whole w f → Shared whole (record { memory = v; tasks = after }) said
  shares whole s = record {
    balanced = put_each f i b (λ j m. Balanced m.share.count) (a.pays.balanced (s.balanced i)) (λ j ne. s.balanced j);
    regions = let x = sum (λ m sts. (bill_of m sts).regions) in let d = s.regions in let e = a.pays.costs.regions in omega (arith, x, d, e);
    items = let x = sum (λ m sts. (bill_of m sts).items) in let d = s.items in let e = a.pays.costs.items in omega (arith, x, d, e);
    drawn = let x = sum (λ m sts. m.share.count.drawn) in let d = s.drawn in let e = a.pays.drawn in omega (arith, x, d, e);
    alone = a.pays.alone s.alone;
  }

  pub apart : ((j k q : ℕ) → 0 < (f j).own q → 0 < (f k).own q → j ≡ k) → (j k q : ℕ) → 0 < (said j).own q → 0 < (said k).own q → j ≡ k
  apart one = put_each f i b (λ j m. (k q : ℕ) → 0 < m.own q → 0 < (said k).own q → j ≡ k)
      (put_each f i b (λ k m. (q : ℕ) → 0 < b.own q → 0 < m.own q → i ≡ k) (λ q x y. refl) (λ k ne q x y. absurd (a.owns.apart k q ne x y)))
      (λ j ne. put_each f i b (λ k m. (q : ℕ) → 0 < (f j).own q → 0 < m.own q → j ≡ k) (λ q x y. absurd (a.owns.apart j q ne y x)) (λ k n q x y. one j k q x y))

  pub drawn : ((j q : ℕ) → 0 < (f j).own q → w.memory.cells q ≡ absent → ⊥) → (j q : ℕ) → 0 < (said j).own q → v.cells q ≡ absent → ⊥
  drawn old = put_each f i b (λ j m. (q : ℕ) → 0 < m.own q → v.cells q ≡ absent → ⊥) a.owns.drawn (λ j ne q x z. old j q x ((a.others j ne).drawn q z))

  pub tasks : (core : CoreTree) (code : CodeTree) → ((j : ℕ) → IsSound core code w.memory.cells w.tasks f j) → SoundAs core code v.cells after said i b t t.stage → (j : ℕ) → IsSound core code v.cells after said j
  tasks core code old h = one_and_others i (λ j. IsSound core code v.cells after said j) (sound_as core code v.cells after said i t b now h)
      (λ j ne. sound_kept core code w.memory.cells v.cells w.tasks after f said j (else j ne) (a.others j ne) (names j (length (task w.tasks j).sides)) (old j))

module _ (core : CoreTree) (code : CodeTree) (ty : Ty) (o : Outcome) (whole : Cost) where
  module _ (w : Weave) (sd : Sound core code ty o whole w) (i : ℕ) where
    -- it stays sound where what task i becomes is sound
    pub acts : (v : Memory) (t : Task) (b : Member) → Acts w sd.family i v t b → SoundAs core code v.cells (slice_set w.tasks i t) (put sd.family i b) i b t t.stage
        → Sound core code ty o whole (record { memory = v; tasks = slice_set w.tasks i t })
    acts v t b a h = record {
      family = put sd.family i b;
      tasks = tasks w sd.family i v t b a core code sd.tasks h;
      apart = apart w sd.family i v t b a sd.apart;
      drawn = drawn w sd.family i v t b a sd.drawn;
      bounded = a.bounded;
      root = stays w.tasks i t (runs_inside w.tasks i a.runs) a.there 0 sd.root;
      type = (put_like sd.family i b a.like 0).type ∙ sd.type;
      owes = (put_like sd.family i b a.like 0).all ∙ sd.owes;
      shared = shares w sd.family i v t b a whole sd.shared;
    }

    -- where it runs on, its right sides may be judged before
    pub runs_on : (v : Memory) (m : State) (sts : List Status) (b : Member) → Acts w sd.family i v (record { state = m; sides = sts; stage = Running }) b → Safe core code b.owed b.own b.share v.cells m
        → AllSides core code w.memory.cells w.tasks sd.family i sts b.owed.sides → Sound core code ty o whole (record { memory = v; tasks = slice_set w.tasks i (record { state = m; sides = sts; stage = Running }) })
    runs_on v m sts b a safe sides =
        let t : Task = record { state = m; sides = sts; stage = Running } in
        let grows = (a.others (suc i) (λ e. absurd (omega (arith, e)))).grows in
        acts v t b a (safe, sides_keep core code w.memory.cells v.cells w.tasks (slice_set w.tasks i t) sd.family (put sd.family i b) i (length sts) sts b.owed.sides (omega arith) (names w sd.family i v t b a i (length sts)) grows sides)

    -- over the same memory
    pub same_owns : Owns sd.family i (sd.family i).own w.memory.cells
    same_owns = record { apart = λ j q ne x y. ne (sd.apart j i q y x); drawn = λ q x e. sd.drawn i q x e }

    pub acts_here : (t : Task) (sh : Share) (ds : List Debt) → (task w.tasks i).stage ≡ Running → IsThere t.stage → Pays w sd.family i w.memory t.sides (owing (sd.family i) (sd.family i).own sh ds)
        → Acts w sd.family i w.memory t (owing (sd.family i) (sd.family i).own sh ds)
    acts_here t sh ds run there pays = record {
      runs = run;
      there = there;
      like = owing_like (sd.family i) (sd.family i).own sh ds;
      others = λ j ne. same_others (sd.family j).own w.memory.cells (bounded_small w.memory sd.bounded);
      owns = same_owns;
      bounded = sd.bounded;
      pays = pays;
    }

    -- by its stage
    sound_at : (st : Stage) → (task w.tasks i).stage ≡ st → SoundAs core code w.memory.cells w.tasks sd.family i (sd.family i) (task w.tasks i) st
    sound_at st e = subst (λ (st : Stage). SoundAs core code w.memory.cells w.tasks sd.family i (sd.family i) (task w.tasks i) st) e (sd.tasks i)

    pub running_sound : (task w.tasks i).stage ≡ Running → SoundAs core code w.memory.cells w.tasks sd.family i (sd.family i) (task w.tasks i) Running
    running_sound = sound_at Running

    -- the answer of a task that has ended
    pub answers : (a : Answer) (u : Results Ty) (p : Outcome) → (task w.tasks i).stage ≡ Finished a → (sd.family i).owed.ty ≡ u → (sd.family i).owed.all ≡ p → IsAnswer code.laid w.memory.cells u p a
    answers a u p fin t e = subst (λ (q : Results Ty). IsAnswer code.laid w.memory.cells q p a) t (subst (λ (q : Outcome). IsAnswer code.laid w.memory.cells (sd.family i).owed.ty q a) e (sound_at (Finished a) fin))

    -- its right sides, and what those cost that wait, by their lists
    pub listed : (sts : List Status) (ds : List Debt) → (task w.tasks i).stage ≡ Running → (task w.tasks i).sides ≡ sts → (sd.family i).owed.sides ≡ ds
        → AllSides core code w.memory.cells w.tasks sd.family i sts ds × (waiting_costs (task w.tasks i).sides (sd.family i).owed.sides ≡ waiting_costs sts ds)
    listed sts ds run e g =
        subst (λ (q : List Status). AllSides core code w.memory.cells w.tasks sd.family i q ds × (waiting_costs (task w.tasks i).sides (sd.family i).owed.sides ≡ waiting_costs q ds)) e
        (subst (λ (q : List Debt). AllSides core code w.memory.cells w.tasks sd.family i (task w.tasks i).sides q × (waiting_costs (task w.tasks i).sides (sd.family i).owed.sides ≡ waiting_costs (task w.tasks i).sides q)) g ((running_sound run).1, refl))

-- what a running task owes in the next event
pub owes_next : (core : CoreTree) (code : CodeTree) (ok : AreBodies core code) (ty : Ty) (o : Outcome) (whole : Cost) (w : Weave) (sd : Sound core code ty o whole w) (i : ℕ) (a : Ask) → (task w.tasks i).stage ≡ Running → next code (task w.tasks i).state ≡ a
    → After core code (sd.family i).owed (sd.family i).own (sd.family i).share w.memory.cells (task w.tasks i).state a
owes_next core code ok ty o whole w sd i a run e =
    let b = sd.family i in
    subst (After core code b.owed b.own b.share w.memory.cells (task w.tasks i).state) e (step_keeps core code ok b.owed b.own (running_sound core code ty o whole w sd i run).0)
