-- A task takes the answer of its newest right side, whose task is gone with that.
use Rattle.std.proofs.Common.{◌≡◌, ◌⊎◌, inl, inr, ℕ, zero, suc, ◌+◌, ◌<◌, List, [], ◌∷◌, length, slice_set, refl, sym, ap, subst, ◌∙◌, arith}
use Rattle.std.proofs.lemmas.List.{length-set}
use Rattle.gib_types.specs.declared.table.Ty.{Ty}
use Rattle.gib_syntax.specs.Meaning.{Outcome}
use Rattle.gib_mem.specs.Memory.{Store}
use Rattle.gib_core.specs.Tree.{CoreTree}
use Rattle.gib_code.specs.declared.answer.Answer.{Answer}
use Rattle.gib_code.specs.Program.{CodeTree}
use Rattle.gib_machine.specs.Sides.{joins}
use Rattle.gib_core.specs.Fits.{put}
use Rattle.gib_region.specs.Count.{Balanced}
use Rattle.gib_region.proofs.Counting.{joins as count_joins}
use Rattle.gib_core.specs.Cost.{Cost, nothing}
use Rattle.gib_weave.specs.Paying.{Share, Spends, new_share, with_count}
use Rattle.gib_weave.specs.Places.{Owned}
use Rattle.gib_weave.specs.Sound.{IsAnswer, Meets}
use Rattle.gib_weave.specs.Weave.{Status, Runs, Running, Finished, Task, Weave, no_task, task, with_sides, Member, Family, IsThere, OneSide, AllSides, SoundAs, IsSound, Sound, Shared, waiting_costs, bill_of, total}
use Rattle.gib_weave.proofs.Acts.{owing, owing_like, answers, listed}
use Rattle.gib_weave.proofs.Basics.{put-same, put-other, put_each, two_and_others}
use Rattle.gib_weave.proofs.Grow.{grows_same}
use Rattle.gib_weave.proofs.Memories.{bounded_small}
use Rattle.gib_weave.proofs.Weaves.{set_there, in_list, runs_inside, stays, IsAs, IsKept, itself, set_as, set_else, sound_as, Amount, two_change, IsLike, put_like, Named, same_others, sides_keep, sound_kept}
use Rattle.gib_weave.proofs.Owning.{owns_all, safe_owned}

abbrev both : Owned → Owned → Owned
both a b q = a q + b q

pos_sum : (a b : ℕ) → 0 < a + b → (0 < a) ⊎ (0 < b)
pos_sum zero b h = inr (omega (arith, h))
pos_sum (suc a) b h = inl (omega arith)

module _ (core : CoreTree) (code : CodeTree) (ty : Ty) (o : Outcome) (whole : Cost) (w : Weave) (sd : Sound core code ty o whole w) (i : ℕ) (run : (task w.tasks i).stage ≡ Running)
    (j : ℕ) (sts : List Status) (a : Answer) (es : (task w.tasks i).sides ≡ Runs j ∷ sts) (fin : (task w.tasks j).stage ≡ Finished a)
    (sh : Share) (p : Spends (sd.family i).share sh 0) (h : Meets core code (sd.family i).owed (sd.family i).own sh w.memory.cells (task w.tasks i).state) where
  abbrev n : ℕ
  n = length w.tasks

  abbrev s : Store
  s = w.memory.cells

  abbrev f : Family
  f = sd.family

  abbrev going : Task
  going = record { state = joins (task w.tasks i).state a; sides = sts; stage = Running }

  abbrev joiner : Member
  joiner = owing (f i) (both (f i).own (f j).own) (with_count sh (f j).share.count) h.others

  abbrev spent : Member
  spent = record (f j) { own = λ q. 0; share = new_share nothing }

  abbrev middle : List Task
  middle = slice_set w.tasks i going

  abbrev after : List Task
  after = slice_set middle j no_task

  abbrev said : Family
  said = put (put f i joiner) j spent

  -- who is who

  all : AllSides core code s w.tasks f i (Runs j ∷ sts) (h.debt ∷ h.others) × (waiting_costs (task w.tasks i).sides (f i).owed.sides ≡ waiting_costs (Runs j ∷ sts) (h.debt ∷ h.others))
  all = listed core code ty o whole w sd i (Runs j ∷ sts) (h.debt ∷ h.others) run es h.sides

  side : OneSide core code s w.tasks f i (length sts) h.debt (Runs j)
  side = all.0.0

  i_not_j : i ≡ j → ⊥
  i_not_j e = let l = side.0 in absurd (omega (arith, l, e))

  not_root : 0 ≡ j → ⊥
  not_root e = let l = side.0 in absurd (omega (arith, l, e))

  i_inside : i < n
  i_inside = runs_inside w.tasks i run

  j_inside : j < n
  j_inside = in_list w.tasks j side.3

  as_joiner : IsAs after said i going joiner
  as_joiner = set_else middle (put f i joiner) j i no_task going spent joiner i_not_j (set_as w.tasks f i going joiner i_inside)

  as_spent : IsAs after said j no_task spent
  as_spent = set_as middle (put f i joiner) j no_task spent (subst (λ (m : ℕ). j < m) (sym (length-set w.tasks i going)) j_inside)

  kept : (k : ℕ) → (k ≡ i → ⊥) → (k ≡ j → ⊥) → IsKept w.tasks after f said k
  kept k other ne = set_else middle (put f i joiner) j k no_task (task w.tasks k) spent (f k) ne (set_else w.tasks f i k going (task w.tasks k) joiner (f k) other (itself w.tasks f k))

  -- what parents know

  there : (k : ℕ) → (k ≡ j → ⊥) → IsThere (task w.tasks k).stage → IsThere (task after k).stage
  there k ne x = subst (λ (q : Task). IsThere q.stage) (sym (set_there middle j k no_task ne)) (stays w.tasks i going i_inside tt k x)

  alike : (k : ℕ) → IsLike (f k) (said k)
  alike = put_each (put f i joiner) j spent (λ k b. IsLike (f k) b) (record { parent = refl; place = refl; type = refl; all = refl })
      (λ k ne. put_like f i joiner (owing_like (f i) (both (f i).own (f j).own) (with_count sh (f j).share.count) h.others) k)

  -- of task j no other side knows
  named : (k m : ℕ) → (k ≡ i → (f j).place < m → ⊥) → Named w.tasks after f said k m
  named k m no_j = record { one = λ c x y z v. (there c (λ e. no_j (sym y ∙ ap (λ (q : ℕ). (f q).parent) e ∙ side.1) (subst (λ (q : ℕ). (f q).place < m) e z)) v, alike c) }

  -- the tasks

  answered : IsAnswer code.laid s h.debt.ty h.debt.owed a
  answered = answers core code ty o whole w sd j a h.debt.ty h.debt.owed fin side.4 side.5

  goes_on : SoundAs core code s after said i joiner going Running
  goes_on = (
    safe_owned core code joiner.owed (f i).own joiner.own joiner.share s going.state (h.join a (f j).share.count answered (sd.shared.balanced j)) (owns_all (f i).own joiner.own s (λ q. omega arith)),
    sides_keep core code s s w.tasks after f said i (length sts) sts h.others (omega arith) (named i (length sts) (λ e x. let p = side.2 in absurd (omega (arith, x, p)))) (grows_same s) all.0.1,
  )

  tasks : (k : ℕ) → IsSound core code s after said k
  tasks = two_and_others i j (λ k. IsSound core code s after said k) (sound_as core code s after said i going joiner as_joiner goes_on) (sound_as core code s after said j no_task spent as_spent tt)
      (λ k other ne. sound_kept core code s s w.tasks after f said k (kept k other ne) (same_others (f k).own s (bounded_small w.memory sd.bounded)) (named k (length (task w.tasks k).sides) (λ e x. other e)) (sd.tasks k))

  -- the bills

  sum : (g : Amount) → total (λ k. g (said k) (task after k).sides) (length after) + (g (f i) (task w.tasks i).sides + g (f j) (task w.tasks j).sides) ≡ total (λ k. g (f k) (task w.tasks k).sides) n + (g joiner sts + g spent [])
  sum g =
      let x = two_change g w.tasks after f said n i j going no_task joiner spent i_inside j_inside (λ e. i_not_j (sym e)) as_joiner as_spent kept in
      let y = ap (λ (m : ℕ). total (λ k. g (said k) (task after k).sides) m) (length-set middle j no_task ∙ length-set w.tasks i going) in
      omega (arith, x, y)

  shared : Shared whole (record { memory = w.memory; tasks = after }) said
  shared = record {
    balanced = put_each (put f i joiner) j spent (λ k b. Balanced b.share.count) (omega arith)
        (λ k ne. put_each f i joiner (λ k b. Balanced b.share.count) (count_joins sh.count (f j).share.count (p.balanced (sd.shared.balanced i)) (sd.shared.balanced j)) (λ k other. sd.shared.balanced k) k);
    regions = let x = sum (λ b sts. (bill_of b sts).regions) in let y = ap (λ (c : Cost). c.regions) all.1 in let d = sd.shared.regions in let e = p.costs.regions in omega (arith, x, y, d, e);
    items = let x = sum (λ b sts. (bill_of b sts).items) in let y = ap (λ (c : Cost). c.items) all.1 in let d = sd.shared.items in let e = p.costs.items in omega (arith, x, y, d, e);
    drawn = let x = sum (λ b sts. b.share.count.drawn) in let d = sd.shared.drawn in let e = p.drawn in omega (arith, x, d, e);
    alone = sd.shared.alone;
  }

  -- who owns an address now

  -- What was task j's is task i's.
  abbrev heir : ℕ → ℕ
  heir = put (λ k. k) j i

  -- Some task had the address, whose heir is task k.
  abbrev Had : (k q : ℕ) → Type 0
  Had k q = (from : ℕ) × (k ≡ heir from) × (0 < (f from).own q)

  mine : (q : ℕ) → (0 < (f i).own q) ⊎ (0 < (f j).own q) → Had i q
  mine q (inl z) = (i, sym (put-other (λ k. k) j i i i_not_j), z)
  mine q (inr z) = (j, sym (put-same (λ k. k) j i), z)

  owned : (k q : ℕ) → 0 < (said k).own q → Had k q
  owned = put_each (put f i joiner) j spent (λ k b. (q : ℕ) → 0 < b.own q → Had k q) (λ q z. absurd (omega (arith, z)))
      (λ k. put_each f i joiner (λ k b. (k ≡ j → ⊥) → (q : ℕ) → 0 < b.own q → Had k q) (λ ne q z. mine q (pos_sum ((f i).own q) ((f j).own q) z)) (λ k other ne q z. (k, sym (put-other (λ k. k) j k i ne), z)) k)

  pub join_keeps : Sound core code ty o whole (record { memory = w.memory; tasks = slice_set (with_sides w i (joins (task w.tasks i).state a) sts).tasks j no_task })
  join_keeps = record {
    family = said;
    tasks = tasks;
    apart = λ b c q x y. let u = owned b q x in let v = owned c q y in u.1 ∙ ap heir (sd.apart u.0 v.0 q u.2 v.2) ∙ sym v.1;
    drawn = λ b q x e. let u = owned b q x in sd.drawn u.0 q u.2 e;
    bounded = sd.bounded;
    root = there 0 not_root sd.root;
    type = (alike 0).type ∙ sd.type;
    owes = (alike 0).all ∙ sd.owes;
    shared = shared;
  }
