-- A right side that waits is stolen: it becomes a task.
use Rattle.std.proofs.Common.{◌≡◌, ℕ, suc, ◌+◌, ◌<◌, List, [], ◌∷◌, ◌++◌, length, slice_set, refl, sym, ap, subst, ◌∙◌, arith}
use Rattle.std.proofs.lemmas.List.{length-set, length-append}
use Rattle.gib_types.specs.declared.table.Ty.{Ty}
use Rattle.gib_syntax.specs.Meaning.{Outcome}
use Rattle.gib_mem.specs.Memory.{Store}
use Rattle.gib_core.specs.Tree.{CoreTree}
use Rattle.gib_code.specs.Program.{CodeTree}
use Rattle.gib_machine.specs.Sides.{Waiting, side_start}
use Rattle.gib_core.specs.Fits.{put}
use Rattle.gib_region.specs.Count.{Balanced}
use Rattle.gib_core.specs.Cost.{Cost, plus}
use Rattle.gib_weave.specs.Owing.{Debt}
use Rattle.gib_weave.specs.Paying.{new_share}
use Rattle.gib_weave.specs.Sound.{SideSafe}
use Rattle.gib_weave.specs.Weave.{Status, Waits, Runs, Running, Task, Weave, task, with_sides, Stolen, oldest, older, Member, Family, IsThere, OneSide, AllSides, SoundAs, IsSound, Sound, Shared, waiting_costs, bill_of, total}
use Rattle.gib_weave.proofs.Acts.{running_sound}
use Rattle.gib_weave.proofs.Basics.{put-other, put_each, two_and_others}
use Rattle.gib_weave.proofs.Grow.{grows_same}
use Rattle.gib_weave.proofs.Memories.{bounded_small}
use Rattle.gib_weave.proofs.Weaves.{set_here, set_there, put_before, in_list, runs_inside, stays, IsAs, IsKept, new_as, new_else, sound_as, Amount, amount_as, one_changes, IsLike, like, Named, fewer, same_others, one_keeps, sides_keep, sound_kept}

-- The side among those of its task.

abbrev cost_of : ℕ → ℕ → Cost
cost_of r i = record { regions = r; items = i }

swap : (a b c : Cost) → plus a (plus b c) ≡ plus b (plus a c)
swap a b c = ap (λ (n : ℕ). cost_of n (a.items + (b.items + c.items))) (omega arith) ∙ ap (cost_of (b.regions + (a.regions + c.regions))) (omega arith)

stolen_length : {j : ℕ} {x : Waiting} {sts sts' : List Status} → Stolen j sts x sts' → length sts' ≡ length sts
stolen_length (oldest n) = refl
stolen_length (older s) = ap suc (stolen_length s)

-- What the side owes and costs, and the other sides once it is the task j.
record Found (core : CoreTree) (code : CodeTree) (s : Store) (ts : List Task) (f : Family) (i j n : ℕ) (sts sts' : List Status) (ds : List Debt) (x : Waiting) : Type 0 where
  pub place : ℕ
  pub debt : Debt
  pub safe : SideSafe core code debt s x
  pub costs : waiting_costs sts ds ≡ plus debt.most (waiting_costs sts' ds)
  pub sides : (ts' : List Task) (f' : Family) → Named ts ts' f f' i n → OneSide core code s ts' f' i place debt (Runs j) → AllSides core code s ts' f' i sts' ds

further : (u : Status) (d : Debt) (sts sts' : List Status) (ds : List Debt) (most : Cost) → waiting_costs sts ds ≡ plus most (waiting_costs sts' ds) → waiting_costs (u ∷ sts) (d ∷ ds) ≡ plus most (waiting_costs (u ∷ sts') (d ∷ ds))
further (Waits y) d sts sts' ds most e = ap (plus d.most) e ∙ swap d.most most (waiting_costs sts' ds)
further (Runs k) d sts sts' ds most e = e

found : (core : CoreTree) (code : CodeTree) (s : Store) (ts : List Task) (f : Family) (i j : ℕ) (sts sts' : List Status) (ds : List Debt) (x : Waiting) → Stolen j sts x sts' → AllSides core code s ts f i sts ds → Found core code s ts f i j (length sts) sts sts' ds x
found core code s ts f i j _ _ [] x (oldest n) h = absurd h
found core code s ts f i j _ _ (d ∷ ds) x (oldest {sts = sts} n) h = record {
  place = length sts;
  debt = d;
  safe = h.0;
  costs = refl;
  sides = λ ts' f' nm o. (o, sides_keep core code s s ts ts' f f' i (length sts) sts ds (omega arith) (fewer (omega arith) nm) (grows_same s) h.1);
}
found core code s ts f i j _ _ [] x (older st) h = absurd h
found core code s ts f i j _ _ (d ∷ ds) x (older {st = u} {sts = sts} {sts' = sts'} st) h =
    let r = found core code s ts f i j sts sts' ds x st h.1 in
    record {
      place = r.place;
      debt = r.debt;
      safe = r.safe;
      costs = further u d sts sts' ds r.debt.most r.costs;
      sides = λ ts' f' nm o.
          (subst (λ (p : ℕ). OneSide core code s ts' f' i p d u) (sym (stolen_length st)) (one_keeps core code s s ts ts' f f' i (suc (length sts)) (length sts) u d (omega arith) nm (grows_same s) h.0), r.sides ts' f' (fewer (omega arith) nm) o);
    }

-- The weave.

module _ (core : CoreTree) (code : CodeTree) (ty : Ty) (o : Outcome) (whole : Cost) (w : Weave) (sd : Sound core code ty o whole w) (i : ℕ) (run : (task w.tasks i).stage ≡ Running)
    (x : Waiting) (sts : List Status) (st : Stolen (length w.tasks) (task w.tasks i).sides x sts) where
  abbrev n : ℕ
  n = length w.tasks

  abbrev s : Store
  s = w.memory.cells

  abbrev f : Family
  f = sd.family

  abbrev robbed : Task
  robbed = record { state = (task w.tasks i).state; sides = sts; stage = Running }

  abbrev begun : Task
  begun = record { state = side_start code x; sides = []; stage = Running }

  abbrev after : List Task
  after = slice_set w.tasks i robbed ++ begun ∷ []

  old : SoundAs core code s w.tasks f i (f i) (task w.tasks i) Running
  old = running_sound core code ty o whole w sd i run

  side : Found core code s w.tasks f i n (length (task w.tasks i).sides) (task w.tasks i).sides sts (f i).owed.sides x
  side = found core code s w.tasks f i n (task w.tasks i).sides sts (f i).owed.sides x st old.1

  abbrev thief : Member
  thief = record { own = λ q. 0; owed = record { ty = side.debt.ty; all = side.debt.owed; sides = [] }; share = new_share side.debt.most; parent = i; place = side.place }

  abbrev said : Family
  said = put f n thief

  -- who is who

  inside : i < n
  inside = runs_inside w.tasks i run

  below : (j : ℕ) → j < n → j ≡ n → ⊥
  below j l e = absurd (omega (arith, l, e))

  not_new : (j : ℕ) → IsThere (task w.tasks j).stage → j ≡ n → ⊥
  not_new j h = below j (in_list w.tasks j h)

  len : length (slice_set w.tasks i robbed) ≡ n
  len = length-set w.tasks i robbed

  as_begun : IsAs after said n begun thief
  as_begun = new_as (slice_set w.tasks i robbed) f n begun thief len

  as_robbed : IsAs after said i robbed (f i)
  as_robbed = new_else (slice_set w.tasks i robbed) f n i begun robbed thief (f i) len (below i inside) (record { task_is = set_here w.tasks i robbed inside; said = refl })

  kept : (j : ℕ) → (j ≡ n → ⊥) → (j ≡ i → ⊥) → IsKept w.tasks after f said j
  kept j ne other = new_else (slice_set w.tasks i robbed) f n j begun (task w.tasks j) thief (f j) len ne (record { task_is = set_there w.tasks i j robbed other; said = refl })

  -- what parents know

  there : (j : ℕ) → IsThere (task w.tasks j).stage → IsThere (task after j).stage
  there j h = subst (λ (q : Task). IsThere q.stage) (sym (put_before (slice_set w.tasks i robbed) begun j (λ e. not_new j h (e ∙ len)))) (stays w.tasks i robbed inside tt j h)

  alike : (j : ℕ) → (j ≡ n → ⊥) → IsLike (f j) (said j)
  alike j ne = subst (λ (b : Member). IsLike (f j) b) (sym (put-other f n j thief ne)) (like (f j))

  named : (k m : ℕ) → Named w.tasks after f said k m
  named k m = record { one = λ j a b c d. (there j d, alike j (not_new j d)) }

  the_side : OneSide core code s after said i side.place side.debt (Runs n)
  the_side = (
    inside,
    ap (λ (b : Member). b.parent) as_begun.said,
    ap (λ (b : Member). b.place) as_begun.said,
    subst (λ (q : Task). IsThere q.stage) (sym as_begun.task_is) tt,
    ap (λ (b : Member). b.owed.ty) as_begun.said,
    ap (λ (b : Member). b.owed.all) as_begun.said,
  )

  tasks : (j : ℕ) → IsSound core code s after said j
  tasks = two_and_others n i (λ j. IsSound core code s after said j)
      (sound_as core code s after said n begun thief as_begun (side.safe.safe s (grows_same s) (bounded_small w.memory sd.bounded), tt))
      (sound_as core code s after said i robbed (f i) as_robbed (old.0, side.sides after said (named i (length (task w.tasks i).sides)) the_side))
      (λ j ne other. sound_kept core code s s w.tasks after f said j (kept j ne other) (same_others (f j).own s (bounded_small w.memory sd.bounded)) (named j (length (task w.tasks j).sides)) (sd.tasks j))

  -- the bills

  sum : (g : Amount) → total (λ j. g (said j) (task after j).sides) (length after) + g (f i) (task w.tasks i).sides ≡ (total (λ j. g (f j) (task w.tasks j).sides) n + g (f i) sts) + g thief []
  sum g =
      let a = one_changes g w.tasks after f said n i robbed (f i) inside as_robbed (λ j l other. kept j (below j l) other) in
      let b = amount_as g after said n begun thief as_begun in
      let c : length after ≡ suc n = length-append (slice_set w.tasks i robbed) (begun ∷ []) ∙ ap (λ (m : ℕ). m + 1) len ∙ omega arith in
      let d = ap (λ (m : ℕ). total (λ j. g (said j) (task after j).sides) m) c in
      omega (arith, a, b, d)

  shared : Shared whole (record { memory = w.memory; tasks = after }) said
  shared = record {
    balanced = put_each f n thief (λ j b. Balanced b.share.count) (omega arith) (λ j ne. sd.shared.balanced j);
    regions = let a = sum (λ b sts. (bill_of b sts).regions) in let b = ap (λ (c : Cost). c.regions) side.costs in let d = sd.shared.regions in omega (arith, a, b, d);
    items = let a = sum (λ b sts. (bill_of b sts).items) in let b = ap (λ (c : Cost). c.items) side.costs in let d = sd.shared.items in omega (arith, a, b, d);
    drawn = let a = sum (λ b sts. b.share.count.drawn) in let d = sd.shared.drawn in omega (arith, a, d);
    alone = sd.shared.alone;
  }

  -- the thief owns nothing yet
  owned : (j q : ℕ) → 0 < (said j).own q → 0 < (f j).own q
  owned = put_each f n thief (λ j b. (q : ℕ) → 0 < b.own q → 0 < (f j).own q) (λ q h. absurd (omega (arith, h))) (λ j ne q h. h)

  pub steal_keeps : Sound core code ty o whole (record { memory = w.memory; tasks = (with_sides w i (task w.tasks i).state sts).tasks ++ begun ∷ [] })
  steal_keeps = record {
    family = said;
    tasks = tasks;
    apart = λ j k q a b. sd.apart j k q (owned j q a) (owned k q b);
    drawn = λ j q a e. sd.drawn j q (owned j q a) e;
    bounded = sd.bounded;
    root = there 0 sd.root;
    type = (alike 0 (not_new 0 sd.root)).type ∙ sd.type;
    owes = (alike 0 (not_new 0 sd.root)).all ∙ sd.owes;
    shared = shared;
  }
