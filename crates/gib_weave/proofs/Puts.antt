-- Over a list of events each byte is put once, and none is got before it is put.
use Rattle.std.proofs.Common.{◌≡◌, ◌⊎◌, inl, inr, ℕ, ◌+◌, ◌*◌, ◌<◌, ◌≤◌, Bool, true, false, nat_lt, List, ◌∷◌, length, refl, sym, ap, subst, ◌∙◌, arith}
use Rattle.std.proofs.lemmas.Bool.Decides.{nat_tests}
use Rattle.gib_types.specs.declared.table.Ty.{Ty}
use Rattle.gib_syntax.specs.Meaning.{Outcome}
use Rattle.gib_mem.specs.Memory as mem
use Rattle.gib_mem.specs.Memory.{Memory, Store, fresh, Grows, Holds}
use Rattle.gib_core.specs.Tree.{CoreTree}
use Rattle.gib_core.specs.Cost.{Cost}
use Rattle.gib_code.specs.Program.{CodeTree}
use Rattle.gib_machine.specs.State.{Ask, Silent, Get, Put, Draw, AtFork, AtJoin, Ended}
use Rattle.gib_weave.specs.Starting.{AreBodies}
use Rattle.gib_weave.specs.Weave as ev
use Rattle.gib_weave.specs.Weave.{Running, Weave, Event, task, Next, Sound, IsCareful, asks, Legal, none, more}
use Rattle.gib_weave.specs.Bytes.{HasByte, GetsAt, PutsAt, Gets, Puts, ArePut, first, later}
use Rattle.gib_weave.proofs.Basics.{put_all-holds, put_all-grows, put_all-outside}
use Rattle.gib_weave.proofs.Places.{IsSided, zero_or_one, open-outside, open-grows}
use Rattle.gib_weave.proofs.Memories.{after_puts_is, draws_new}
use Rattle.gib_weave.proofs.Grow.{grows_on, grows_same}
use Rattle.gib_weave.proofs.Acts.{owes_next}
use Rattle.gib_weave.proofs.Events.{event_keeps}
use Rattle.gib_weave.proofs.Progress.{careful, run_keeps}
use Rattle.gib_weave.proofs.Cells.{fresh_byte}
use Rattle.gib_mem.proofs.Puts.{open_in}

-- each of the bytes that stand from a on
holds_at : {s : Store} {a : ℕ} {bs : List ℕ} (q : ℕ) → Holds s a bs → a ≤ q → q < a + length bs → HasByte s q
holds_at q mem.none lo hi = absurd (omega (arith, lo, hi))
holds_at {s = s} {a = a} q (mem.more {b = b} {bs = bs} x h) lo hi = go (nat_lt a q) refl (λ l. holds_at q h (omega (arith, l)) (omega (arith, hi)))
  where
    go : (t : Bool) → nat_lt a q ≡ t → (a < q → HasByte s q) → HasByte s q
    go true e behind = behind (grind (arith, nat_tests))
    go false e behind = (b, ap s (same (grind (arith, nat_tests))) ∙ x)
      where
        same : q ≤ a → q ≡ a
        same l = omega (arith, lo, l)

-- A byte that stands after an event stood before it, or is put by it.
byte_from : (code : CodeTree) (w v : Weave) (e : Event) (q : ℕ) → Next code w e v → HasByte v.memory.cells q → HasByte w.memory.cells q ⊎ Puts code w e q
byte_from code w _ _ q (ev.silent on e) k = inl k
byte_from code w _ _ q (ev.get on e known) k = inl k
byte_from code w _ _ q (ev.puts {i = i} {a = a} {b = b} {bs = bs} {m = m} on e) k = go (zero_or_one a (length (b ∷ bs)) q)
  where
    go : IsSided a (length (b ∷ bs)) q → HasByte w.memory.cells q ⊎ PutsAt (asks code w i) q
    go (inl z) = inl (k.0, sym (put_all-outside w.memory.cells a (b ∷ bs) q z) ∙ ap (λ (v : Memory). v.cells q) (sym (after_puts_is w.memory a (b ∷ bs))) ∙ k.1)
    go (inr o) = inr (subst (λ (x : Ask). PutsAt x q) (sym e) (o.1, o.2))
byte_from code w _ _ q (ev.draws {i = i} {c = c} {k = then} on e dr) k = go (zero_or_one (4096 * c) 4096 q)
  where
    go : IsSided (4096 * c) 4096 q → HasByte w.memory.cells q ⊎ PutsAt (asks code w i) q
    go (inl z) = inl (k.0, sym (open-outside w.memory.cells c q z) ∙ k.1)
    go (inr o) = absurd (fresh_byte (sym (open_in w.memory.cells c q o.1 o.2) ∙ k.1))
byte_from code w _ _ q (ev.forks on e) k = inl k
byte_from code w _ _ q (ev.steals on few st) k = inl k
byte_from code w _ _ q (ev.takes_it on e x) k = inl k
byte_from code w _ _ q (ev.finishes on e) k = inl k
byte_from code w _ _ q (ev.joins_it on e x y) k = inl k

-- So it is over a list.
bytes_from : (code : CodeTree) (w v : Weave) (es : List Event) (q : ℕ) → Legal code w es v → HasByte v.memory.cells q → HasByte w.memory.cells q ⊎ ArePut code q w es
bytes_from code w _ _ q none k = inl k
bytes_from code w _ _ q (more {w' = w1} {w'' = w2} {e = e} {es = es} h l) k = go (bytes_from code w1 w2 es q l k)
  where
    now : HasByte w.memory.cells q ⊎ Puts code w e q → HasByte w.memory.cells q ⊎ ArePut code q w (e ∷ es)
    now (inl x) = inl x
    now (inr p) = inr (first h p)

    go : HasByte w1.memory.cells q ⊎ ArePut code q w1 es → HasByte w.memory.cells q ⊎ ArePut code q w (e ∷ es)
    go (inl x) = now (byte_from code w w1 e q h x)
    go (inr p) = inr (later h p)

-- What an event puts stands after it.
put_stands : (code : CodeTree) (w v : Weave) (e : Event) (q : ℕ) → Next code w e v → Puts code w e q → HasByte v.memory.cells q
put_stands code w _ _ q (ev.silent on e) p = absurd (subst (λ (x : Ask). PutsAt x q) e p)
put_stands code w _ _ q (ev.get on e known) p = absurd (subst (λ (x : Ask). PutsAt x q) e p)
put_stands code w _ _ q (ev.puts {i = i} {a = a} {b = b} {bs = bs} {m = m} on e) p =
    let h = subst (λ (x : Ask). PutsAt x q) e p in
    subst (λ (v : Memory). HasByte v.cells q) (sym (after_puts_is w.memory a (b ∷ bs))) (holds_at q (put_all-holds w.memory.cells a (b ∷ bs)) h.0 h.1)
put_stands code w _ _ q (ev.draws on e dr) p = absurd (subst (λ (x : Ask). PutsAt x q) e p)
put_stands code w _ _ q (ev.forks on e) p = absurd p
put_stands code w _ _ q (ev.steals on few st) p = absurd p
put_stands code w _ _ q (ev.takes_it on e x) p = absurd p
put_stands code w _ _ q (ev.finishes on e) p = absurd p
put_stands code w _ _ q (ev.joins_it on e x y) p = absurd p

module _ (core : CoreTree) (code : CodeTree) (ok : AreBodies core code) (ty : Ty) (o : Outcome) (whole : Cost) where
  -- What stands before an event stands after it.
  next_grows : (w v : Weave) (e : Event) → Sound core code ty o whole w → Next code w e v → Grows w.memory.cells v.memory.cells
  next_grows w _ _ sd (ev.silent on e) = grows_same w.memory.cells
  next_grows w _ _ sd (ev.get on e known) = grows_same w.memory.cells
  next_grows w _ _ sd (ev.puts {i = i} {a = a} {b = b} {bs = bs} {m = m} on e) =
      let h = owes_next core code ok ty o whole w sd i (Put a b bs m) on.here e in
      subst (λ (v : Memory). Grows w.memory.cells v.cells) (sym (after_puts_is w.memory a (b ∷ bs))) (put_all-grows w.memory.cells a (b ∷ bs) h.0)
  next_grows w _ _ sd (ev.draws {i = i} {c = c} {k = then} on e dr) = open-grows w.memory.cells c (draws_new w.memory c sd.bounded dr)
  next_grows w _ _ sd (ev.forks on e) = grows_same w.memory.cells
  next_grows w _ _ sd (ev.steals on few st) = grows_same w.memory.cells
  next_grows w _ _ sd (ev.takes_it on e x) = grows_same w.memory.cells
  next_grows w _ _ sd (ev.finishes on e) = grows_same w.memory.cells
  next_grows w _ _ sd (ev.joins_it on e x y) = grows_same w.memory.cells

  legal_grows : (w v : Weave) (es : List Event) → Sound core code ty o whole w → Legal code w es v → Grows w.memory.cells v.memory.cells
  legal_grows w _ _ sd none = grows_same w.memory.cells
  legal_grows w _ _ sd (more {w' = w1} {w'' = w2} {e = e} {es = es} h l) =
      grows_on (next_grows w w1 e sd h) (legal_grows w1 w2 es (event_keeps core code ok ty o whole w w1 e sd h) l)

  -- What is put was fresh, and what is got stands there.
  put_is_fresh : (w : Weave) (sd : Sound core code ty o whole w) (i q : ℕ) → (task w.tasks i).stage ≡ Running → PutsAt (asks code w i) q → w.memory.cells q ≡ fresh
  put_is_fresh w sd i q run p = go (asks code w i) (careful core code ok ty o whole w sd i run) p
    where
      go : (a : Ask) → IsCareful w.memory.cells a → PutsAt a q → w.memory.cells q ≡ fresh
      go (Silent m) c p = absurd p
      go (Get a n k) c p = absurd p
      go (Put a b bs m) c p = c.all q p.0 p.1
      go (Draw k) c p = absurd p
      go AtFork c p = absurd p
      go AtJoin c p = absurd p
      go (Ended a) c p = absurd p

  got_stands : (w : Weave) (sd : Sound core code ty o whole w) (i q : ℕ) → (task w.tasks i).stage ≡ Running → GetsAt (asks code w i) q → HasByte w.memory.cells q
  got_stands w sd i q run p = go (asks code w i) (careful core code ok ty o whole w sd i run) p
    where
      go : (a : Ask) → IsCareful w.memory.cells a → GetsAt a q → HasByte w.memory.cells q
      go (Silent m) c p = absurd p
      go (Get a n k) c p = holds_at q c.1 p.0 (let i = c.2 in let j = p.1 in omega (arith, i, j))
      go (Put a b bs m) c p = absurd p
      go (Draw k) c p = absurd p
      go AtFork c p = absurd p
      go AtJoin c p = absurd p
      go (Ended a) c p = absurd p

  event_is_fresh : (w v : Weave) (e : Event) (q : ℕ) → Sound core code ty o whole w → Next code w e v → Puts code w e q → w.memory.cells q ≡ fresh
  event_is_fresh w _ _ q sd (ev.silent {i = i} on e) p = put_is_fresh w sd i q on.here p
  event_is_fresh w _ _ q sd (ev.get {i = i} on e known) p = put_is_fresh w sd i q on.here p
  event_is_fresh w _ _ q sd (ev.puts {i = i} on e) p = put_is_fresh w sd i q on.here p
  event_is_fresh w _ _ q sd (ev.draws {i = i} on e dr) p = put_is_fresh w sd i q on.here p
  event_is_fresh w _ _ q sd (ev.forks on e) p = absurd p
  event_is_fresh w _ _ q sd (ev.steals on few st) p = absurd p
  event_is_fresh w _ _ q sd (ev.takes_it on e x) p = absurd p
  event_is_fresh w _ _ q sd (ev.finishes on e) p = absurd p
  event_is_fresh w _ _ q sd (ev.joins_it on e x y) p = absurd p

  event_gets : (w v : Weave) (e : Event) (q : ℕ) → Sound core code ty o whole w → Next code w e v → Gets code w e q → HasByte w.memory.cells q
  event_gets w _ _ q sd (ev.silent {i = i} on e) p = got_stands w sd i q on.here p
  event_gets w _ _ q sd (ev.get {i = i} on e known) p = got_stands w sd i q on.here p
  event_gets w _ _ q sd (ev.puts {i = i} on e) p = got_stands w sd i q on.here p
  event_gets w _ _ q sd (ev.draws {i = i} on e dr) p = got_stands w sd i q on.here p
  event_gets w _ _ q sd (ev.forks on e) p = absurd p
  event_gets w _ _ q sd (ev.steals on few st) p = absurd p
  event_gets w _ _ q sd (ev.takes_it on e x) p = absurd p
  event_gets w _ _ q sd (ev.finishes on e) p = absurd p
  event_gets w _ _ q sd (ev.joins_it on e x y) p = absurd p

  -- No byte is put over one that stands.
  pub never_over : (w v v' : Weave) (e : Event) (es : List Event) (q : ℕ) → Sound core code ty o whole w → HasByte w.memory.cells q → Legal code w es v → Next code v e v' → Puts code v e q → ⊥
  never_over w v v' e es q sd k l h p =
      absurd (fresh_byte (sym (event_is_fresh v v' e q (run_keeps core code ok ty o whole w v es sd l) h p) ∙ (legal_grows w v es sd l).kept q k.0 k.1))

  -- None is put twice.
  pub never_twice : (w w' v v' : Weave) (d e : Event) (es : List Event) (q : ℕ) → Sound core code ty o whole w → Next code w d w' → Puts code w d q → Legal code w' es v → Next code v e v' → Puts code v e q → ⊥
  never_twice w w' v v' d e es q sd n p l h r = never_over w' v v' e es q (event_keeps core code ok ty o whole w w' d sd n) (put_stands code w w' d q n p) l h r

  -- What is got stood there from the start on, or was put.
  pub got_was_put : (w v v' : Weave) (e : Event) (es : List Event) (q : ℕ) → Sound core code ty o whole w → Legal code w es v → Next code v e v' → Gets code v e q → HasByte w.memory.cells q ⊎ ArePut code q w es
  got_was_put w v v' e es q sd l h p = bytes_from code w v es q l (event_gets v v' e q (run_keeps core code ok ty o whole w v es sd l) h p)
