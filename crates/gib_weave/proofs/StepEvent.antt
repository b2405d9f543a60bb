-- A task makes a step.
use Rattle.std.proofs.Common.{◌≡◌, inl, inr, ℕ, zero, suc, ◌+◌, ◌*◌, ◌<◌, true, List, length, refl, sym, ◌∙◌, arith}
use Rattle.gib_types.specs.declared.table.Ty.{Ty}
use Rattle.gib_syntax.specs.Meaning.{Outcome}
use Rattle.gib_mem.specs.Memory.{Memory, absent, open_chunk, after_draw}
use Rattle.gib_region.specs.Region.{Draws}
use Rattle.gib_core.specs.Tree.{CoreTree}
use Rattle.gib_code.specs.Program.{CodeTree}
use Rattle.gib_machine.specs.State.{State}
use Rattle.gib_core.specs.Cost.{Cost}
use Rattle.gib_weave.specs.Owing.{Debt}
use Rattle.gib_weave.specs.Paying.{Share, Spends}
use Rattle.gib_weave.specs.Places.{Owned, with_chunk, IsNew, put_all, AllFresh}
use Rattle.gib_weave.specs.Sound.{Leads}
use Rattle.gib_weave.specs.Weave.{Running, Weave, task, moved, Sound}
use Rattle.gib_weave.proofs.Acts.{Acts, Pays, owing, owing_like, acts_here, runs_on, running_sound}
use Rattle.gib_weave.proofs.Places.{IsSided, zero_or_one, open-outside}
use Rattle.gib_weave.proofs.Memories.{after_all, bounded_small, bounded_puts, bounded_draw, draws_new}
use Rattle.gib_weave.proofs.Others.{puts_is_others, open_is_others}
use Rattle.gib_weave.proofs.Cells.{fresh_absent}
use Rattle.gib_mem.proofs.Puts.{open_in}

no_more : (n : ℕ) → (0 < n → ⊥) → n ≡ 0
no_more zero h = refl
no_more (suc n) h = absurd (h (omega arith))

module _ (core : CoreTree) (code : CodeTree) (ty : Ty) (o : Outcome) (whole : Cost) (w : Weave) (sd : Sound core code ty o whole w) (i : ℕ) (run : (task w.tasks i).stage ≡ Running) where
  abbrev sides : List Debt
  sides = (sd.family i).owed.sides

  -- a step pays for itself
  pays : (v : Memory) (own : Owned) (drew : ℕ) (sh : Share) → Spends (sd.family i).share sh drew → w.memory.drawn + drew ≡ v.drawn → (w.memory.alone ≡ true → v.alone ≡ true)
      → Pays w sd.family i v (task w.tasks i).sides (owing (sd.family i) own sh sides)
  pays v own drew sh p e al = record {
    balanced = p.balanced;
    costs = record { regions = let a = p.costs.regions in omega (arith, a); items = let a = p.costs.items in omega (arith, a) };
    drawn = let a = p.drawn in omega (arith, a, e);
    alone = al;
  }

  -- nothing is put
  pub silent_keeps : (m : State) → Leads core code (sd.family i).owed (sd.family i).own (sd.family i).share 0 w.memory.cells m → Sound core code ty o whole (moved w w.memory i m)
  silent_keeps m h =
      let own = (sd.family i).own in
      let a = acts_here core code ty o whole w sd i (record { state = m; sides = (task w.tasks i).sides; stage = Running }) h.0 sides run tt (pays w.memory own 0 h.0 h.1 (omega arith) (λ q. q)) in
      runs_on core code ty o whole w sd i w.memory m (task w.tasks i).sides (owing (sd.family i) own h.0 sides) a h.2 (running_sound core code ty o whole w sd i run).1

  nobody : (j q : ℕ) → (j ≡ i → ⊥) → 0 < (sd.family i).own q → (sd.family j).own q ≡ 0
  nobody j q ne h = no_more ((sd.family j).own q) (λ x. ne (sd.apart j i q x h))

  -- bytes are put
  pub puts_keep : (a : ℕ) (bs : List ℕ) (m : State) → AllFresh (sd.family i).own w.memory.cells a (length bs)
      → Leads core code (sd.family i).owed (sd.family i).own (sd.family i).share 0 (put_all w.memory.cells a bs) m → Sound core code ty o whole (moved w (after_all w.memory a bs) i m)
  puts_keep a bs m f h =
      let own = (sd.family i).own in
      let v = after_all w.memory a bs in
      let small = bounded_small w.memory sd.bounded in
      let b = owing (sd.family i) own h.0 sides in
      let there = (puts_is_others (λ q. 0) own w.memory.cells a bs f (λ q mine. refl) small).drawn in
      let act : Acts w sd.family i v (record { state = m; sides = (task w.tasks i).sides; stage = Running }) b = record {
        runs = run;
        there = tt;
        like = owing_like (sd.family i) own h.0 sides;
        others = λ j ne. puts_is_others (sd.family j).own own w.memory.cells a bs f (λ q mine. nobody j q ne mine) small;
        owns = record { apart = λ j q ne x y. ne (sd.apart j i q y x); drawn = λ q x e. sd.drawn i q x (there q e) };
        bounded = bounded_puts w.memory a bs f sd.bounded;
        pays = pays v own 0 h.0 h.1 (omega arith) (λ q. q);
      } in
      runs_on core code ty o whole w sd i v m (task w.tasks i).sides b act h.2 (running_sound core code ty o whole w sd i run).1

  -- a chunk is drawn
  pub draw_keeps : (c : ℕ) (m : State) → Draws w.memory c → Leads core code (sd.family i).owed (with_chunk (sd.family i).own c) (sd.family i).share 1 (open_chunk w.memory.cells c) m
      → Sound core code ty o whole (moved w (after_draw w.memory c) i m)
  draw_keeps c m dr h = runs_on core code ty o whole w sd i (after_draw w.memory c) m (task w.tasks i).sides (owing (sd.family i) own h.0 sides) (record {
    runs = run;
    there = tt;
    like = owing_like (sd.family i) own h.0 sides;
    others = λ j ne. open_is_others (sd.family j).own w.memory.cells c new (λ q x e. sd.drawn j q x e) (bounded_small w.memory sd.bounded);
    owns = record { apart = λ j q ne x y. apart j q ne (zero_or_one (4096 * c) 4096 q) x y; drawn = λ q x e. drawn q (zero_or_one (4096 * c) 4096 q) x e };
    bounded = bounded_draw w.memory c dr sd.bounded;
    pays = pays (after_draw w.memory c) own 1 h.0 h.1 (let e = dr.alone sd.shared.alone in omega (arith, e)) (λ q. q);
  }) h.2 (running_sound core code ty o whole w sd i run).1
    where
      own : Owned
      own = with_chunk (sd.family i).own c

      new : IsNew w.memory.cells c
      new = draws_new w.memory c sd.bounded dr

      apart : (j q : ℕ) → (j ≡ i → ⊥) → IsSided (4096 * c) 4096 q → 0 < with_chunk (sd.family i).own c q → 0 < (sd.family j).own q → ⊥
      apart j q ne (inl z) x y = ne (sd.apart j i q y (omega (arith, x, z)))
      apart j q ne (inr k) x y = sd.drawn j q y (new.new q k.1 k.2)

      drawn : (q : ℕ) → IsSided (4096 * c) 4096 q → 0 < with_chunk (sd.family i).own c q → open_chunk w.memory.cells c q ≡ absent → ⊥
      drawn q (inl z) x e = sd.drawn i q (omega (arith, x, z)) (sym (open-outside w.memory.cells c q z) ∙ e)
      drawn q (inr k) x e = fresh_absent (sym (open_in w.memory.cells c q k.1 k.2) ∙ e)
