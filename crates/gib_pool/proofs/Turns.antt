-- A worker's turns.
use Rattle.std.proofs.Common.{◌≡◌, ℕ, ◌+◌, ◌*◌, ◌<◌, inl, inr, suc, List, [], ◌∷◌, length, refl, sym, ap, subst, ◌∙◌, arith, cond}
use Rattle.std.specs.Prelude.{Option, Some, slice_get}
use Rattle.gib_mem.specs.Memory.{Memory, Cell, Store, absent, fresh, byte, set_cell, open_chunk, Grows, IsBounded}
use Rattle.gib_core.specs.Tree.{CoreTree}
use Rattle.gib_core.specs.Parts.{core_of}
use Rattle.gib_core.specs.LoweredParts.{LoweredParts, IsWhole}
use Rattle.gib_code.specs.declared.answer.Answer.{Answer}
use Rattle.gib_code.specs.Program.{CodeTree}
use Rattle.gib_machine.specs.State.{State, Ask, Silent, Get, Put, Draw, AtFork, AtJoin, Ended}
use Rattle.gib_machine.specs.Machine.{next}
use Rattle.gib_machine.specs.Sides.{Waiting, left_starts, right_of, side_start, takes, joins}
use Rattle.gib_machine.specs.Starting.{waiting_of}
use Rattle.gib_weave.specs.Owing.{Debt}
use Rattle.gib_weave.specs.Paying.{Share, Bill, new_share, with_rest, with_count}
use Rattle.gib_weave.specs.Places.{Owned, put_all, with_chunk, IsSmall}
use Rattle.gib_weave.specs.Sound.{Safe, SideSafe, IsAnswer, After, Forks, Meets, Others}
use Rattle.gib_weave.proofs.Basics.{by_test}
use Rattle.gib_weave.proofs.Bills.{bill_goes_on, bill_forks, bill_takes, bill_joins, side_bill}
use Rattle.gib_weave.proofs.Places.{IsSided, zero_or_one, open-outside}
use Rattle.gib_weave.proofs.Memories.{draws_new, puts_cells}
use Rattle.gib_weave.proofs.Others.{safe-others, answer-grows}
use Rattle.gib_weave.proofs.Step.{step_keeps}
use Rattle.gib_weave.proofs.Starts.{lowered_bodies}
use Rattle.gib_weave.proofs.ForkSides.{fork_open}
use Rattle.gib_arena.specs.Passes.{cells}
use Rattle.gib_frame.specs.declared.due.Due.{Due}
use Rattle.gib_frame.specs.Answers.{Answers, ArePaid, IsPaid}
use Rattle.gib_pool.specs.Turn.{AreThere, IsLent, AreLent, owing, Works, Pays, Wider, WorksOn, Tells, WorksBack, WorksAfter}
use Rattle.gib_pool.proofs.Paid.{bill_stays, paid_of, safe_free, taken_out}
use Rattle.gib_weave.proofs.Cells.{fresh_absent, byte_absent}
use Rattle.gib_weave.proofs.Grow.{grows_same, side_grows}
use Rattle.gib_mem.proofs.Puts.{open_in}

pub begins : (l : LoweredParts) (d : Debt) (s : Store) (w : Waiting) → IsSmall s → SideSafe (core_of l.core) l.code d s w → Works l d s 0 (side_start l.code w) []
begins l d s w sm h = record { own = λ q. 0; bill = new_share d.most; sides = []; safe = h.safe s (grows_same s) sm; there = record { there = λ q z e. absurd (omega (arith, z)) }; debts = tt; paid = side_bill d }

data Seen (c : Cell) : Type 0 where
  is_absent : c ≡ absent → Seen c
  is_fresh : c ≡ fresh → Seen c
  is_byte : (b : ℕ) → c ≡ byte b → Seen c

seen : (c : Cell) → Seen c
seen absent = is_absent refl
seen fresh = is_fresh refl
seen (byte b) = is_byte b refl

-- To a machine a wider pass is what others do.
pub wider_others : (own : Owned) (s r : Store) → AreThere own s → Wider s r → Others own s r
wider_others own s r t w = record { grows = w.known; mine = λ q h. mine q h (seen (s q)); drawn = λ q e. drawn q e (seen (s q)); small = w.small }
  where
    mine : (q : ℕ) → 0 < own q → Seen (s q) → r q ≡ s q
    mine q h (is_absent e) = absurd (t.there q h e)
    mine q h (is_fresh e) = w.free q e ∙ sym e
    mine q h (is_byte b e) = w.known.kept q b e ∙ sym e

    drawn : (q : ℕ) → r q ≡ absent → Seen (s q) → s q ≡ absent
    drawn q z (is_absent e) = e
    drawn q z (is_fresh e) = absurd (fresh_absent (sym (w.free q e) ∙ z))
    drawn q z (is_byte b e) = absurd (byte_absent (sym (w.known.kept q b e) ∙ z))

there_wider : (own : Owned) (s r : Store) → AreThere own s → Wider s r → AreThere own r
there_wider own s r t w = let o = wider_others own s r t w in record { there = λ q h e. t.there q h (o.drawn q e) }

pub wider_keeps : (l : LoweredParts) (d : Debt) (s r : Store) (n : ℕ) (m : State) (lent : List (Option Due)) → Wider s r → Works l d s n m lent → Works l d r n m lent
wider_keeps l d s r n m lent w h = record {
  own = h.own;
  bill = h.bill;
  sides = h.sides;
  safe = safe-others (core_of l.core) l.code (record { ty = d.ty; all = d.owed; sides = h.sides }) h.own h.bill s r m h.safe (wider_others h.own s r h.there w);
  there = there_wider h.own s r h.there w;
  debts = h.debts;
  paid = h.paid;
}

there_put : (own : Owned) (s : Store) (a b : ℕ) → AreThere own s → AreThere own (set_cell s a (byte b))
there_put own s a b t = record { there = λ q h. by_test q a (λ c. cond c (byte b) (s q) ≡ absent → ⊥) (λ e z. byte_absent z) (λ e z. t.there q h z) }

there_puts : (own : Owned) (s : Store) (a : ℕ) (bs : List ℕ) → AreThere own s → AreThere own (put_all s a bs)
there_puts own s a [] t = t
there_puts own s a (b ∷ bs) t = there_puts own (set_cell s a (byte b)) (a + 1) bs (there_put own s a b t)

there_draw : (own : Owned) (s : Store) (c : ℕ) → AreThere own s → AreThere (with_chunk own c) (open_chunk s c)
there_draw own s c t = record { there = λ q h e. go q h e (zero_or_one (4096 * c) 4096 q) }
  where
    go : (q : ℕ) → 0 < with_chunk own c q → open_chunk s c q ≡ absent → IsSided (4096 * c) 4096 q → ⊥
    go q h e (inl z) = t.there q (omega (arith, h, z)) (sym (open-outside s c q z) ∙ e)
    go q h e (inr i) = fresh_absent (sym (open_in s c q i.1 i.2) ∙ e)

module _ (l : LoweredParts) (d : Debt) where
  pub pays : (s : Store) (n : ℕ) (m : State) (lent : List (Option Due)) → Works l d s n m lent → Pays l d.most n lent
  pays s n m lent h = record { owed = owing d h.sides; bill = h.bill; debts = h.debts; paid = h.paid }

  are_long : (ds : List Debt) (es : List (Option Due)) → AreLent l ds es → length ds ≡ length es
  are_long [] [] a = refl
  are_long [] (e ∷ es) a = absurd a
  are_long (x ∷ ds) [] a = absurd a
  are_long (x ∷ ds) (e ∷ es) a = ap suc (are_long ds es a.1)

  forked : (s : Store) (n : ℕ) (m : State) (lent : List (Option Due)) (h : Works l d s n m lent) (sh : Share) → Bill d.most n (owing d h.sides) sh → Forks (core_of l.core) l.code (owing d h.sides) h.own sh s m
      → next l.code m ≡ AtFork → WorksOn l d s n lent m (left_starts m (slice_get l.code.instructions m.ip)) (right_of m (slice_get l.code.instructions m.ip))
  forked s n m lent h sh b f at = record {
    room = f.room;
    count = fork_open (core_of l.core) l.code (owing d h.sides) h.own h.bill s m h.safe at ∙ are_long h.sides lent h.debts;
    owes = (f.debt, f.right);
    refused = record { own = h.own; bill = _; sides = f.debt ∷ h.sides; safe = f.left; there = h.there; debts = (tt, h.debts); paid = paid };
    made = λ e i. record {
      own = h.own;
      bill = _;
      sides = f.debt ∷ h.sides;
      safe = f.left;
      there = h.there;
      debts = ((i.lowered, side_grows i.knows (subst (SideSafe (core_of l.core) l.code f.debt s) (sym i.side) f.right)), h.debts);
      paid = paid;
    };
  }
    where
      paid : Bill d.most n (owing d (f.debt ∷ h.sides)) (with_rest sh f.rest)
      paid = bill_forks d.most n (owing d h.sides) (owing d (f.debt ∷ h.sides)) sh f.debt f.rest b f.pays refl

  meets : (s : Store) (n : ℕ) (m : State) (own : Owned) (sh : Share) (ds : List Debt) (lent : List (Option Due)) → AreThere own s → AreLent l ds lent → Bill d.most n (owing d ds) sh → (f : Meets (core_of l.core) l.code (owing d ds) own sh s m) → ds ≡ f.debt ∷ f.others
      → WorksBack l d s n lent m
  meets s n m own sh [] lent t a b f e = absurd cc
  meets s n m own sh (x ∷ xs) [] t a b f e = absurd a
  meets s n m own sh (x ∷ xs) (y ∷ ys) t a b f e = record {
    newest = y;
    others = ys;
    are = refl;
    take = back n (takes m) _ f.take (bill_takes d.most n (owing d (x ∷ xs)) (owing d f.others) sh f.debt b e);
    join = λ u z drew is k. let p = paid u drew is k.paid in back (n + drew) (joins m z) _ (f.join z p.bill.count (told u drew z (lent_to u is) k) p.paid.balanced) (joined u drew p);
    unwind = λ u why drew is out k. let p = paid u drew is k in
        back (n + drew) (takes m) _ (safe_free (core_of l.core) l.code (owing d f.others) own _ (with_count sh p.bill.count) s (takes m) (taken_out m why out) f.take) (joined u drew p);
    pays = record { owed = owing d (x ∷ xs); bill = sh; debts = a; paid = b };
  }
    where
      owes : AreLent l (f.debt ∷ f.others) (y ∷ ys)
      owes = subst (λ (z : List Debt). AreLent l z (y ∷ ys)) e a

      lent_to : (u : Due) → y ≡ Some u → IsLent l f.debt (Some u)
      lent_to u is = subst (IsLent l f.debt) is owes.0

      paid : (u : Due) (drew : ℕ) → y ≡ Some u → ArePaid u drew → IsPaid f.debt.most drew
      paid u drew is k = paid_of l u f.debt drew (lent_to u is) k

      joined : (u : Due) (drew : ℕ) (p : IsPaid f.debt.most drew) → Bill d.most (n + drew) (owing d f.others) (with_count sh p.bill.count)
      joined u drew p = bill_joins d.most n drew (owing d (x ∷ xs)) (owing d f.others) p.owed sh p.bill f.debt b e p.paid

      back : (k : ℕ) (m' : State) (bill : Share) → Safe (core_of l.core) l.code (owing d f.others) own bill s m' → Bill d.most k (owing d f.others) bill → Works l d s k m' ys
      back k m' bill h c = record { own = own; bill = bill; sides = f.others; safe = h; there = t; debts = owes.1; paid = c }

      told : (u : Due) (drew : ℕ) (z : Answer) → IsLent l f.debt (Some u) → Tells u drew s z → IsAnswer l.code.laid s f.debt.ty f.debt.owed z
      told u drew z x k = answer-grows l.code.laid k.from s f.debt.ty f.debt.owed z k.knows
          (subst (λ (z' : LoweredParts). Answers (core_of z'.core) z'.code (cells u.pass.value) (waiting_of u.side.value) k.from z) x.0 k.answers f.debt x.1)

  ended : (n : ℕ) (sh : Share) (ds : List Debt) (lent : List (Option Due)) → AreLent l ds lent → Bill d.most n (owing d ds) sh → ds ≡ [] → (lent ≡ []) × IsPaid d.most n
  ended n sh [] [] a b e = (refl, record { owed = owing d []; bill = sh; paid = b })
  ended n sh [] (x ∷ xs) a b e = absurd a
  ended n sh (x ∷ xs) lent a b e = absurd cc

  -- At a join, whatever the pass learned since.
  pub met : IsWhole l.core l.code → (s r : Store) (n : ℕ) (m : State) (lent : List (Option Due)) → next l.code m ≡ AtJoin → Works l d s n m lent → Wider s r → WorksBack l d r n lent m
  met ok s r n m lent at h w =
      let o = wider_keeps l d s r n m lent w h in
      let k = subst (After (core_of l.core) l.code (owing d o.sides) o.own o.bill r m) at (step_keeps (core_of l.core) l.code (lowered_bodies (core_of l.core) l.code ok.lowered ok.fits) (owing d o.sides) o.own o.safe) in
      meets r n m o.own k.0 o.sides lent o.there o.debts (bill_stays d.most n (owing d o.sides) o.bill k.0 o.paid k.1) k.2 k.2.sides

  after : IsWhole l.core l.code → (v : Memory) (m : State) (lent : List (Option Due)) (a : Ask) → next l.code m ≡ a → IsBounded v → (h : Works l d v.cells v.share m lent) → After (core_of l.core) l.code (owing d h.sides) h.own h.bill v.cells m a → WorksAfter l d v lent m a
  after ok v m lent (Silent m') is b h k = record { own = h.own; bill = k.0; sides = h.sides; safe = k.2; there = h.there; debts = h.debts; paid = bill_stays d.most v.share (owing d h.sides) h.bill k.0 h.paid k.1 }
  after ok v m lent (Get a i f) is b h k = (k.0, k.1, record { own = h.own; bill = k.2.0; sides = h.sides; safe = k.2.2; there = h.there; debts = h.debts; paid = bill_stays d.most v.share (owing d h.sides) h.bill k.2.0 h.paid k.2.1 })
  after ok v m lent (Put a x xs m') is b h k = (
    record { all = k.0.all },
    subst (λ (s : Store). Works l d s v.share m' lent) (sym (puts_cells v a (x ∷ xs)))
        record { own = h.own; bill = k.1.0; sides = h.sides; safe = k.1.2; there = there_puts h.own v.cells a (x ∷ xs) h.there; debts = h.debts; paid = bill_stays d.most v.share (owing d h.sides) h.bill k.1.0 h.paid k.1.1 },
  )
  after ok v m lent (Draw f) is b h k = λ c dr. let t = k c (draws_new v c b dr) in
      record { own = with_chunk h.own c; bill = t.0; sides = h.sides; safe = t.2; there = there_draw h.own v.cells c h.there; debts = h.debts; paid = bill_goes_on d.most v.share 1 (owing d h.sides) h.bill t.0 h.paid t.1 }
  after ok v m lent AtFork is b h k = forked v.cells v.share m lent h k.0 (bill_stays d.most v.share (owing d h.sides) h.bill k.0 h.paid k.1) k.2 is
  after ok v m lent AtJoin is b h k = λ r w. met ok v.cells r v.share m lent is h w
  after ok v m lent (Ended a) is b h k = let e = ended v.share h.bill h.sides lent h.debts h.paid k.0 in (e.0, k.1, e.1)

  pub turn : IsWhole l.core l.code → (v : Memory) (m : State) (lent : List (Option Due)) → IsBounded v → Works l d v.cells v.share m lent → WorksAfter l d v lent m (next l.code m)
  turn ok v m lent b h = after ok v m lent (next l.code m) refl b h (step_keeps (core_of l.core) l.code (lowered_bodies (core_of l.core) l.code ok.lowered ok.fits) (owing d h.sides) h.own h.safe)
