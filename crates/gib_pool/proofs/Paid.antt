-- What a pass drew is paid for, whatever becomes of the right sides.
use Rattle.std.proofs.Common.{◌≡◌, ℕ, ◌+◌, inl, inr, ◌⊎◌, Bool, true, false, cond, List, [], ◌∷◌, refl, sym, ap, subst, arith}
use Rattle.std.specs.Prelude.{Option, Some, None}
use Rattle.gib_mem.specs.Memory.{Store}
use Rattle.gib_core.specs.Cost.{Cost}
use Rattle.gib_core.specs.Tree.{CoreTree}
use Rattle.gib_core.specs.Parts.{core_of}
use Rattle.gib_core.specs.LoweredParts.{LoweredParts}
use Rattle.gib_code.specs.declared.answer.Answer.{Answer}
use Rattle.gib_types.specs.declared.reason.Reason.{Reason}
use Rattle.gib_code.specs.Program.{CodeTree}
use Rattle.gib_machine.specs.State.{State, Par, Doing, Ready, Opening, Over, Unwinding, Joining, Putting, Looking, Following, Reading, Skipping, SkipTurn, Turning, Ask, Silent, Get, Put, Draw, AtJoin, Ended}
use Rattle.gib_machine.specs.Machine.{next, goes_on, unwound}
use Rattle.gib_machine.specs.Sides.{unwinding, taken, takes}
use Rattle.gib_machine.specs.Starting.{waiting_of}
use Rattle.gib_weave.specs.Owing.{Debt, Owed}
use Rattle.gib_weave.specs.Paying.{Share, Bill, Spends, dues}
use Rattle.gib_weave.specs.Places.{Owned}
use Rattle.gib_weave.specs.Sound.{Safe, SideSafe, Rests, Moves, rests, counts, moves, at_term, unwinds, over, silent, get, puts, draws, ended}
use Rattle.gib_weave.proofs.Bills.{bill_joins}
use Rattle.gib_arena.specs.Passes.{cells}
use Rattle.gib_frame.specs.declared.due.Due.{Due}
use Rattle.gib_frame.specs.Answers.{ArePaid, IsPaid}
use Rattle.gib_pool.specs.Turn.{IsLent, AreLent, Pays}

-- A machine that unwinds, or is over, does nothing that costs.

abbrev pub IsOut : State → Type 0
IsOut m = ((why : Reason) × (m.doing ≡ Unwinding why)) ⊎ ((a : Answer) × (m.doing ≡ Over a))

unwinding_is : (d : Doing) (why : Reason) → unwinding d ≡ Some why → d ≡ Unwinding why
unwinding_is (Unwinding w) why e = cc
unwinding_is Ready why e = absurd cc
unwinding_is Opening why e = absurd cc
unwinding_is (Over a) why e = absurd cc
unwinding_is (Joining d a) why e = absurd cc
unwinding_is (Putting a b bs) why e = absurd cc
unwinding_is (Looking x a) why e = absurd cc
unwinding_is (Following x a bs n) why e = absurd cc
unwinding_is (Reading d a bs n) why e = absurd cc
unwinding_is (Skipping y a n) why e = absurd cc
unwinding_is (SkipTurn y n a bs m) why e = absurd cc
unwinding_is (Turning i c b bs a) why e = absurd cc

unwound_out : (why : Reason) (s : State) (ps : List Par) → IsOut (unwound why s ps)
unwound_out why s [] = inr (_, refl)
unwound_out why s (p ∷ ps) = by_side p.left (unwound_out why s ps)
  where
    by_side : (b : Bool) → IsOut (unwound why s ps) → IsOut (cond b (record s { ip = p.join; pars = p ∷ ps; doing = Unwinding why }) (unwound why s ps))
    by_side true h = inl (why, refl)
    by_side false h = h

-- A machine that unwinds still does once its newest right side is dropped, or is over.
pub taken_out : (s : State) (why : Reason) → unwinding s.doing ≡ Some why → IsOut (takes s)
taken_out s why e = go (unwinding s.doing) s.pars e
  where
    go : (b : Option Reason) (ps : List Par) → b ≡ Some why → IsOut (taken s b ps)
    go b [] i = inl (why, unwinding_is s.doing why e)
    go (Some w) (p ∷ ps) i = unwound_out w s ps
    go None (p ∷ ps) i = absurd cc

asks_out : (code : CodeTree) (m : State) → IsOut m → (next code m ≡ AtJoin) ⊎ ((a : Answer) × (next code m ≡ Ended a))
asks_out code m (inl e) = inl (ap (goes_on code m) e.1)
asks_out code m (inr e) = inr (e.0, ap (goes_on code m) e.1)

not_ready : (m : State) → IsOut m → m.doing ≡ Ready → ⊥
not_ready m (inl e) r = let d = e.1 in absurd cc
not_ready m (inr e) r = let d = e.1 in absurd cc

not_silent : {a : Ask} {m : State} → (a ≡ AtJoin) ⊎ ((y : Answer) × (a ≡ Ended y)) → a ≡ Silent m → ⊥
not_silent (inl e) r = absurd cc
not_silent (inr e) r = let d = e.1 in absurd cc

not_get : {a : Ask} {q n : ℕ} {k : ℕ → State} → (a ≡ AtJoin) ⊎ ((y : Answer) × (a ≡ Ended y)) → a ≡ Get q n k → ⊥
not_get (inl e) r = absurd cc
not_get (inr e) r = let d = e.1 in absurd cc

not_put : {a : Ask} {q b : ℕ} {bs : List ℕ} {m : State} → (a ≡ AtJoin) ⊎ ((y : Answer) × (a ≡ Ended y)) → a ≡ Put q b bs m → ⊥
not_put (inl e) r = absurd cc
not_put (inr e) r = let d = e.1 in absurd cc

not_draw : {a : Ask} {k : ℕ → State} → (a ≡ AtJoin) ⊎ ((y : Answer) × (a ≡ Ended y)) → a ≡ Draw k → ⊥
not_draw (inl e) r = absurd cc
not_draw (inr e) r = let d = e.1 in absurd cc

-- So it is safe with any share.
module _ (core : CoreTree) (code : CodeTree) (owed : Owed) where
  rests_free : (own : Owned) (sh sh' : Share) (s : Store) (m : State) → IsOut m → Rests core code owed own sh s m → Rests core code owed own sh' s m
  rests_free own sh sh' s m o (over {a = a} e d h) = over e d h
  rests_free own sh sh' s m o (unwinds h) = unwinds h
  rests_free own sh sh' s m o (at_term at) = absurd (not_ready m o at.ready)

  moves_free : (own : Owned) (sh sh' : Share) (s : Store) (m : State) → IsOut m → Moves core code owed own sh s m → Moves core code owed own sh' s m
  moves_free own sh sh' s m o (silent e h) = absurd (not_silent (asks_out code m o) e)
  moves_free own sh sh' s m o (get e i h) = absurd (not_get (asks_out code m o) e)
  moves_free own sh sh' s m o (puts e f h) = absurd (not_put (asks_out code m o) e)
  moves_free own sh sh' s m o (draws t e d h) = absurd (not_draw (asks_out code m o) e)
  moves_free own sh sh' s m o (ended {a = a} e d h) = ended e d h

  pub safe_free : (own : Owned) (sh sh' : Share) (s : Store) (m : State) → IsOut m → Safe core code owed own sh s m → Safe core code owed own sh' s m
  safe_free own sh sh' s m o (rests h) = rests (rests_free own sh sh' s m o h)
  safe_free own sh sh' s m o (counts {sh' = t} p h) = safe_free own t sh' s m o h
  safe_free own sh sh' s m o (moves h) = moves (moves_free own sh sh' s m o h)

-- Where nothing is drawn the bill goes on, in a form that says so.
pub bill_stays : (most : Cost) (n : ℕ) (owed : Owed) (sh sh' : Share) → Bill most n owed sh → Spends sh sh' 0 → Bill most n owed sh'
bill_stays most n owed sh sh' b p = record {
  balanced = p.balanced b.balanced;
  costs = record { regions = omega (arith, b.costs.regions, p.costs.regions); items = omega (arith, b.costs.items, p.costs.items) };
  drawn = omega (arith, b.drawn, p.drawn);
}

module _ (l : LoweredParts) where
  -- What was drawn for a side is paid for by what its debt may cost.
  pub paid_of : (e : Due) (d : Debt) (drew : ℕ) → IsLent l d (Some e) → ArePaid e drew → IsPaid d.most drew
  paid_of e d drew is paid =
      paid d (subst (λ (x : LoweredParts). SideSafe (core_of x.core) x.code d (cells e.pass.value) (waiting_of e.side.value)) (sym is.0) is.1)

  -- What a worker that leaves its task pays.
  module _ (most : Cost) where
    rest_lent : (ds : List Debt) (x : Option Due) (es : List (Option Due)) → AreLent l ds (x ∷ es) → (d : Debt) × (others : List Debt) × (ds ≡ d ∷ others) × IsLent l d x × AreLent l others es
    rest_lent [] x es a = absurd a
    rest_lent (d ∷ ds) x es a = (d, ds, refl, a.0, a.1)

    -- the newest side cost nothing
    pub pays_less : (n : ℕ) (x : Option Due) (es : List (Option Due)) → Pays l most n (x ∷ es) → Pays l most n es
    pays_less n x es p =
        let t = rest_lent p.owed.sides x es p.debts in
        let b = p.paid in
        let r = ap (λ (z : Cost). z.regions) (ap dues t.2) in
        let i = ap (λ (z : Cost). z.items) (ap dues t.2) in
        record {
          owed = record { ty = p.owed.ty; all = p.owed.all; sides = t.1 };
          bill = p.bill;
          debts = t.4;
          paid = record {
            balanced = b.balanced;
            costs = record { regions = omega (arith, b.costs.regions, r); items = omega (arith, b.costs.items, i) };
            drawn = b.drawn;
          };
        }

    -- the newest side was run, and its pass drew so many
    pub pays_joined : (n drew : ℕ) (e : Due) (es : List (Option Due)) → Pays l most n (Some e ∷ es) → ArePaid e drew → Pays l most (n + drew) es
    pays_joined n drew e es p paid =
        let t = rest_lent p.owed.sides (Some e) es p.debts in
        let k = paid_of e t.0 drew t.3 paid in
        record {
          owed = record { ty = p.owed.ty; all = p.owed.all; sides = t.1 };
          bill = _;
          debts = t.4;
          paid = bill_joins most n drew p.owed (record { ty = p.owed.ty; all = p.owed.all; sides = t.1 }) k.owed p.bill k.bill t.0 p.paid t.2 k.paid;
        }

    pub pays_all : (n : ℕ) → Pays l most n [] → IsPaid most n
    pays_all n p = record { owed = p.owed; bill = p.bill; paid = p.paid }
