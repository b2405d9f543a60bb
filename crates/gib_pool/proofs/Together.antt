-- One store of all the words, and the tasks over it.
use Rattle.std.proofs.Common.{◌≡◌, ℕ, ◌*◌, ◌/◌, ◌^◌, ◌<◌, ◌≤◌, ltb, cond, Bool, true, false, ⊎_elim, List, refl, sym, ap, subst, ◌∙◌, arith}
use Rattle.std.specs.Prelude.{Option, Some, None, slice_index}
use Rattle.std.proofs.lemmas.Bool.{lt-ltb, le-ltb}
use mathlib.Core.Logic.{dite}
use native.Mathlib.Decide.{dec_le}
use Rattle.atomic_table.specs.Table.{State as TableState}
use Rattle.gib_mem.specs.Memory.{Cell, Store, absent, fresh, byte, IsThere, look_of}
use Rattle.gib_core.specs.Parts.{core_of}
use Rattle.gib_core.specs.LoweredParts.{LoweredParts}
use Rattle.gib_machine.specs.State.{State}
use Rattle.gib_weave.specs.Owing.{Debt}
use Rattle.gib_weave.proofs.Others.{safe-others}
use Rattle.gib_arena.specs.declared.view.View.{View}
use Rattle.gib_arena.specs.Bytes.{byte_or_zero, Fits}
use Rattle.gib_arena.specs.Cells.{byte_or, cells_of}
use Rattle.gib_arena.specs.CellLaws.{option_cases}
use Rattle.gib_arena.specs.Rule.{ArenaRule}
use Rattle.gib_arena.specs.Says.{IsPass, Says}
use Rattle.gib_arena.proofs.BytesKeep.{fresh_below, fresh_empty}
use Rattle.gib_arena.proofs.Standing.{fresh_is, known_stored}
use Rattle.gib_arena.proofs.Keeps.{holds_it, found}
use Rattle.gib_arena.proofs.Saying.{says}
use Rattle.gib_frame.specs.declared.due.Due.{Due}
use Rattle.gib_pool.specs.Turn.{AreThere, Works, Wider}
use Rattle.gib_pool.specs.Together.{free, fresh_to, Together}
use Rattle.gib_pool.proofs.Turns.{wider_others}
use Rattle.gib_weave.proofs.Owning.{safe_owned}

-- What stands at an address is fresh or a byte.
by_cell : (c : Cell) (P : Type 0) → IsThere c → (c ≡ fresh → P) → ((b : ℕ) → c ≡ byte b → P) → P
by_cell absent P t f k = absurd t
by_cell fresh P t f k = f refl
by_cell (byte b) P t f k = k b refl

-- What stands in a chunk that was drawn where no byte was put, and elsewhere.
abbrev empty_cell : Bool → Cell
empty_cell b = cond b fresh absent

looks : (b : Bool) (o : Option ℕ) → look_of (byte_or (empty_cell b) o) ≡ byte_or_zero o
looks true None = refl
looks false None = refl
looks b (Some x) = refl

there : (o : Option ℕ) → IsThere (byte_or fresh o)
there None = tt {0}
there (Some b) = tt {0}

not_there : IsThere absent → ⊥
not_there h = h

module _ (limit : ℕ) (s : TableState (Unit {0}) View) (small : limit < 2 ^ 32) (rule : ArenaRule limit s) where
  abbrev put : ℕ → Option ℕ
  put = rule.bytes.store

  abbrev n : ℕ
  n = slice_index s.words 0

  -- A byte where one was put, fresh elsewhere in the chunks that were drawn.
  abbrev all : Store
  all a = byte_or (empty_cell (ltb a (4096 * n))) (put a)

  all_drawn : (a : ℕ) → a < 4096 * n → all a ≡ byte_or fresh (put a)
  all_drawn a l = ap (λ (b : Bool). byte_or (empty_cell b) (put a)) (lt-ltb a (4096 * n) l)

  all_above : (a : ℕ) → 4096 * n ≤ a → all a ≡ absent
  all_above a l = ap (λ (b : Bool). byte_or (empty_cell b) (put a)) (le-ltb a (4096 * n) l) ∙ ⊎_elim
      (λ none. ap (byte_or absent) none)
      (λ (t : (b : ℕ) × (put a ≡ Some b)). let k = (rule.bytes.put_below a t.0 t.1).0 in absurd (omega (arith, k, l)))
      (option_cases (put a))

  wide : (j : ℕ) (v : View) → IsPass s.views j v → Wider (cells_of v.holding) all
  wide j v p = record {
    known = record { kept = λ a b e. ap (byte_or (empty_cell (ltb a (4096 * n)))) (known_stored put n v.holding fits a b e) };
    free = λ a e. let f = fresh_is v.holding a e in all_drawn a (fresh_below put n v.holding fits a f) ∙ ap (byte_or fresh) (fresh_empty put n v.holding fits a f);
    small = record { small = λ a l. let c = rule.bytes.capped in all_above a (omega (arith, c, small, l)) };
  }
    where
      fits : Fits put n v.holding
      fits = holds_it limit s rule j v p

  same_cell : (j : ℕ) (v : View) → IsPass s.views j v → (a : ℕ) → IsThere (cells_of v.holding a) → cells_of v.holding a ≡ all a
  same_cell j v p a t = let w = wide j v p in by_cell (cells_of v.holding a) (cells_of v.holding a ≡ all a) t (λ e. e ∙ sym (w.free a e)) (λ b e. e ∙ sym (w.known.kept a b e))

  told : Says limit s.words s.views
  told = says limit s rule

  is_drawn : (a : ℕ) → IsThere (all a) → a < 4096 * n
  is_drawn a t = dite (dec_le (4096 * n) a) (λ l. absurd (not_there (subst IsThere (all_above a l) t))) (λ l. omega (arith, l))

  pub together : Together s.words s.views all
  together = record {
    each = wide;
    held = λ a t. let h = told.drawn_is_held a (is_drawn a t) in (h.0, h.1, h.2, h.3, same_cell h.0 h.1 h.2 a h.4);
    bytes = λ a. found limit s rule (a / 8) a refl ∙ sym (looks (ltb a (4096 * n)) (put a));
    drawn = λ a l. subst IsThere (sym (all_drawn a l)) (there (put a));
    above = all_above;
    apart = λ i j v w p q a f t. by_cell (cells_of w.holding a) (i ≡ j) t (λ e. told.fresh_once i j v w p q a f e) (λ b e. absurd (told.fresh_is_unknown i j v w p q a b f e));
  }

  pub one_store : (r : Store) × Together s.words s.views r
  one_store = (all, together)

-- What is free is fresh.
free_fresh : (c : Cell) → 0 < free c → c ≡ fresh
free_fresh absent h = absurd (omega (arith, h))
free_fresh fresh h = refl
free_fresh (byte b) h = absurd (omega (arith, h))

fresh_free : (c : Cell) → c ≡ fresh → 0 < free c
fresh_free absent e = absurd cc
fresh_free fresh e = omega arith
fresh_free (byte b) e = absurd cc

module _ (words : List ℕ) (views : List View) (r : Store) (t : Together words views r) where
  module _ (j : ℕ) (v : View) (p : IsPass views j v) where
    abbrev mine : Store
    mine = cells_of v.holding

    there_mine : AreThere (fresh_to v) mine
    there_mine = record { there = λ q h e. let x : fresh ≡ absent = sym (free_fresh (mine q) h) ∙ e in absurd cc }

    there_all : AreThere (fresh_to v) r
    there_all = record { there = λ q h e. let x : fresh ≡ absent = sym ((t.each j v p).free q (free_fresh (mine q) h)) ∙ e in absurd cc }

    pub works_together : (l : LoweredParts) (d : Debt) (n : ℕ) (m : State) (lent : List (Option Due)) → Works l d mine n m lent → (w : Works l d r n m lent) × (w.own ≡ fresh_to v)
    works_together l d n m lent h = (
      record {
        own = fresh_to v;
        bill = h.bill;
        sides = h.sides;
        safe = safe-others (core_of l.core) l.code (record { ty = d.ty; all = d.owed; sides = h.sides }) (fresh_to v) h.bill mine r m
            (safe_owned (core_of l.core) l.code (record { ty = d.ty; all = d.owed; sides = h.sides }) h.own (fresh_to v) h.bill mine m h.safe (record { kept = λ q e x. fresh_free (mine q) e }))
            (wider_others (fresh_to v) mine r there_mine (t.each j v p));
        there = there_all;
        debts = h.debts;
        paid = h.paid;
      },
      refl,
    )

  pub one_together : (r' : Store) → Together words views r' → (a : ℕ) → r' a ≡ r a
  one_together r' t' a = dite (dec_le (4096 * slice_index words 0) a) (λ l. t'.above a l ∙ sym (t.above a l)) (λ l. same (t.drawn a (omega (arith, l))))
    where
      same : IsThere (r a) → r' a ≡ r a
      same i = let h = t.held a i in let c = cells_of h.1.holding a in let w = t'.each h.0 h.1 h.2 in by_cell c (r' a ≡ r a) (subst IsThere (sym h.4) i) (λ e. w.free a e ∙ sym e ∙ h.4) (λ b e. w.known.kept a b e ∙ sym e ∙ h.4)

  pub owned_apart : (i j : ℕ) (v w : View) → IsPass views i v → IsPass views j w → (q : ℕ) → 0 < fresh_to v q → 0 < fresh_to w q → i ≡ j
  owned_apart i j v w a b q x y = t.apart i j v w a b q (free_fresh (cells_of v.holding q) x) (subst IsThere (sym (free_fresh (cells_of w.holding q) y)) (tt {0}))
