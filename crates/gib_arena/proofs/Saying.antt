-- The rule says what it is to say.
use Rattle.std.proofs.Common.{◌≡◌, ℕ, ◌+◌, ◌*◌, ◌/◌, ◌<◌, List, [], ◌∷◌, ◌++◌, map, get_or, refl, sym, ap, ◌∙◌, subst, arith, ⊎_elim, ◌≢◌, Bool, true, false, length}
use Rattle.std.specs.Prelude.{Option, Some, None}
use mathlib.Core.Logic.{dite}
use native.Mathlib.Decide.{ℕ_discrete}
use Rattle.atomic_table.specs.Table.{State}
use Rattle.atomic_table.proofs.Lists.{at_map}
use Rattle.gib_arena.specs.declared.view.Holding.{Holding}
use Rattle.gib_arena.specs.declared.view.Branch.{Branch}
use Rattle.gib_arena.specs.declared.view.View.{View}
use Rattle.gib_arena.specs.Sums.{total, times, times_path}
use Rattle.gib_mem.specs.Memory.{Cell, absent, fresh, byte, IsThere}
use Rattle.gib_arena.specs.Bytes.{chunk_of, byte_at, byte_or_zero, share, IsOwned}
use Rattle.gib_arena.specs.Cells.{byte_or, cells_of}
use Rattle.gib_arena.specs.Tree.{stands}
use Rattle.gib_arena.specs.Rule.{holding, branch, ArenaRule}
use Rattle.gib_arena.specs.Says.{IsPass, Says}
use Rattle.gib_arena.proofs.Totals.{total_at, total_two, total_some}
use Rattle.gib_arena.proofs.Paths.{under_shorter}
use Rattle.gib_arena.proofs.Ones.{once_yes, few}
use Rattle.gib_arena.proofs.BytesKeep.{owned, one_owner, fresh_empty, sound}
use Rattle.gib_arena.specs.CellLaws.{option_cases, cell_owned}
use Rattle.gib_arena.proofs.Standing.{known_stored, fresh_is, own_known}
use Rattle.gib_arena.proofs.TreeKeep.{outs, stands_yes, stands_is, one_path, live_out, alone}
use Rattle.gib_arena.proofs.Keeps.{map_at, holds_it, found}

total_map : {A B : Type 0} (f : B → ℕ) (g : A → B) (l : List A) → total f (map g l) ≡ total (λ a. f (g a)) l
total_map f g [] = refl
total_map f g (x ∷ xs) = ap (λ (n : ℕ). f (g x) + n) (total_map f g xs)

module _ (limit : ℕ) (s : State (Unit {0}) View) (r : ArenaRule limit s) where
  abbrev hs : List Holding
  hs = map holding s.views

  abbrev bs : List Branch
  bs = map branch s.views

  abbrev n : ℕ
  n = get_or s.words 0 0

  -- who owns the chunk of an address, fresh to it or put
  holder : (a : ℕ) → a < 4096 * n → (j : ℕ) × (v : View) × IsPass s.views j v × IsOwned v.holding (chunk_of a)
  holder a l = let o = r.bytes.once (chunk_of a) in let y = once_yes (chunk_of a) n (let q : a / 4096 < n = omega arith in q) in let t = total_some (owned (chunk_of a)) hs (omega arith) in
      let m = map_at holding s.views t.0 t.1 t.2 in (t.0, m.0, m.1, subst (λ (h : Holding). IsOwned h (chunk_of a)) (sym m.2) t.3)

  put_is_known : (a b : ℕ) → r.bytes.store a ≡ Some b → (j : ℕ) × (v : View) × IsPass s.views j v × (cells_of v.holding a ≡ byte b)
  put_is_known a b e = let h = holder a (r.bytes.put_below a b e).0 in (h.0, h.1, h.2, own_known h.1.holding a b h.3 ((holds_it limit s r h.0 h.1 h.2).owner_knows a b h.3 e))

  -- who owns a chunk is live
  lives : (j : ℕ) (v : View) → IsPass s.views j v → (c : ℕ) → IsOwned v.holding c → v.branch.live ≡ true
  lives j v p c o = let F : Bool → Type 0 = λ t. v.branch.live ≡ t → v.branch.live ≡ true in
      let all : (t : Bool) → F t = elim [ true ↦ λ q. q | false ↦ λ q. let z : times c v.holding.chunks ≡ 0 = ap (λ (h : Holding). times c h.chunks) (r.spent j v p q) in absurd (omega arith) ] in all v.branch.live refl

  not_first : (j : ℕ) (v : View) → IsPass s.views j v → (p : List ℕ) → 0 < times_path p v.branch.out → p ≢ []
  not_first j v at p h = λ e. let l = under_shorter v.branch.path p (r.tree.below j v.branch (at_map branch s.views j v at) p h) in let z : length p ≡ 0 = ap length e in absurd (omega arith)

  there : (o : Option ℕ) → IsThere (byte_or fresh o)
  there None = tt {0}
  there (Some b) = tt {0}

  -- what a pass may touch lies in chunks that were drawn
  within_drawn : (j : ℕ) (v : View) → IsPass s.views j v → (a : ℕ) (c : Cell) → cells_of v.holding a ≡ c → IsThere c → a < 4096 * n
  within_drawn j v p a absent e t = absurd t
  within_drawn j v p a fresh e t = let f = holds_it limit s r j v p in let o = f.own_seen (chunk_of a) (fresh_is v.holding a e).0 in let m = f.seen_is in let q : a / 4096 < n = omega (arith, o, m) in omega (arith, q)
  within_drawn j v p a (byte b) e t = (r.bytes.put_below a b (known_stored r.bytes.store n v.holding (holds_it limit s r j v p) a b e)).0

  -- a path that is out is one live pass's, and is out once
  given_away : (i : ℕ) (v : View) → IsPass s.views i v → (p : List ℕ) → 0 < times_path p v.branch.out → (times_path p v.branch.out ≡ 1) × ((j : ℕ) × (w : View) × IsPass s.views j w × (w.branch.live ≡ true) × (w.branch.path ≡ p))
  given_away i v at p h =
      let t = total_at (outs p) bs i v.branch (at_map branch s.views i v at) in
      let d = r.tree.parents p (not_first i v at p h) in
      let one = r.tree.distinct p in
      let u = total_some (stands p) bs (omega (arith, h, t, d)) in
      let is = stands_is p u.1 u.3 in
      let m = map_at branch s.views u.0 u.1 u.2 in
      (omega (arith, h, t, d, one), (u.0, m.0, m.1, ap (λ (z : Branch). z.live) m.2 ∙ is.0, ap (λ (z : Branch). z.path) m.2 ∙ is.1))

  pub says : Says limit s.words s.views
  says = record {
    known_is = λ j v p a b e. found limit s r (a / 8) a refl ∙ ap byte_or_zero (known_stored r.bytes.store n v.holding (holds_it limit s r j v p) a b e);
    unknown_is_zero = λ a none. found limit s r (a / 8) a refl ∙ ⊎_elim (λ e. ap byte_or_zero e) (λ (t : (b : ℕ) × (r.bytes.store a ≡ Some b)). let k = put_is_known a t.0 t.1 in absurd (none k.0 k.1 t.0 k.2 k.3)) (option_cases (r.bytes.store a));
    fresh_once = λ i j v w p q a f g. dite (ℕ_discrete j i) (λ e. sym e) (λ ne. absurd (one_owner limit s.words hs r.bytes i j v.holding w.holding (at_map holding s.views i v p) (at_map holding s.views j w q) (chunk_of a) (fresh_is v.holding a f).0 (fresh_is w.holding a g).0 ne));
    fresh_is_unknown = λ i j v w p q a b f k. let x = fresh_empty r.bytes.store n v.holding (holds_it limit s r i v p) a (fresh_is v.holding a f) in let y = known_stored r.bytes.store n w.holding (holds_it limit s r j w q) a b k in let z : None ≡ Some b = sym x ∙ y in cc;
    drawn_is_held = λ a l. let h = holder a l in (h.0, h.1, h.2, lives h.0 h.1 h.2 (chunk_of a) h.3, subst IsThere (sym (cell_owned h.1.holding a h.3)) (there (byte_at h.1.holding.own a)));
    held_is_drawn = λ j v p a t. within_drawn j v p a (cells_of v.holding a) refl t;
    spent_is_empty = λ j v p e. r.spent j v p e;
    whole = λ a. byte_or absent (r.bytes.store a);
    grows = λ j v p. record { kept = λ a b e. ap (byte_or absent) (known_stored r.bytes.store n v.holding (holds_it limit s r j v p) a b e) };
    fresh_is_free = λ j v p a f. ap (byte_or absent) (fresh_empty r.bytes.store n v.holding (holds_it limit s r j v p) a (fresh_is v.holding a f));
    shares_add_up = sym (total_map share holding s.views) ∙ r.bytes.shares;
    within_limit = r.bytes.capped;
    seen_is = λ j v p. (holds_it limit s r j v p).seen_is;
    share_seen = λ j v p. few v.holding.seen v.holding.chunks (sound limit s.words hs r.bytes j v.holding (at_map holding s.views j v p)).once (holds_it limit s r j v p).own_seen;
    paths_differ = λ i j v w p q l m e. one_path limit bs r.tree i j v.branch w.branch (at_map branch s.views i v p) (at_map branch s.views j w q) l m e;
    has_parent = λ j w p l ne. let b = w.branch in let y = stands_yes b.path b l refl in let t = total_at (stands b.path) bs j b (at_map branch s.views j w p) in let d = r.tree.parents b.path ne in
        let u = total_some (outs b.path) bs (omega arith) in let m = map_at branch s.views u.0 u.1 u.2 in
        (u.0, m.0, m.1, ap (λ (z : Branch). z.live) m.2 ∙ live_out limit bs r.tree u.0 u.1 u.2 b.path u.3, subst (λ (z : Branch). 0 < times_path b.path z.out) (sym m.2) u.3, subst (λ (z : Branch). (k : ℕ) × (rest : List ℕ) × (b.path ≡ z.path ++ k ∷ rest)) (sym m.2) (r.tree.below u.0 u.1 u.2 b.path u.3));
    one_parent = λ i j v w p q path a b. dite (ℕ_discrete i j) (λ e. e) (λ ne. let t = total_two (outs path) bs i j v.branch w.branch ne (at_map branch s.views i v p) (at_map branch s.views j w q) in
        let d = r.tree.parents path (not_first i v p path a) in let one = r.tree.distinct path in absurd (omega arith));
    out_is_live = λ i v p path h. given_away i v p path h;
    splits_are_numbered = λ i j v w p q l m k rest e. r.tree.numbers i j v.branch w.branch (at_map branch s.views i v p) (at_map branch s.views j w q) l m k rest e;
    alone_is_only = λ i j v w p q a l. alone limit bs r.tree i v.branch (at_map branch s.views i v p) a j w.branch (at_map branch s.views j w q) l;
  }
