-- A split lends a pass, and a join takes the newest one back.
use Rattle.std.proofs.Common.{◌≡◌, ◌≢◌, ℕ, ◌+◌, ◌<◌, ◌≤◌, ⊎_elim, true, false, List, [], ◌∷◌, ◌++◌, refl, sym, ap, subst, ◌∙◌, arith}
use Rattle.std.specs.Prelude.{Option, Some, None}
use Rattle.std.proofs.lemmas.List.{append-nil}
use Rattle.atomic_table.specs.Seated.{TableId}
use Rattle.gib_arena.specs.declared.memory.Pass.{Pass}
use Rattle.gib_arena.specs.Passes.{view}
use Rattle.gib_arena.specs.Sums.{same_path, times_path, without, keep_unless}
use Rattle.gib_arena.specs.Steps.{split_left, split_right, joined_view, saw}
use Rattle.gib_arena.proofs.Paths.{same_self, path_cases}
use Rattle.gib_frame.specs.declared.due.Due.{Due}
use Rattle.gib_pool.specs.Lent.{path, lent_paths, AreSplits, Lends}

last_is : (p : List ℕ) (j k : ℕ) → p ++ j ∷ [] ≡ p ++ k ∷ [] → j ≡ k
last_is [] j k e = cc
last_is (x ∷ p) j k e = let t : p ++ j ∷ [] ≡ p ++ k ∷ [] = cc in last_is p j k t

keeps_it : (q r : List ℕ) (ps : List (List ℕ)) → q ≢ r → without r ps ≡ ps → without r (q ∷ ps) ≡ q ∷ ps
keeps_it q r ps ne e = ⊎_elim (λ (t : (same_path q r ≡ true) × (q ≡ r)). absurd (ne t.1))
    (λ (t : (same_path q r ≡ false) × (q ≢ r)). ap (λ b. keep_unless b q (without r ps)) t.0 ∙ ap (λ l. q ∷ l) e) (path_cases q r)

pub drops_it : (r : List ℕ) (ps : List (List ℕ)) → without r ps ≡ ps → without r (r ∷ ps) ≡ ps
drops_it r ps e = ap (λ b. keep_unless b r (without r ps)) (same_self r) ∙ e

-- those that were split before are not this one
pub others_stay : (z : TableId) (p : List ℕ) (n k : ℕ) (es : List (Option Due)) → n ≤ k → AreSplits z p n es → without (p ++ k ∷ []) (lent_paths es) ≡ lent_paths es
others_stay z p n k [] l a = refl
others_stay z p n k (None ∷ es) l a = others_stay z p n k es l a
others_stay z p n k (Some e ∷ es) l a =
    let below = a.1 in
    keeps_it (path e) (p ++ k ∷ []) (lent_paths es) (λ same. let j : a.0 ≡ k = last_is p a.0 k (sym a.2 ∙ same) in absurd (omega (arith, j, below, l)))
    (others_stay z p a.0 k es (omega (arith, below, l)) a.4)

pub more : (z : TableId) (p : List ℕ) (n m : ℕ) (es : List (Option Due)) → n ≤ m → AreSplits z p n es → AreSplits z p m es
more z p n m [] l a = tt
more z p n m (None ∷ es) l a = more z p n m es l a
more z p n m (Some e ∷ es) l a = let below = a.1 in (a.0, omega (arith, below, l), a.2, a.3, a.4)

pub lends_more : (p p' : Pass) (e : Due) (lent : List (Option Due)) → p'.seat.table_id ≡ p.seat.table_id → view p' ≡ split_left (view p) → view e.pass.value ≡ split_right (view p) → e.pass.value.seat.table_id ≡ p.seat.table_id → Lends p lent → Lends p' (Some e ∷ lent)
lends_more p p' e lent same left right his h =
    let b = ap (λ v. v.branch) left in
    let pe : path e ≡ (view p).branch.path ++ (view p).branch.next ∷ [] = ap (λ v. v.branch.path) right in
    record {
      splits = subst (λ z. AreSplits z (view p').branch.path (view p').branch.next (Some e ∷ lent)) (sym same)
          (subst (λ b. AreSplits p.seat.table_id b.path b.next (Some e ∷ lent)) (sym b) ((view p).branch.next, omega arith, pe, his, h.splits));
      out = ap (λ b. b.out) b ∙ (ap (λ l. l ∷ (view p).branch.out) (sym pe) ∙ ap (λ l. path e ∷ l) h.out);
    }

pub lends_less : (p q p' : Pass) (n : ℕ) (e : Due) (lent : List (Option Due)) → p'.seat.table_id ≡ p.seat.table_id → view p' ≡ saw (joined_view (view p) (view q)) n → (view q).branch.path ≡ path e → (view q).branch.out ≡ [] → Lends p (Some e ∷ lent) → Lends p' lent
lends_less p q p' n e lent same joined his none h =
    let b = ap (λ v. v.branch) joined in
    let s = h.splits in
    let below = s.1 in
    let stay : without (path e) (lent_paths lent) ≡ lent_paths lent = subst (λ r. without r (lent_paths lent) ≡ lent_paths lent) (sym s.2) (others_stay p.seat.table_id (view p).branch.path s.0 s.0 lent (omega arith) s.4) in
    let outs : without (view q).branch.path (view p).branch.out ≡ lent_paths lent = ap (λ r. without r (view p).branch.out) his ∙ (ap (without (path e)) h.out ∙ drops_it (path e) (lent_paths lent) stay) in
    record {
      splits = subst (λ z. AreSplits z (view p').branch.path (view p').branch.next lent) (sym same)
          (subst (λ b. AreSplits p.seat.table_id b.path b.next lent) (sym b) (more p.seat.table_id (view p).branch.path s.0 (view p).branch.next lent (omega (arith, below)) s.4));
      out = ap (λ b. b.out) b ∙ (ap (λ l. without (view q).branch.path (view p).branch.out ++ l) none ∙ (append-nil (without (view q).branch.path (view p).branch.out) ∙ outs));
    }

pub lends_it : (p : Pass) (e : Due) (lent : List (Option Due)) → Lends p (Some e ∷ lent) → 0 < times_path (path e) (view p).branch.out
lends_it p e lent h = let one : times_path (path e) (path e ∷ lent_paths lent) ≡ 1 + times_path (path e) (lent_paths lent) = ap (λ b. Rattle.gib_arena.specs.Sums.one_if b + times_path (path e) (lent_paths lent)) (same_self (path e)) in
    let o = ap (times_path (path e)) h.out in omega (arith, o, one)

pub lends_none : (p : Pass) → Lends p [] → (view p).branch.out ≡ []
lends_none p h = h.out
