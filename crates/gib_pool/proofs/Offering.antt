-- An offer of a right side: a pass is split for it, and joined back at once where memory refuses it.
use Rattle.std.proofs.Common.{◌≡◌, ℕ, ◌+◌, ◌<◌, List, [], ◌∷◌, ◌++◌, refl, sym, ap, subst, ◌∙◌, arith}
use Rattle.std.specs.Prelude.{Option, Some, None}
use Rattle.std.proofs.lemmas.List.{append-nil}
use Rattle.gib_mem.specs.Memory.{Grows, fresh}
use Rattle.gib_core.specs.LoweredParts.{LoweredParts}
use Rattle.gib_machine.specs.Sides.{Waiting}
use Rattle.gib_arena.specs.declared.memory.Arena.{Arena}
use Rattle.gib_arena.specs.declared.memory.Pass.{Pass}
use Rattle.gib_arena.specs.declared.view.View.{View}
use Rattle.gib_arena.specs.Bytes.{share}
use Rattle.gib_arena.specs.Cells.{cells_of}
use Rattle.gib_arena.specs.Passes.{view, cells, IsOf}
use Rattle.gib_arena.specs.Sums.{one_if, times_path, without}
use Rattle.gib_arena.specs.Steps.{split_path, split_left, split_right, joined_view, saw}
use Rattle.gib_arena.proofs.Paths.{same_self}
use Rattle.gib_frame.specs.declared.due.Due.{Due}
use Rattle.gib_frame.specs.declared.ends.Frame.{Frame}
use Rattle.gib_frame.specs.Dues.{frame_due}
use Rattle.gib_pool.specs.Lent.{lent_paths, AreSplits, Lends}
use Rattle.gib_pool.specs.Offers.{Offers}
use Rattle.gib_pool.specs.Turn.{IsFor}
use Rattle.gib_pool.proofs.Lending.{others_stay, drops_it, lends_more, more}
use Rattle.gib_pool.proofs.Passing.{joined_none, lends_none_more, same_still}

pub has_it : (p q p1 : Pass) → view p1 ≡ split_left (view p) → view q ≡ split_right (view p) → 0 < times_path (view q).branch.path (view p1).branch.out
has_it p q p1 left right =
    let r : (view q).branch.path ≡ split_path (view p) = ap (λ v. v.branch.path) right in
    let o : (view p1).branch.out ≡ split_path (view p) ∷ (view p).branch.out = ap (λ v. v.branch.out) left in
    let one : times_path (split_path (view p)) (split_path (view p) ∷ (view p).branch.out) ≡ 1 + times_path (split_path (view p)) (view p).branch.out = ap (λ b. one_if b + times_path (split_path (view p)) (view p).branch.out) (same_self (split_path (view p))) in
    let a = ap (λ z. times_path z (view p1).branch.out) r in
    let b = ap (times_path (split_path (view p))) o in
    omega (arith, one, a, b)

pub lends_still : (p q p1 p' : Pass) (n : ℕ) (lent : List (Option Due)) → p'.seat.table_id ≡ p.seat.table_id → view p1 ≡ split_left (view p) → view q ≡ split_right (view p) → view p' ≡ saw (joined_view (view p1) (view q)) n → Lends p lent → Lends p' lent
lends_still p q p1 p' n lent same left right joined h =
    let b : (view p').branch ≡ (saw (joined_view (view p1) (view q)) n).branch = ap (λ v. v.branch) joined in
    let c : (view p').branch ≡ (saw (joined_view (split_left (view p)) (split_right (view p))) n).branch = b ∙ (ap (λ v. (saw (joined_view v (view q)) n).branch) left ∙ ap (λ v. (saw (joined_view (split_left (view p)) v) n).branch) right) in
    let stay : without (split_path (view p)) (lent_paths lent) ≡ lent_paths lent = others_stay p.seat.table_id (view p).branch.path (view p).branch.next (view p).branch.next lent (omega arith) h.splits in
    let outs : without (split_path (view p)) (split_path (view p) ∷ (view p).branch.out) ≡ lent_paths lent = ap (λ l. without (split_path (view p)) (split_path (view p) ∷ l)) h.out ∙ drops_it (split_path (view p)) (lent_paths lent) stay in
    record {
      splits = subst (λ z. AreSplits z (view p').branch.path (view p').branch.next lent) (sym same)
          (subst (λ b. AreSplits p.seat.table_id b.path b.next lent) (sym c) (more p.seat.table_id (view p).branch.path (view p).branch.next ((view p).branch.next + 1) lent (omega arith) h.splits));
      out = ap (λ b. b.out) c ∙ (append-nil (without (split_path (view p)) (split_path (view p) ∷ (view p).branch.out)) ∙ outs);
    }

-- What an offer leaves, for which a pass is split.
module _ (a : Arena) (l : LoweredParts) (w : Waiting) (p p1 q : Pass) (of : IsOf a p) (left : view p1 ≡ split_left (view p)) (right : view q ≡ split_right (view p)) where
  -- the frame is made, and its task pushed
  pub side_offered : (old mine : List Due) (f : Frame) → q ≡ (frame_due f).pass.value → IsOf a p1 → IsOf a q → IsFor l (cells p) w (frame_due f) → mine ≡ old ++ frame_due f ∷ [] → Offers a l w p p1 old mine (Some f)
  side_offered old mine f is of1 his for forks = record {
    own = of1;
    same = record { path = ap (λ (v : View). v.branch.path) left; limit = ap (λ (v : View). v.branch.limit) left; known = record { kept = λ x b e. ap (λ (v : View). cells_of v.holding x) left ∙ e } };
    drawn = ap (λ (v : View). share v.holding) left;
    free = λ x e. ap (λ (v : View). cells_of v.holding x) left ∙ e;
    side = for;
    lends = λ lent h. lends_more p p1 (frame_due f) lent (of1 ∙ sym of) left (ap view (sym is) ∙ right) (ap (λ (x : Pass). x.seat.table_id) (sym is) ∙ (his ∙ sym of)) h;
    forks = forks;
  }

  -- memory refuses it, and the pass is joined back
  pub taken_back : (p' : Pass) (n : ℕ) (old mine : List Due) → IsOf a p' → view p' ≡ saw (joined_view (view p1) (view q)) n → Grows (cells p1) (cells p') → ((x : ℕ) → cells p1 x ≡ fresh → cells p' x ≡ fresh) → mine ≡ old → Offers a l w p p' old mine None
  taken_back p' n old mine of' joined grows free forks = record {
    own = of';
    same = record {
      path = ap (λ (v : View). v.branch.path) joined ∙ ap (λ (v : View). v.branch.path) left;
      limit = ap (λ (v : View). v.branch.limit) joined ∙ ap (λ (v : View). v.branch.limit) left;
      known = record { kept = λ x b e. grows.kept x b (ap (λ (v : View). cells_of v.holding x) left ∙ e) };
    };
    drawn = joined_none p1 q p' n joined (ap (λ (v : View). share v.holding) right) ∙ ap (λ (v : View). share v.holding) left;
    free = λ x e. free x (ap (λ (v : View). cells_of v.holding x) left ∙ e);
    side = tt;
    lends = λ lent h. lends_none_more p' lent (lends_still p q p1 p' n lent (of' ∙ sym of) left right joined h);
    forks = forks;
  }

-- None is offered.
pub none_offered : (a : Arena) (l : LoweredParts) (w : Waiting) (p : Pass) (old mine : List Due) → IsOf a p → mine ≡ old → Offers a l w p p old mine None
none_offered a l w p old mine of forks = record { own = of; same = same_still p; drawn = refl; free = λ q e. e; side = tt; lends = lends_none_more p; forks = forks }

-- The same of another name for the side, and for what was pushed before.
pub offered_on : (a : Arena) (l : LoweredParts) (w x : Waiting) (p p' : Pass) (was old mine : List Due) (f : Option Frame) → w ≡ x → was ≡ old → Offers a l w p p' was mine f → Offers a l x p p' old mine f
offered_on a l w x p p' was old mine f e z o = subst (λ (v : Waiting). Offers a l v p p' old mine f) e (subst (λ (q : List Due). Offers a l w p p' q mine f) z o)
