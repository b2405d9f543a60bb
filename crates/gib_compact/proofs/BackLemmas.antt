-- Passes that come back.
use Rattle.std.proofs.Common.{◌≡◌, ℕ, ◌<◌, List, [], ◌∷◌, ◌++◌, take, drop, sym, ap, subst, ◌∙◌, arith, length-append}
use Rattle.gib_mem.specs.Memory.{Memory, Store, Grows, fresh}
use Rattle.gib_arena.specs.declared.memory.Arena.{Arena}
use Rattle.gib_arena.specs.declared.memory.Pass.{Pass}
use Rattle.gib_arena.specs.declared.view.View.{View}
use Rattle.gib_arena.specs.declared.view.Holding.{Holding}
use Rattle.gib_arena.specs.Cells.{cells_of}
use Rattle.gib_arena.specs.Bytes.{share}
use Rattle.gib_arena.specs.Passes.{view, cells, IsOf}
use Rattle.gib_arena.specs.Shown.{shown}
use Rattle.gib_arena.specs.Sums.{one_if, times_path, without, keep_unless}
use Rattle.gib_arena.specs.Steps.{saw, split_path, joined_view}
use Rattle.gib_arena.proofs.Paths.{same_self}
use Rattle.gib_types.specs.Layout.{LaidOut}
use Rattle.gib_compact.specs.declared.piece.Piece.{Piece}
use Rattle.gib_compact.specs.Cut.{Cut}
use Rattle.gib_compact.proofs.CutLemmas.{Cut-split, Cut-grows}
use Rattle.gib_compact.specs.Back.{IsBack, IsSplit, Parts}

-- the memory that a pass is
abbrev memory : Pass → Memory
memory p = shown p.seat.table_id (view p)

pub grows_on : {r s t : Store} → Grows r s → Grows s t → Grows r t
grows_on g h = record { kept = λ q b e. h.kept q b (g.kept q b e) }

grows_same : {s t : Store} → t ≡ s → Grows s t
grows_same {s = s} {t = t} e = subst (Grows s) (sym e) (record { kept = λ q b f. f })

-- nothing was put, drawn, split or joined
pub back_by : (a : Arena) (p q : Pass) → IsOf a q → memory q ≡ memory p → IsBack a p q
back_by a p q own e =
    record {
      own = own;
      path = ap (λ (m : Memory). m.holder.path) e;
      out = ap (λ (m : Memory). m.holder.out) e;
      limit = ap (λ (m : Memory). m.limit) e;
      known = grows_same (ap (λ (m : Memory). m.cells) e);
      free = λ x f. ap (λ (m : Memory). m.cells x) e ∙ f;
      drew = ap (λ (m : Memory). m.share) e;
    }

-- ---- a pass that was split off and came back

-- p was split into l and r, and both came back
pub record Rejoined (a : Arena) (p l r l' r' : Pass) : Type 0 where
  pub split : IsSplit p l r
  pub first : IsBack a l l'
  pub second : IsBack a r r'

module _ (a : Arena) (p l r l' r' n : Pass) (j : Rejoined a p l r l' r') (none : (view p).branch.out ≡ []) where
  path : List ℕ
  path = split_path (view p)

  his_path : (view r').branch.path ≡ split_path (view p)
  his_path = j.second.path ∙ ap (λ (v : View). v.branch.path) j.split.right

  my_out : (view l').branch.out ≡ split_path (view p) ∷ []
  my_out = j.first.out ∙ ap (λ (v : View). v.branch.out) j.split.left ∙ ap (λ (ps : List (List ℕ)). split_path (view p) ∷ ps) none

  one_self : (x : List ℕ) → 0 < times_path x (x ∷ [])
  one_self x = let e = ap one_if (same_self x) in omega (arith, e)

  pub is_out : 0 < times_path (view r').branch.path (view l').branch.out
  is_out = subst (λ (x : List ℕ). 0 < times_path x (view l').branch.out) (sym his_path) (subst (λ (ps : List (List ℕ)). 0 < times_path (split_path (view p)) ps) (sym my_out) (one_self (split_path (view p))))

  drops_self : (x : List ℕ) → without x (x ∷ []) ≡ []
  drops_self x = ap (λ b. keep_unless b x []) (same_self x)

  pub joins_back : IsOf a n → (m : ℕ) → view n ≡ saw (joined_view (view l') (view r')) m → Grows (cells l') (cells n) → ((q : ℕ) → cells l' q ≡ fresh → cells n q ≡ fresh) → IsBack a p n
  joins_back own m is known free =
      let left = ap (λ (v : View). v.branch.path) j.split.left in
      let outs : without (view r').branch.path (view l').branch.out ≡ [] = ap (λ (x : List ℕ). without x (view l').branch.out) his_path ∙ ap (without (split_path (view p))) my_out ∙ drops_self (split_path (view p)) in
      let his_out : (view r').branch.out ≡ [] = j.second.out ∙ ap (λ (v : View). v.branch.out) j.split.right in
      let together : without (view r').branch.path (view l').branch.out ++ (view r').branch.out ≡ [] = ap (λ (ps : List (List ℕ)). ps ++ (view r').branch.out) outs ∙ his_out in
      let held = ap (λ (v : View). share v.holding) is in
      let both = length-append (view l').holding.chunks (view r').holding.chunks in
      let mine : share (view l').holding ≡ share (view p).holding = j.first.drew ∙ ap (λ (v : View). share v.holding) j.split.left in
      let his : share (view r').holding ≡ 0 = j.second.drew ∙ ap (λ (v : View). share v.holding) j.split.right in
      let same = ap (λ (v : View). v.holding) j.split.left in
      record {
        own = own;
        path = ap (λ (v : View). v.branch.path) is ∙ j.first.path ∙ left;
        out = ap (λ (v : View). v.branch.out) is ∙ together ∙ sym none;
        limit = ap (λ (v : View). v.branch.limit) is ∙ j.first.limit ∙ ap (λ (v : View). v.branch.limit) j.split.left;
        known = grows_on (grows_same (ap (λ (h : Holding). cells_of h) same)) (grows_on j.first.known known);
        free = λ q f. free q (j.first.free q (ap (λ (h : Holding). cells_of h q) same ∙ f));
        drew = omega (arith, held, both, mine, his);
      }

-- ---- pieces that are dealt

pub same_cells : (p l r : Pass) → IsSplit p l r → Grows (cells p) (cells l)
same_cells p l r s = grows_same (ap (λ (v : View). cells_of v.holding) s.left)

pub parts_of : {laid : LaidOut} (p l r : Pass) (n : ℕ) (ps : List Piece) {all : List ℕ} → IsSplit p l r → Cut laid (cells p) ps all → Parts laid l r (take n ps) (drop n ps) all
parts_of p l r n ps s c =
    let h = Cut-split n ps c in
    record { xs = h.xs; ys = h.ys; first = Cut-grows (same_cells p l r s) h.first; second = Cut-grows s.knows h.second; whole = h.whole }

-- ---- one behind the other

pub back_on : (a : Arena) (p q r : Pass) → IsBack a p q → IsBack a q r → IsBack a p r
back_on a p q r b c = record {
  own = c.own;
  path = c.path ∙ b.path;
  out = c.out ∙ b.out;
  limit = c.limit ∙ b.limit;
  known = grows_on b.known c.known;
  free = λ x e. c.free x (b.free x e);
  drew = c.drew ∙ b.drew;
}
