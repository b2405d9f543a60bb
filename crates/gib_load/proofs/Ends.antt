-- A region that is begun for a value, and finished.
use Rattle.std.proofs.Common.{◌≡◌, ℕ, ◌*◌, ◌≤◌, List, [], ◌∷◌, length, refl, sym, ap, subst, ◌∙◌, arith, length-append, true}
use Rattle.gib_mem.specs.Memory.{Memory, after_draw}
use Rattle.gib_mem.proofs.Puts.{open_in}
use Rattle.gib_types.specs.declared.table.Ty.TheVariants as ty
use Rattle.gib_types.specs.declared.table.TyId.{TyId}
use Rattle.gib_types.specs.Layout.{LaidOut}
use Rattle.gib_types.specs.Tree.{Datum, whole, truth, con, HasType}
use Rattle.gib_packed.specs.declared.root.Root.TheVariants.{At}
use Rattle.gib_region.specs.Region.{rest, Behind, Begins, at_tail, at_chunk, IsFull, finished}
use Rattle.gib_load.specs.Preorder.{heads}
use Rattle.gib_load.specs.Placement.{Open, place_heads, begun, finished_at, placed_in, Placement}
use Rattle.gib_load.specs.Refusal.{Stuck, Refused, at_start, at_head}
use Rattle.gib_load.proofs.Steps.{full_same}

-- a region begins in a new chunk where no tail is kept
pub record Begun (m m' : Memory) (tails : List ℕ) (at : ℕ) : Type 0 where
  pub is : record { memory = m'; at = at } ≡ begun m
  pub none : tails ≡ []
  pub behind : Behind m'.cells at
  pub nine : 9 ≤ rest at
  pub alone : m'.alone ≡ true

pub begun_by : (m : Memory) (old : List ℕ) (m' : Memory) (tails : List ℕ) (at : ℕ) → old ≡ [] → m.alone ≡ true → Begins m old m' tails at → Begun m m' tails at
begun_by m old _ _ _ empty alone (at_tail {tails = ts} {t = t} e) =
    let l = ap length e in
    let n = ap length empty in
    let a = length-append ts (t ∷ []) in
    absurd (omega arith)
begun_by m old _ _ _ empty alone (at_chunk {c = c} e draws) = record {
  is = ap (λ (d : ℕ). record { memory = after_draw m d; at = 4096 * d }) (draws.alone alone);
  none = refl;
  behind = record { owned = record { all = λ q x y. open_in m.cells c q x (omega arith) } };
  nine = omega arith;
  alone = alone;
}

pub tree_placement : (laid : LaidOut) (m : Memory) (t : TyId) (v : Datum) (r : Open) → HasType laid.table v (ty.Tree t) → r ≡ place_heads laid (begun m) (heads v) → finished_at m r ≡ placed_in laid m v
tree_placement laid m t (whole z) r h e = absurd h
tree_placement laid m t (truth b) r h e = absurd h
tree_placement laid m t (con k vs) r h e = ap (finished_at m) e

pub finished_placement : (m m' : Memory) (root : ℕ) (tails tails' : List ℕ) (start at : ℕ) (m1 : Memory) → Begun m m1 tails start → root ≡ start → tails' ≡ finished tails at → ◌≡◌ {A = Placement} (record { memory = m'; root = At root; tails = tails' }) (finished_at m (record { memory = m'; at = at }))
finished_placement m m' root tails tails' start at m1 b e f =
    let root_is : root ≡ 4096 * m.drawn = e ∙ ap (λ (r : Open). r.at) b.is in
    ap (λ (a : ℕ). record { memory = m'; root = At a; tails = tails' }) root_is
    ∙ ap (λ (l : List ℕ). record { memory = m'; root = At (4096 * m.drawn); tails = l }) (f ∙ ap (λ (l : List ℕ). finished l at) b.none)

refused_at_start : (laid : LaidOut) (m : Memory) (t : TyId) (v : Datum) → HasType laid.table v (ty.Tree t) → m.drawn ≡ m.limit → Refused laid m v m
refused_at_start laid m t (whole z) h full = absurd h
refused_at_start laid m t (truth b) h full = absurd h
refused_at_start laid m t (con k vs) h full = at_start refl full

pub refused_start : (laid : LaidOut) (m : Memory) (t : TyId) (v : Datum) (m' : Memory) → HasType laid.table v (ty.Tree t) → m.alone ≡ true → IsFull m m' → Refused laid m v m'
refused_start laid m t v m' h alone full = subst (λ (x : Memory). Refused laid m v x) (sym (full_same m m' alone full)) (refused_at_start laid m t v h (full.all alone))

pub refused_head : (laid : LaidOut) (m : Memory) (v : Datum) (m1 m' : Memory) (tails : List ℕ) (start : ℕ) → Begun m m1 tails start → Stuck laid (record { memory = m1; at = start }) (heads v) m' → Refused laid m v m'
refused_head laid m v m1 m' tails start b s = at_head (subst (λ (r : Open). Stuck laid r (heads v) m') b.is s)
