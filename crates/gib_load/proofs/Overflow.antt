-- A value whose loading is refused needs more chunks than there are.
use Rattle.std.proofs.Common.{◌≡◌, ℕ, ◌+◌, ◌*◌, ◌≤◌, List, [], ◌∷◌, ◌++◌, length, refl, sym, ap, subst, ◌∙◌, arith, length-append, Bool, cond, inl, inr}
use Rattle.std.proofs.lemmas.Bool.Decides.{leb_tells}
use Rattle.gib_mem.specs.Memory.{Memory}
use Rattle.gib_types.specs.Layout.{LaidOut, head_size}
use Rattle.gib_types.specs.Tree.{Datum, whole, truth, con}
use Rattle.gib_region.specs.Region.{rest, HasRoom}
use Rattle.gib_load.specs.Preorder.{Head, heads}
use Rattle.gib_load.specs.Spot.{Spot, further}
use Rattle.gib_load.specs.Placement.{Open, spot_of, place_head, place_heads, placed_in, begun}
use Rattle.gib_load.specs.Refusal.{Stuck, Refused, at_start, at_head}
use Rattle.gib_load.proofs.Heads.{place-append}
use Rattle.gib_load.proofs.Spots.{head_spot, heads_limit, item_draws}

-- heads draw chunks, and give none back
heads_draw : (laid : LaidOut) (r : Open) (hs : List Head) → r.memory.drawn ≤ (place_heads laid r hs).memory.drawn
heads_draw laid r [] = omega arith
heads_draw laid r (h ∷ hs) =
    let one = item_draws (spot_of r) (head_size laid h.tag) in
    let same = ap (λ (s : Spot). s.drawn) (head_spot laid r h) in
    let others = heads_draw laid (place_head laid r h) hs in
    omega (arith, one, same, others)

abbrev past_by : Spot → ℕ → Bool → Spot
past_by s k b = further (cond {A = Spot} b s (record { at = 4096 * s.drawn; drawn = s.drawn + 1 })) k

-- a head without room draws one
turned_draws : (laid : LaidOut) (r : Open) (h : Head) → (HasRoom r.at (head_size laid h.tag) → ⊥) → (place_head laid r h).memory.drawn ≡ r.memory.drawn + 1
turned_draws laid r h full =
    let w = head_size laid h.tag in
    ap (λ (s : Spot). s.drawn) (head_spot laid r h) ∙ elim (leb_tells (w + 9) (rest r.at)) [
      | inl le ↦ absurd (full le.1)
      | inr lt ↦ subst (λ (b : Bool). (past_by (spot_of r) w b).drawn ≡ r.memory.drawn + 1) (sym lt.0) refl
    ]

stuck_over : (laid : LaidOut) (m m' : Memory) (hs : List Head) → Stuck laid (begun m) hs m' → (place_heads laid (begun m) hs).memory.drawn ≤ m.limit → ⊥
stuck_over laid m m' hs st few =
    let r = place_heads laid (begun m) st.front in
    let all = ap (λ (l : List Head). (place_heads laid (begun m) l).memory.drawn) st.parts in
    let cut = ap (λ (x : Open). x.memory.drawn) (place-append laid (begun m) st.front (st.next ∷ st.later)) in
    let one = turned_draws laid r st.next st.no_room in
    let others = heads_draw laid (place_head laid r st.next) st.later in
    let drawn : m'.drawn ≡ r.memory.drawn = ap (λ (x : Memory). x.drawn) st.same in
    let limit : m'.limit ≡ m.limit = ap (λ (x : Memory). x.limit) st.same ∙ heads_limit laid (begun m) st.front in
    let spent = st.all in
    omega (arith, all, cut, one, others, drawn, limit, spent, few)

no_heads : (laid : LaidOut) (r : Open) (m' : Memory) → Stuck laid r [] m' → ⊥
no_heads laid r m' st =
    let all = ap length st.parts in
    let cut = length-append st.front (st.next ∷ st.later) in
    omega (arith, all, cut)

value_over : (laid : LaidOut) (m m' : Memory) (v : Datum) → Stuck laid (begun m) (heads v) m' → (placed_in laid m v).memory.drawn ≤ m.limit → ⊥
value_over laid m m' (whole z) st few = no_heads laid (begun m) m' st
value_over laid m m' (truth b) st few = no_heads laid (begun m) m' st
value_over laid m m' (con k vs) st few = stuck_over laid m m' (heads (con k vs)) st few

pub refused_over : (laid : LaidOut) (m m' : Memory) (v : Datum) → Refused laid m v m' → (placed_in laid m v).memory.drawn ≤ m.limit → ⊥
refused_over laid m _ v (at_start {k = k} {vs = vs} made full) few =
    let same = ap (λ (x : Datum). (placed_in laid m x).memory.drawn) made in
    let some = heads_draw laid (begun m) (heads (con k vs)) in
    omega (arith, same, some, full, few)
refused_over laid m m' v (at_head st) few = value_over laid m m' v st few
