-- What is placed stands.
use Rattle.std.proofs.Common.{◌≡◌, ℕ, ◌+◌, ◌<◌, ◌≤◌, List, [], ◌∷◌, refl, sym, ap, subst, subst₂, ◌∙◌, arith, inl, inr, Some}
use Rattle.gib_mem.specs.Memory.{Memory, Store, Holds, Grows}
use Rattle.gib_mem.proofs.Puts.{open_in, open_past}
use Rattle.gib_types.specs.declared.table.Ty.{Ty}
use Rattle.gib_types.specs.declared.table.Ty.TheVariants as ty
use Rattle.gib_types.specs.declared.table.TyId.{TyId}
use Rattle.gib_types.specs.Table.{con_at, fields_at, IsTable}
use Rattle.gib_types.specs.Layout.{LaidOut, head_size}
use Rattle.gib_types.specs.Tree.{Datum, whole, truth, con, Data, none, more, HasType, HaveTypes}
use Rattle.gib_packed.specs.Decoding.{Dec, redirect, head, Decs, done, whole_field, truth_field, tree_field}
use Rattle.gib_packed.specs.Head.{head_bytes}
use Rattle.gib_packed.specs.Stands.{a_whole, a_truth, a_tree}
use Rattle.gib_packed.proofs.Grow.{Holds-grows, Dec-grows}
use Rattle.gib_region.specs.Region.{from_none, no_tails}
use Rattle.gib_region.specs.Leaving.{IsBounded}
use Rattle.gib_region.proofs.Keeping.{finished_owned}
use Rattle.gib_load.specs.Preorder.{Head, heads, all_heads}
use Rattle.gib_load.specs.Spot.{Spot, past_item, past_value, past_fields, places}
use Rattle.gib_load.specs.Placement.{Open, spot_of, place_head, place_heads, begun, placed_in}
use Rattle.gib_load.specs.Holding.{Holding}
use Rattle.gib_load.proofs.Heads.{place-append, heads-count}
use Rattle.gib_load.proofs.Spots.{Sizes, value_spot, value_draws, fields_draw, heads_limit, heads_loaded}
use Rattle.gib_load.proofs.Rooms.{Ready, HeadPlaced, head_placed}
use Rattle.gib_packed.proofs.SpanLemmas.{con_within}

-- a value that was placed from r on, which left r'
record Stood (laid : LaidOut) (t : ℕ) (v : Datum) (r r' : Open) : Type 0 where
  ready : Ready r'
  grows : Grows r.memory.cells r'.memory.cells
  dec : Dec laid r'.memory.cells r.at t v r'.at
  spot : spot_of r' ≡ past_value laid (spot_of r) v
  limit : r'.memory.limit ≡ r.memory.limit

record AllStood (laid : LaidOut) (ts : List Ty) (vs : Data) (r r' : Open) : Type 0 where
  ready : Ready r'
  grows : Grows r.memory.cells r'.memory.cells
  decs : Decs laid r'.memory.cells r.at ts vs (places laid (spot_of r) vs) r'.at
  spot : spot_of r' ≡ past_fields laid (spot_of r) vs
  limit : r'.memory.limit ≡ r.memory.limit

-- fields behind a scalar
scalar_first : (laid : LaidOut) (t : Ty) (v : Datum) (ts : List Ty) (vs : Data) (r r' : Open) → AllStood laid ts vs r r' → past_value laid (spot_of r) v ≡ spot_of r
    → ((s : Store) (a z : ℕ) (ps : List ℕ) → Decs laid s a ts vs ps z → Decs laid s a (t ∷ ts) (more v vs) ps z) → places laid (spot_of r) (more v vs) ≡ places laid (spot_of r) vs
    → AllStood laid (t ∷ ts) (more v vs) r r'
scalar_first laid t v ts vs r r' a same more_decs same_places = record {
  ready = a.ready;
  grows = a.grows;
  decs = subst (λ (ps : List ℕ). Decs laid r'.memory.cells r.at (t ∷ ts) (more v vs) ps r'.at) (sym same_places) (more_decs _ _ _ _ a.decs);
  spot = a.spot ∙ ap (λ (s : Spot). past_fields laid s vs) (sym same);
  limit = a.limit;
}

-- fields behind a packed one
tree_first : (laid : LaidOut) (t : TyId) (k : ℕ) (ws : Data) (ts : List Ty) (vs : Data) (r r1 r' : Open) → Stood laid t.0 (con k ws) r r1 → AllStood laid ts vs r1 r' → AllStood laid (ty.Tree t ∷ ts) (more (con k ws) vs) r r'
tree_first laid t k ws ts vs r r1 r' a b = record {
  ready = b.ready;
  grows = record { kept = λ q x e. b.grows.kept q x (a.grows.kept q x e) };
  decs = tree_field (Dec-grows b.grows a.dec) (subst (λ (s : Spot). Decs laid r'.memory.cells r1.at ts vs (places laid s vs) r'.at) a.spot b.decs);
  spot = b.spot ∙ ap (λ (s : Spot). past_fields laid s vs) a.spot;
  limit = b.limit ∙ a.limit;
}

-- a head, and its fields behind it
head_first : (laid : LaidOut) (t k : ℕ) (vs : Data) (r r1 r' : Open) (a : ℕ) (rules : IsTable laid.table) → con_at laid.table t k ≡ Some k
    → HeadPlaced laid r (record { tag = k; fields = vs }) a (head_bytes laid k (places laid (past_item (spot_of r) (head_size laid k)) vs) vs) r1 → AllStood laid (fields_at laid.table k) vs r1 r' → Stood laid t (con k vs) r r'
head_first laid t k vs r r1 r' a rules owned placed b =
    let below : k < 254 = let n = con_within laid.table t k owned in let m = rules.few in omega (arith, n, m) in
    let holds = subst (λ (s : Spot). Holds r'.memory.cells a (head_bytes laid k (places laid s vs) vs)) (sym placed.spot) (Holds-grows b.grows placed.holds) in
    let at_head : Dec laid r'.memory.cells a t (con k vs) r'.at = head below owned holds (subst (λ (x : ℕ). Decs laid r'.memory.cells x (fields_at laid.table k) vs (places laid (spot_of r1) vs) r'.at) placed.at b.decs) in
    record {
      ready = b.ready;
      grows = record { kept = λ q x e. b.grows.kept q x (placed.grows.kept q x e) };
      dec = elim placed.led [
        | inl e ↦ subst (λ (x : ℕ). Dec laid r'.memory.cells x t (con k vs) r'.at) e at_head
        | inr h ↦ redirect (record { bytes = Holds-grows b.grows h; fits = placed.small }) at_head
      ];
      spot = b.spot ∙ ap (λ (s : Spot). past_fields laid s vs) placed.spot;
      limit = b.limit ∙ placed.limit;
    }

-- the fields of a constructor stand wherever they are placed
abbrev FieldsStand : LaidOut → Data → Type 0
FieldsStand laid vs = (ts : List Ty) (r : Open) → HaveTypes laid.table vs ts → Ready r → (past_fields laid (spot_of r) vs).drawn ≤ r.memory.limit → AllStood laid ts vs r (place_heads laid r (all_heads vs))

value_stands : (laid : LaidOut) → Sizes laid → (t k : ℕ) (vs : Data) (r : Open) → FieldsStand laid vs → con_at laid.table t k ≡ Some k → HaveTypes laid.table vs (fields_at laid.table k) → Ready r → (past_value laid (spot_of r) (con k vs)).drawn ≤ r.memory.limit
    → Stood laid t (con k vs) r (place_heads laid r (heads (con k vs)))
value_stands laid sizes t k vs r all owned typed ready small =
    let h : Head = record { tag = k; fields = vs } in
    let less = fields_draw laid (past_item (spot_of r) (head_size laid k)) vs in
    let placed = head_placed laid r h (record { owner = t; owned = owned; typed = typed }) ready (sizes.heads k) (omega (arith, less, small)) in
    let small1 : (past_fields laid (spot_of (place_head laid r h)) vs).drawn ≤ (place_head laid r h).memory.limit =
    subst₂ (λ (s : Spot) (n : ℕ). (past_fields laid s vs).drawn ≤ n) (sym placed.spot) (sym placed.limit) small in
    head_first laid t k vs r (place_head laid r h) (place_heads laid (place_head laid r h) (all_heads vs)) _ sizes.rules owned placed
    (all (fields_at laid.table k) (place_head laid r h) typed placed.ready small1)

fields_stand : (laid : LaidOut) → Sizes laid → (vs : Data) (ts : List Ty) (r : Open) → HaveTypes laid.table vs ts → Ready r → (past_fields laid (spot_of r) vs).drawn ≤ r.memory.limit → AllStood laid ts vs r (place_heads laid r (all_heads vs))
fields_stand laid sizes none [] r h ready small = record { ready = ready; grows = record { kept = λ q b e. e }; decs = done; spot = refl; limit = refl }
fields_stand laid sizes none (t ∷ ts) r h ready small = absurd h
fields_stand laid sizes (more v vs) [] r h ready small = absurd h
fields_stand laid sizes (more (whole z) vs) (ty.Whole ∷ ts) r h ready small =
    scalar_first laid ty.Whole (whole z) ts vs r (place_heads laid r (all_heads vs)) (fields_stand laid sizes vs ts r h.1 ready small) refl (λ s a z ps d. whole_field h.0 d) refl
fields_stand laid sizes (more (truth b) vs) (ty.Truth ∷ ts) r h ready small =
    scalar_first laid ty.Truth (truth b) ts vs r (place_heads laid r (all_heads vs)) (fields_stand laid sizes vs ts r h.1 ready small) refl (λ s a z ps d. truth_field d) refl
fields_stand laid sizes (more (con k ws) vs) (ty.Tree t ∷ ts) r h ready small =
    let less = fields_draw laid (past_value laid (spot_of r) (con k ws)) vs in
    let a = value_stands laid sizes t.0 k ws r (λ us x g y z. fields_stand laid sizes ws us x g y z) h.0.0 h.0.1 ready (omega (arith, less, small)) in
    let r1 = place_heads laid r (heads (con k ws)) in
    let small1 : (past_fields laid (spot_of r1) vs).drawn ≤ r1.memory.limit =
    subst₂ (λ (s : Spot) (n : ℕ). (past_fields laid s vs).drawn ≤ n) (sym a.spot) (sym a.limit) small in
    let b = fields_stand laid sizes vs ts r1 h.1 a.ready small1 in
    subst (λ (x : Open). AllStood laid (ty.Tree t ∷ ts) (more (con k ws) vs) r x) (sym (place-append laid r (heads (con k ws)) (all_heads vs))) (tree_first laid t k ws ts vs r r1 (place_heads laid r1 (all_heads vs)) a b)
fields_stand laid sizes (more (whole z) vs) (ty.Truth ∷ ts) r h ready small = absurd h.0
fields_stand laid sizes (more (whole z) vs) (ty.Tree t ∷ ts) r h ready small = absurd h.0
fields_stand laid sizes (more (truth b) vs) (ty.Whole ∷ ts) r h ready small = absurd h.0
fields_stand laid sizes (more (truth b) vs) (ty.Tree t ∷ ts) r h ready small = absurd h.0
fields_stand laid sizes (more (con k ws) vs) (ty.Whole ∷ ts) r h ready small = absurd h.0
fields_stand laid sizes (more (con k ws) vs) (ty.Truth ∷ ts) r h ready small = absurd h.0

-- a region that was begun
begun_ready : (m : Memory) → IsBounded m → m.drawn + 1 ≤ m.limit → Ready (begun m)
begun_ready m b room = record {
  bounded = record {
    above = λ q le. open_past m.cells m.drawn q (omega (arith, le)) ∙ b.above q (omega (arith, le));
    order = room;
    small = b.small;
  };
  behind = record { owned = record { all = λ q x y. open_in m.cells m.drawn q x (omega (arith, y)) } };
  nine = omega arith;
}

-- what loading leaves: the value stands for the root, the tails are owned, no chunk too many is drawn
pub placement_holds : (laid : LaidOut) → Sizes laid → (m : Memory) (t : Ty) (v : Datum) → IsBounded m → m.drawn ≡ 0 → HasType laid.table v t → (placed_in laid m v).memory.drawn ≤ (placed_in laid m v).memory.limit → Holding laid t v (placed_in laid m v)
placement_holds laid sizes m ty.Whole (whole z) b e h small = record { stands = a_whole h; tails = no_tails; loaded = omega (arith, e) }
placement_holds laid sizes m ty.Truth (truth x) b e h small = record { stands = a_truth; tails = no_tails; loaded = omega (arith, e) }
placement_holds laid sizes m (ty.Tree t) (con k vs) b e h small =
    let v = con k vs in
    let r = place_heads laid (begun m) (heads v) in
    let limit : r.memory.limit ≡ m.limit = heads_limit laid (begun m) (heads v) in
    let spot = value_spot laid (begun m) v in
    let drawn : r.memory.drawn ≡ (past_value laid (spot_of (begun m)) v).drawn = ap (λ (s : Spot). s.drawn) spot in
    let less = value_draws laid (spot_of (begun m)) v in
    let stood = value_stands laid sizes t.0 k vs (begun m) (λ us x g y z. fields_stand laid sizes vs us x g y z) h.0 h.1 (begun_ready m b (omega (arith, less, drawn, limit, small))) (omega (arith, drawn, limit, small)) in
    let count = heads_loaded laid sizes m (heads v) e in
    let n = heads-count v in
    record {
      stands = a_tree stood.dec;
      tails = finished_owned r.memory.cells [] r.at stood.ready.behind (record { owned = no_tails; apart = from_none });
      loaded = omega (arith, count, n);
    }
placement_holds laid sizes m ty.Truth (whole z) b e h small = absurd h
placement_holds laid sizes m (ty.Tree t) (whole z) b e h small = absurd h
placement_holds laid sizes m ty.Whole (truth x) b e h small = absurd h
placement_holds laid sizes m (ty.Tree t) (truth x) b e h small = absurd h
placement_holds laid sizes m ty.Whole (con k vs) b e h small = absurd h
placement_holds laid sizes m ty.Truth (con k vs) b e h small = absurd h
