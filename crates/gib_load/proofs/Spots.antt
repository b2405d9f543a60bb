-- Where heads go, and how many chunks they take.
use Rattle.std.proofs.Common.{◌≡◌, ℕ, ◌+◌, ◌-◌, ◌*◌, ◌≤◌, ◌%◌, List, [], ◌∷◌, length, refl, sym, ap, subst, ◌∙◌, arith, length-append, Bool, true, false, cond, inl, inr}
use Rattle.std.proofs.lemmas.Bool.Decides.{leb_tells}
use Rattle.gib_mem.specs.Memory.{Memory, after_draw}
use Rattle.gib_mem.proofs.Puts.{puts_drawn, puts_limit}
use Rattle.gib_types.specs.declared.table.Ty.{Ty}
use Rattle.gib_types.specs.declared.table.Ty.TheVariants as ty
use Rattle.gib_types.specs.Table.{IsTable, fields_at}
use Rattle.gib_types.specs.Layout.{LaidOut, head_size, packed_count, is_among, offset_size}
use Rattle.gib_types.specs.Tree.{Datum, whole, truth, con, Data, none, more, HaveTypes}
use Rattle.gib_packed.specs.Scalars.{scalars}
use Rattle.gib_packed.specs.Head.{head_bytes, offset_bytes}
use Rattle.gib_packed.proofs.HeadLemmas.{offset_bytes-length}
use Rattle.gib_region.specs.Region.{rest, pointer, redirected, has_room}
use Rattle.gib_load.specs.Preorder.{Head, heads, all_heads}
use Rattle.gib_load.specs.Spot.{Spot, room_for, further, past_item, past_value, past_fields, places}
use Rattle.gib_load.specs.Placement.{Open, spot_of, with_room, with_bytes, place_head, place_heads, begun}
use Rattle.gib_load.specs.Refusal.{Refused, at_start, at_head, Spent}
use Rattle.gib_load.proofs.Heads.{place-append, heads-count, IsHead, scalars-length}

-- what holds of every table and its layouts
pub record Sizes (laid : LaidOut) : Type 0 where
  pub rules : IsTable laid.table
  pub heads : (k : ℕ) → head_size laid k ≤ 65

-- where an item goes, and the spot behind it, by whether there is room
abbrev spot_by : Spot → Bool → Spot
spot_by s b = cond {A = Spot} b s (record { at = 4096 * s.drawn; drawn = s.drawn + 1 })

abbrev past_by : Spot → ℕ → Bool → Spot
past_by s k b = further (spot_by s b) k

abbrev room_by : Open → Bool → Open
room_by r b = cond {A = Open} b r (record { memory = redirected r.memory r.at r.memory.drawn; at = 4096 * r.memory.drawn })

pub room_spot : (r : Open) (w : ℕ) → spot_of (with_room r w) ≡ room_for (spot_of r) w
room_spot r w = go (has_room r.at w)
  where
    go : (b : Bool) → spot_of (room_by r b) ≡ spot_by (spot_of r) b
    go true = refl
    go false = ap (λ (d : ℕ). record { at = 4096 * r.memory.drawn; drawn = d }) (puts_drawn (after_draw r.memory r.memory.drawn) r.at (pointer 255 (4096 * r.memory.drawn)))

pub room_limit : (r : Open) (w : ℕ) → (with_room r w).memory.limit ≡ r.memory.limit
room_limit r w = go (has_room r.at w)
  where
    go : (b : Bool) → (room_by r b).memory.limit ≡ r.memory.limit
    go true = refl
    go false = puts_limit (after_draw r.memory r.memory.drawn) r.at (pointer 255 (4096 * r.memory.drawn))

-- behind bytes that were put
bytes_spot : (q : Open) (w : ℕ) (bytes : List ℕ) → spot_of (with_bytes q w bytes) ≡ further (spot_of q) w
bytes_spot q w bytes = ap (λ (d : ℕ). record { at = q.at + w; drawn = d }) (puts_drawn q.memory q.at bytes)

pub head_spot : (laid : LaidOut) (r : Open) (h : Head) → spot_of (place_head laid r h) ≡ past_item (spot_of r) (head_size laid h.tag)
head_spot laid r h =
    let w = head_size laid h.tag in
    let q = with_room r w in
    bytes_spot q w (head_bytes laid h.tag (places laid (further (spot_of q) w) h.fields) h.fields) ∙ ap (λ (s : Spot). further s w) (room_spot r w)

pub head_limit : (laid : LaidOut) (r : Open) (h : Head) → (place_head laid r h).memory.limit ≡ r.memory.limit
head_limit laid r h =
    let w = head_size laid h.tag in
    let q = with_room r w in
    puts_limit q.memory q.at (head_bytes laid h.tag (places laid (further (spot_of q) w) h.fields) h.fields) ∙ room_limit r w

pub heads_limit : (laid : LaidOut) (r : Open) (hs : List Head) → (place_heads laid r hs).memory.limit ≡ r.memory.limit
heads_limit laid r [] = refl
heads_limit laid r (h ∷ hs) = heads_limit laid (place_head laid r h) hs ∙ head_limit laid r h

mutual
  pub value_spot : (laid : LaidOut) (r : Open) (v : Datum) → spot_of (place_heads laid r (heads v)) ≡ past_value laid (spot_of r) v
  value_spot laid r (whole z) = refl
  value_spot laid r (truth b) = refl
  value_spot laid r (con k vs) =
      fields_spot laid (place_head laid r (record { tag = k; fields = vs })) vs ∙ ap (λ (s : Spot). past_fields laid s vs) (head_spot laid r (record { tag = k; fields = vs }))

  pub fields_spot : (laid : LaidOut) (r : Open) (vs : Data) → spot_of (place_heads laid r (all_heads vs)) ≡ past_fields laid (spot_of r) vs
  fields_spot laid r none = refl
  fields_spot laid r (more v vs) =
      ap spot_of (place-append laid r (heads v) (all_heads vs)) ∙ fields_spot laid (place_heads laid r (heads v)) vs ∙ ap (λ (s : Spot). past_fields laid s vs) (value_spot laid r v)

-- chunks are drawn, never given back
pub item_draws : (s : Spot) (k : ℕ) → s.drawn ≤ (past_item s k).drawn
item_draws s k = go (has_room s.at k)
  where
    go : (b : Bool) → s.drawn ≤ (past_by s k b).drawn
    go true = omega arith
    go false = omega arith

mutual
  pub value_draws : (laid : LaidOut) (s : Spot) (v : Datum) → s.drawn ≤ (past_value laid s v).drawn
  value_draws laid s (whole z) = omega arith
  value_draws laid s (truth b) = omega arith
  value_draws laid s (con k vs) = let a = item_draws s (head_size laid k) in let b = fields_draw laid (past_item s (head_size laid k)) vs in omega (arith, a, b)

  pub fields_draw : (laid : LaidOut) (s : Spot) (vs : Data) → s.drawn ≤ (past_fields laid s vs).drawn
  fields_draw laid s none = omega arith
  fields_draw laid s (more v vs) = let a = value_draws laid s v in let b = fields_draw laid (past_value laid s v) vs in omega (arith, a, b)

-- so many items have filled the chunks: each chunk but the last one has 4,023 bytes of items
record Filled (n : ℕ) (s : Spot) : Type 0 where
  some : 1 ≤ s.drawn
  nine : 9 ≤ rest s.at
  fill : 4023 * (s.drawn - 1) + s.at % 4096 ≤ 65 * n

item_fills : (n : ℕ) (s : Spot) (k : ℕ) → k ≤ 65 → Filled n s → Filled (n + 1) (past_item s k)
item_fills n s k few f = elim (leb_tells (k + 9) (rest s.at)) [
  | inl le ↦ subst (λ (b : Bool). Filled (n + 1) (past_by s k b)) (sym le.0) (record {
    some = f.some;
    nine = omega (arith, le.1);
    fill = let e : (s.at + k) % 4096 ≡ s.at % 4096 + k = omega (arith, le.1) in omega (arith, e, f.fill, few);
  })
  | inr lt ↦ subst (λ (b : Bool). Filled (n + 1) (past_by s k b)) (sym lt.0) (record {
    some = omega arith;
    nine = let e : (4096 * s.drawn + k) % 4096 ≡ k = omega (arith, few) in omega (arith, e, few);
    fill = let e : (4096 * s.drawn + k) % 4096 ≡ k = omega (arith, few) in omega (arith, e, f.fill, few, lt.1, f.some);
  })
]

heads_fill : (laid : LaidOut) → Sizes laid → (n : ℕ) (r : Open) (hs : List Head) → Filled n (spot_of r) → Filled (n + length hs) (spot_of (place_heads laid r hs))
heads_fill laid sizes n r [] f = let m : n ≡ n + length {A = Head} [] = omega arith in subst (λ (x : ℕ). Filled x (spot_of r)) m f
heads_fill laid sizes n r (h ∷ hs) f =
    let one = subst (λ (s : Spot). Filled (n + 1) s) (sym (head_spot laid r h)) (item_fills n (spot_of r) (head_size laid h.tag) (sizes.heads h.tag) f) in
    let all = heads_fill laid sizes (n + 1) (place_head laid r h) hs one in
    let m : n + 1 + length hs ≡ n + length (h ∷ hs) = omega arith in
    subst (λ (x : ℕ). Filled x (spot_of (place_heads laid (place_head laid r h) hs))) m all

begun_filled : (m : Memory) → m.drawn ≡ 0 → Filled 0 (spot_of (begun m))
begun_filled m e = record { some = omega arith; nine = omega (arith, e); fill = omega (arith, e) }

-- heads take no more chunks than they need
pub heads_loaded : (laid : LaidOut) → Sizes laid → (m : Memory) (hs : List Head) → m.drawn ≡ 0 → 4023 * ((place_heads laid (begun m) hs).memory.drawn - 1) ≤ 65 * length hs
heads_loaded laid sizes m hs e = let f = (heads_fill laid sizes 0 (begun m) hs (begun_filled m e)).fill in omega (arith, f)

pub refused_spent : (laid : LaidOut) → Sizes laid → (m : Memory) (v : Datum) (m' : Memory) → m.drawn ≡ 0 → Refused laid m v m' → Spent v m'
refused_spent laid sizes m v _ e (at_start made full) = record { all = full; loaded = omega (arith, e, full) }
refused_spent laid sizes m v m' e (at_head stuck) =
    let f = heads_loaded laid sizes m stuck.front e in
    let n = heads-count v in
    let p = ap length stuck.parts in
    let l = length-append stuck.front (stuck.next ∷ stuck.later) in
    let d : m'.drawn ≡ (place_heads laid (begun m) stuck.front).memory.drawn = ap (λ (x : Memory). x.drawn) stuck.same in
    let a = stuck.all in
    record { all = a; loaded = omega (arith, f, n, p, l, d, a) }

-- packed fields have a place each
pub places-length : (laid : LaidOut) (s : Spot) (vs : Data) (ts : List Ty) → HaveTypes laid.table vs ts → length (places laid s vs) ≡ packed_count ts
places-length laid s none [] h = refl
places-length laid s none (t ∷ ts) h = absurd h
places-length laid s (more v vs) [] h = absurd h
places-length laid s (more (whole z) vs) (ty.Whole ∷ ts) h = places-length laid s vs ts h.1
places-length laid s (more (truth b) vs) (ty.Truth ∷ ts) h = places-length laid s vs ts h.1
places-length laid s (more (con k ws) vs) (ty.Tree t ∷ ts) h = let n = places-length laid (past_value laid s (con k ws)) vs ts h.1 in omega (arith, n)
places-length laid s (more (whole z) vs) (ty.Truth ∷ ts) h = absurd h.0
places-length laid s (more (whole z) vs) (ty.Tree t ∷ ts) h = absurd h.0
places-length laid s (more (truth b) vs) (ty.Whole ∷ ts) h = absurd h.0
places-length laid s (more (truth b) vs) (ty.Tree t ∷ ts) h = absurd h.0
places-length laid s (more (con k ws) vs) (ty.Whole ∷ ts) h = absurd h.0
places-length laid s (more (con k ws) vs) (ty.Truth ∷ ts) h = absurd h.0

-- a head is as long as its layout says
pub head-length : (laid : LaidOut) (s : Spot) (h : Head) → IsHead laid.table h → length (head_bytes laid h.tag (places laid s h.fields) h.fields) ≡ head_size laid h.tag
head-length laid s h is =
    let ps = places laid s h.fields in
    let n = offset_bytes-length (is_among laid.with_offsets h.tag) ps ∙ ap (offset_size (is_among laid.with_offsets h.tag)) (places-length laid s h.fields (fields_at laid.table h.tag) is.typed) in
    let m = scalars-length laid.table h.fields (fields_at laid.table h.tag) is.typed in
    let l = length-append (offset_bytes (is_among laid.with_offsets h.tag) ps) (scalars h.fields) in
    omega (arith, n, m, l)
