-- A head that is placed in an open region.
use Rattle.std.proofs.Common.{◌≡◌, ℕ, ◌+◌, ◌*◌, ◌<◌, ◌≤◌, ◌^◌, List, length, refl, sym, ap, subst, ◌∙◌, arith, Bool, cond, inl, inr}
use Rattle.std.specs.Prelude.{◌⊎◌}
use Rattle.std.proofs.lemmas.Bool.Decides.{leb_tells}
use Rattle.gib_mem.specs.Memory.{Store, absent, fresh, after_puts, after_draw, Holds, Owned, Grows}
use Rattle.gib_mem.proofs.Puts.{puts_past, puts_hold, puts_grow, open_past}
use Rattle.gib_types.specs.Layout.{LaidOut, head_size}
use Rattle.gib_packed.specs.Head.{head_bytes}
use Rattle.gib_region.specs.Region.{rest, Behind, pointer, Placed, here, turned, redirected}
use Rattle.gib_region.specs.Leaving.{IsBounded, Leaves}
use Rattle.gib_region.proofs.Bounds.{there_below, fresh_there}
use Rattle.gib_region.proofs.Placing.{leaves}
use Rattle.gib_load.specs.Preorder.{Head}
use Rattle.gib_load.specs.Spot.{Spot, further, past_item, places}
use Rattle.gib_load.specs.Placement.{Open, spot_of, with_room, place_head}
use Rattle.gib_load.proofs.Heads.{IsHead}
use Rattle.gib_load.proofs.Steps.{behind_item}
use Rattle.gib_load.proofs.Spots.{room_spot, head_spot, head_limit, head-length}

-- a region in which items may be placed
pub record Ready (r : Open) : Type 0 where
  pub bounded : IsBounded r.memory
  pub behind : Behind r.memory.cells r.at
  pub nine : 9 ≤ rest r.at

-- in the region q an item of w bytes goes at the cursor, below the end of the last of d chunks
record RoomMade (r : Open) (w : ℕ) (q : Open) (d : ℕ) : Type 0 where
  placed : Placed r.memory r.at w q.memory q.at
  above : (x : ℕ) → 4096 * d ≤ x → q.memory.cells x ≡ absent
  ends : q.at + w ≤ 4096 * d

abbrev drawn_by : Open → Bool → ℕ
drawn_by r b = (cond {A = Spot} b (spot_of r) (record { at = 4096 * r.memory.drawn; drawn = r.memory.drawn + 1 })).drawn

abbrev room_by : Open → ℕ → Bool → Type 0
room_by r w b = RoomMade r w (cond {A = Open} b r (record { memory = redirected r.memory r.at r.memory.drawn; at = 4096 * r.memory.drawn })) (drawn_by r b)

-- the chunk of the cursor is drawn
in_chunk : (r : Open) → Ready r → r.at + rest r.at ≤ 4096 * r.memory.drawn
in_chunk r ready =
    let first = ready.behind.owned.all r.at (omega arith) (omega arith) in
    let below = there_below r.memory r.at fresh ready.bounded first fresh_there in
    omega (arith, below)

room_made : (r : Open) (w : ℕ) → Ready r → w ≤ 65 → (past_item (spot_of r) w).drawn ≤ r.memory.limit → RoomMade r w (with_room r w) (past_item (spot_of r) w).drawn
room_made r w ready few small = elim (leb_tells (w + 9) (rest r.at)) [
  | inl le ↦ subst (room_by r w) (sym le.0) (record {
    placed = here le.1;
    above = ready.bounded.above;
    ends = let e = in_chunk r ready in omega (arith, le.1, e);
  })
  | inr lt ↦
      (let room : r.memory.drawn + 1 ≤ r.memory.limit = subst (λ (b : Bool). drawn_by r b ≤ r.memory.limit) lt.0 small in
      let e = in_chunk r ready in
      let m1 = after_draw r.memory r.memory.drawn in
      subst (room_by r w) (sym lt.0) (record {
        placed = turned (λ h. absurd (omega (arith, lt.1, h))) (record { order = omega arith; within = omega (arith, room); alone = λ x. refl });
        above = λ q le. puts_past m1 r.at (pointer 255 (4096 * r.memory.drawn)) q (omega (arith, le, e, ready.nine)) ∙ open_past r.memory.cells r.memory.drawn q (omega (arith, le)) ∙ ready.bounded.above q (omega (arith, le));
        ends = omega (arith, few);
      }))
]

-- once a head is placed
pub record HeadPlaced (laid : LaidOut) (r : Open) (h : Head) (a : ℕ) (bytes : List ℕ) (r' : Open) : Type 0 where
  pub ready : Ready r'
  pub grows : Grows r.memory.cells r'.memory.cells
  pub holds : Holds r'.memory.cells a bytes
  pub led : (a ≡ r.at) ⊎ Holds r'.memory.cells r.at (pointer 255 a)
  pub small : a < 2 ^ 64
  pub spot : spot_of r' ≡ past_item (spot_of r) (head_size laid h.tag)
  pub at : r'.at ≡ a + head_size laid h.tag
  pub limit : r'.memory.limit ≡ r.memory.limit

holds_grown : {s t : Store} {a : ℕ} {bs : List ℕ} → Grows s t → Holds s a bs → Holds t a bs
holds_grown g h = Rattle.gib_packed.proofs.Grow.Holds-grows g h

pub head_placed : (laid : LaidOut) (r : Open) (h : Head) → IsHead laid.table h → Ready r → head_size laid h.tag ≤ 65 → (past_item (spot_of r) (head_size laid h.tag)).drawn ≤ r.memory.limit
    → HeadPlaced laid r h (with_room r (head_size laid h.tag)).at (head_bytes laid h.tag (places laid (past_item (spot_of r) (head_size laid h.tag)) h.fields) h.fields) (place_head laid r h)
head_placed laid r h is ready few small =
    let w = head_size laid h.tag in
    let q = with_room r w in
    let past : further (spot_of q) w ≡ past_item (spot_of r) w = ap (λ (s : Spot). further s w) (room_spot r w) in
    let bytes = head_bytes laid h.tag (places laid (further (spot_of q) w) h.fields) h.fields in
    let room = room_made r w ready few small in
    let left : Leaves r.memory q.memory r.at w q.at = leaves r.memory r.at w q.memory q.at ready.bounded ready.behind ready.nine few room.placed in
    let long : length bytes ≡ w = head-length laid (further (spot_of q) w) h is in
    let own : Owned q.memory.cells q.at (length bytes) = subst (λ (n : ℕ). Owned q.memory.cells q.at n) (sym long) left.owned in
    let grown = puts_grow q.memory q.at bytes own in
    let drawn : (after_puts q.memory q.at bytes).drawn ≡ (past_item (spot_of r) w).drawn = ap (λ (s : Spot). s.drawn) (head_spot laid r h) in
    let limit : (after_puts q.memory q.at bytes).limit ≡ r.memory.limit = head_limit laid r h in
    record {
      ready = record {
        bounded = record {
          above = λ x le. puts_past q.memory q.at bytes x (omega (arith, le, long, room.ends, drawn)) ∙ room.above x (omega (arith, le, drawn));
          order = omega (arith, drawn, limit, small);
          small = omega (arith, limit, ready.bounded.small);
        };
        behind = behind_item r.memory q.memory r.at w q.at bytes left long;
        nine = left.redirect_fits;
      };
      grows = record { kept = λ x b e. grown.kept x b (left.grows.kept x b e) };
      holds = subst (λ (s : Spot). Holds (after_puts q.memory q.at bytes).cells q.at (head_bytes laid h.tag (places laid s h.fields) h.fields)) past (puts_hold q.memory q.at bytes);
      led = elim left.led [ inl e ↦ inl e | inr h ↦ inr (holds_grown grown h) ];
      small = omega (arith, left.small);
      spot = head_spot laid r h;
      at = refl;
      limit = limit;
    }
