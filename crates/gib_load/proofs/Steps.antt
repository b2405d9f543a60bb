-- One head more.
use Rattle.std.proofs.Common.{◌≡◌, ℕ, zero, suc, ◌+◌, ◌-◌, ◌*◌, ◌<◌, ◌≤◌, List, [], ◌∷◌, ◌++◌, length, get_or, drop, take, refl, sym, ap, subst, subst₂, ◌∙◌, arith, length-append, append_assoc, append-nil, Bool, true, false, Option}
use Rattle.std.specs.Prelude.{IfSome}
use Rattle.std.proofs.Math.Seq.{take-append_seam}
use Rattle.gib_mem.specs.Memory.{Memory, after_puts, after_draw, Owned}
use Rattle.gib_mem.proofs.Puts.{puts_past, puts_alone}
use Rattle.gib_types.specs.declared.table.Ty.TheVariants as ty
use Rattle.gib_types.specs.declared.table.TyId.{TyId}
use Rattle.gib_types.specs.declared.layouts.Layout.{Layout}
use Rattle.gib_types.specs.Layout.{LaidOut, layout_at, head_size, packed_at, has_offsets, offset_size}
use Rattle.gib_types.specs.Tree.{Datum, whole, truth, con, constructors}
use Rattle.gib_file.specs.Packed.{Packed}
use Rattle.gib_packed.specs.Scalars.{scalars}
use Rattle.gib_packed.specs.Head.{addresses, offset_bytes, head_bytes}
use Rattle.gib_packed.proofs.SpanLemmas.{con_within}
use Rattle.gib_region.specs.Region.{rest, Behind, pointer, HasRoom, Placed, here, turned, IsFull}
use Rattle.gib_region.specs.Leaving.{Leaves}
use Rattle.gib_load.specs.Preorder.{Head, heads, all_heads}
use Rattle.gib_load.specs.Spot.{Spot, further, past_item, past_fields, places}
use Rattle.gib_load.specs.Gaps.{noted, filled, next_gap, later_gaps, gaps_from, with_gaps, first_gaps, stored_count}
use Rattle.gib_load.specs.Rest.{Rest, IsLong, AreOpen, bytes_of, AreHeads, all_of, starts}
use Rattle.gib_load.specs.Placement.{Open, spot_of, with_room, with_bytes, place_head, place_heads}
use Rattle.gib_load.specs.Refusal.{Stuck}
use Rattle.gib_load.proofs.Heads.{place-append, heads-count}
use Rattle.gib_load.proofs.Spots.{room_spot, head_spot, places-length}
use Rattle.gib_load.proofs.Parts.{three_parts, drop_next, tag_long, rest_long}
use Rattle.gib_load.proofs.Noting.{Roomed, room_made, filled_append, filled_next, filled_drawn, filled_limit, gaps_length, head_filled, fill_past, later_open, next_open, open_more, open_past, noted_past, noted_alone}
use Rattle.gib_load.proofs.Resting.{NextRest, next_rest, last_rest, first_rest, first_parts, roots, all_of-long, heads_then, starts_then, places_many, long_then, head_is, packed_is, item_long, scalars-long, item_fits, left_then}
use Rattle.gib_load.proofs.Going.{Going}

-- before the first head
pub first_going : (laid : LaidOut) (r : Open) (t : TyId) (v : Datum) (noting : Bool) (bytes : List ℕ) (dues : List (Option ℕ)) → Packed laid.table (ty.Tree t) v bytes → dues ≡ first_gaps noting
    → (noting ≡ false → (x : ℕ) → x < length laid.table.rows → has_offsets laid x ≡ false) → Going laid r v noting r.memory r.at bytes dues
first_going laid r t (whole z) noting bytes dues p e plain = absurd p.0
first_going laid r t (truth b) noting bytes dues p e plain = absurd p.0
first_going laid r t (con k vs) noting bytes dues p e plain = record {
  front = [];
  spot = spot_of r;
  rest = first_rest laid noting (spot_of r) r.memory t k vs bytes dues p e plain;
  parts = first_parts laid noting (spot_of r) r.memory t k vs bytes dues p e plain;
  here = refl;
  there = refl;
}

pub first_open : (m : Memory) (at : ℕ) (noting : Bool) (dues : List (Option ℕ)) → dues ≡ first_gaps noting → AreOpen m at dues
first_open m at noting dues e = subst (AreOpen m at) (sym e) (go noting)
  where
    go : (b : Bool) → AreOpen m at (first_gaps b)
    go false = tt {0}
    go true = tt {0}

-- behind the last one
pub last_going : (laid : LaidOut) (r0 : Open) (v : Datum) (noting : Bool) (now : Memory) (at : ℕ) (bytes : List ℕ) (dues : List (Option ℕ)) → Going laid r0 v noting now at bytes dues → bytes ≡ []
    → ◌≡◌ {A = Open} (record { memory = now; at = at }) (place_heads laid r0 (heads v))
last_going laid r0 v noting now at bytes dues g e =
    let last = last_rest laid noting g.spot now bytes dues (place_heads laid r0 g.front).memory e g.rest in
    let all : heads v ≡ g.front = g.parts ∙ ap (λ (f : List Head). g.front ++ all_of f) last.0 ∙ append-nil g.front in
    ap (λ (m : Memory). record { memory = m; at = at }) last.1 ∙ ap (λ (a : ℕ). record { memory = (place_heads laid r0 g.front).memory; at = a }) (sym g.there) ∙ ap (place_heads laid r0) (sym all)

-- where the cursor is, and how many chunks are drawn
pub spot_is : (laid : LaidOut) (r0 : Open) (v : Datum) (noting : Bool) (now : Memory) (at : ℕ) (bytes : List ℕ) (dues : List (Option ℕ)) → (g : Going laid r0 v noting now at bytes dues)
    → g.spot ≡ record { at = at; drawn = now.drawn }
spot_is laid r0 v noting now at bytes dues g =
    let drawn : (place_heads laid r0 g.front).memory.drawn ≡ now.drawn = sym (ap (λ (m : Memory). m.drawn) g.rest.same) ∙ filled_drawn now dues (starts laid g.spot g.rest.forest) in
    g.here ∙ ap (λ (a : ℕ). record { at = a; drawn = (place_heads laid r0 g.front).memory.drawn }) g.there ∙ ap (λ (d : ℕ). record { at = at; drawn = d }) drawn

-- what is left once a place was refused for the next head
pub rest_here : (laid : LaidOut) (r0 : Open) (v : Datum) (noting : Bool) (now : Memory) (at : ℕ) (bytes : List ℕ) (dues : List (Option ℕ)) (g : Going laid r0 v noting now at bytes dues)
    (noting' : Bool) → noting' ≡ noting → (m : Memory) → m ≡ now → (start : ℕ) → start ≡ at → (p : List ℕ) → p ≡ bytes → (room : ℕ) → (noting' ≡ true → constructors v < room)
    → (x : Rest laid noting' (record { at = start; drawn = m.drawn }) m p dues (place_heads laid r0 g.front).memory) × (noting' ≡ true → length (all_of x.forest) ≤ room)
rest_here laid r0 v noting now at bytes dues g noting' ne m me start se p pe room few =
    let spot : record { at = start; drawn = m.drawn } ≡ g.spot =
    ap (λ (x : ℕ). record { at = x; drawn = m.drawn }) se ∙ ap (λ (x : Memory). record { at = at; drawn = x.drawn }) me ∙ sym (spot_is laid r0 v noting now at bytes dues g) in (
      record {
        forest = g.rest.forest;
        left = pe ∙ g.rest.left;
        typed = g.rest.typed;
        long = subst (λ (b : Bool). IsLong laid b dues g.rest.forest) (sym ne) g.rest.long;
        same = ap (λ (x : Memory). filled x dues (starts laid (record { at = start; drawn = m.drawn }) g.rest.forest)) me ∙ ap (λ (s : Spot). filled now dues (starts laid s g.rest.forest)) spot ∙ g.rest.same;
      },
      λ on. let n = heads-count v in let q = ap length g.parts in let x = length-append g.front (all_of g.rest.forest) in let f = few on in omega (arith, n, q, x, f),
    )

pub alone_kept : (m : Memory) (at w : ℕ) (m' : Memory) (a : ℕ) → Placed m at w m' a → m'.alone ≡ m.alone
alone_kept m at w _ _ (here room) = refl
alone_kept m at w _ _ (turned {c = c} full draws) = puts_alone (after_draw m c) at (pointer 255 (4096 * c))

-- how many places a head stores
pub stored-size : (o : Bool) (n : ℕ) → offset_size o n ≡ 8 * stored_count o n
stored-size false n = refl
stored-size true n = refl

-- a head was put, but for its gaps
put_filled : (noting st : Bool) → (noting ≡ false → st ≡ false) → (m : Memory) (a tag n : ℕ) (ps qs ys : List ℕ) (others : List (Option ℕ)) → (noting ≡ false → others ≡ []) → length ps ≡ n → AreOpen m a others
    → filled (after_puts (after_puts m a (tag ∷ [])) (a + 1 + 8 * stored_count st n) ys) (with_gaps noting (gaps_from st (a + 1) 0 n) others) (ps ++ qs)
    ≡ after_puts (filled m others qs) a (tag ∷ (offset_bytes st ps ++ ys))
put_filled false true f m a tag n ps qs ys others none e o = let x = f refl in absurd cc
put_filled false false f m a tag n ps qs ys others none e o =
    let x = none refl in
    ap (λ (l : List (Option ℕ)). filled (after_puts (after_puts m a (tag ∷ [])) (a + 1 + 8 * 0) ys) l (ps ++ qs)) x
    ∙ three_parts m a (tag ∷ []) [] ys refl
    ∙ ap (λ (l : List (Option ℕ)). after_puts (filled m l qs) a (tag ∷ ys)) (sym x)
put_filled true st f m a tag n ps qs ys others none e o =
    let now = after_puts (after_puts m a (tag ∷ [])) (a + 1 + 8 * stored_count st n) ys in
    filled_append now (gaps_from st (a + 1) 0 n) others ps qs (gaps_length st (a + 1) 0 n ∙ sym e)
    ∙ ap (λ (x : Memory). filled x others qs) (head_filled st m a tag n ps ys e)
    ∙ fill_past m a a (tag ∷ (offset_bytes st ps ++ ys)) others qs (omega arith) o

no_gaps : (laid : LaidOut) (noting : Bool) (ds : List (Option ℕ)) (f : List Head) → IsLong laid noting ds f → noting ≡ false → ds ≡ []
no_gaps laid false ds f l e = l.0
no_gaps laid true ds f l e = absurd cc

no_offsets : (laid : LaidOut) (noting : Bool) (ds : List (Option ℕ)) (f : List Head) → IsLong laid noting ds f → noting ≡ false → (k : ℕ) → k < length laid.table.rows → has_offsets laid k ≡ false
no_offsets laid false ds f l e = l.1
no_offsets laid true ds f l e = absurd cc

-- the gaps of a head that was put are open
put_open : (noting st : Bool) (m : Memory) (a tag n : ℕ) (ys : List ℕ) (others : List (Option ℕ)) (at : ℕ) → Owned m.cells a (1 + 8 * stored_count st n) → a + 1 + 8 * stored_count st n ≤ at → AreOpen m a others
    → AreOpen (after_puts (after_puts m a (tag ∷ [])) (a + 1 + 8 * stored_count st n) ys) at (with_gaps noting (gaps_from st (a + 1) 0 n) others)
put_open false st m a tag n ys others at own le o =
    let one = open_past m a a a (tag ∷ []) others (omega arith) (omega arith) o in
    open_past (after_puts m a (tag ∷ [])) a (a + 1 + 8 * stored_count st n) at ys others (omega arith) (omega (arith, le)) one
put_open true st m a tag n ys others at own le o =
    let one = open_past m a a a (tag ∷ []) others (omega arith) (omega arith) o in
    let cells : Owned (after_puts m a (tag ∷ [])).cells (a + 1) (8 * stored_count st n) = record { all = λ q x y. puts_past m a (tag ∷ []) q (omega (arith, x)) ∙ own.all q (omega (arith, x)) (omega (arith, y)) } in
    let gaps = open_more st (after_puts m a (tag ∷ [])) a (a + 1) n (a + 1 + 8 * stored_count st n) others cells (omega arith) (omega arith) one in
    open_past (after_puts m a (tag ∷ [])) (a + 1 + 8 * stored_count st n) (a + 1 + 8 * stored_count st n) at ys (gaps_from st (a + 1) 0 n ++ others) (omega arith) le gaps

module _ (laid : LaidOut) (noting : Bool) (payload : List ℕ) (at : ℕ) (lt : at < length payload) (now : Memory) (cur : ℕ) (dues : List (Option ℕ)) (r0 : Open) (v : Datum) (going : Going laid r0 v noting now cur (drop at payload) dues)
    (layout : Layout) (laid_out : layout ≡ layout_at laid.table laid.with_offsets (get_or payload at 0)) where
  abbrev r : Open
  r = place_heads laid r0 going.front

  nx : NextRest laid noting going.spot now (get_or payload at 0) (drop at payload) dues r.memory going.rest.forest
  nx = next_rest laid noting going.spot now (get_or payload at 0) (drop (at + 1) payload) (drop at payload) dues r.memory (drop_next payload at lt) going.rest

  abbrev later : List Head
  later = all_heads nx.head.fields ++ all_of nx.behind

  size : layout.head ≡ head_size laid nx.head.tag
  size = head_is laid payload at lt nx.head later nx.is nx.left (get_or payload at 0) nx.tag layout laid_out

  packed : layout.packed ≡ packed_at laid nx.head.tag
  packed = packed_is laid payload at lt nx.head later nx.is nx.left (get_or payload at 0) nx.tag layout laid_out

  pub fits : at + (1 + layout.scalars) ≤ length payload
  fits = item_fits laid payload at lt nx.head later nx.is nx.left (get_or payload at 0) nx.tag layout laid_out

  abbrev pub item_part : List ℕ
  item_part = take (at + (1 + layout.scalars) - at) (drop at payload)

  item_is : item_part ≡ nx.head.tag ∷ scalars nx.head.fields
  item_is =
      let l = item_long laid payload at lt nx.head later nx.is nx.left (get_or payload at 0) nx.tag layout laid_out in
      let m : at + (1 + layout.scalars) - at ≡ length (nx.head.tag ∷ scalars nx.head.fields) = omega (arith, l) in
      ap (λ (k : ℕ). take k (drop at payload)) m ∙ ap (take (length (nx.head.tag ∷ scalars nx.head.fields))) nx.left ∙ take-append_seam (nx.head.tag ∷ scalars nx.head.fields) (bytes_of later)

  pub some : 0 < length item_part
  some = let e = ap length item_is in omega (arith, e)

  all_behind : heads v ≡ going.front ++ nx.head ∷ later
  all_behind = going.parts ∙ ap (λ (f : List Head). going.front ++ all_of f) nx.is_forest

  -- where there is no room and no chunk for it
  pub stuck : (m : Memory) → (HasRoom cur layout.head → ⊥) → m ≡ r.memory → now.drawn ≡ now.limit → Stuck laid r0 (heads v) m
  stuck m full same all = record {
    front = going.front;
    next = nx.head;
    later = later;
    parts = all_behind;
    same = same;
    no_room = λ room. full (subst₂ (λ (x k : ℕ). HasRoom x k) going.there (sym size) room);
    all =
        let d = ap (λ (x : Memory). x.drawn) same ∙ sym (ap (λ (x : Memory). x.drawn) going.rest.same) ∙ filled_drawn now dues (starts laid going.spot going.rest.forest) in
        let l = ap (λ (x : Memory). x.limit) same ∙ sym (ap (λ (x : Memory). x.limit) going.rest.same) ∙ filled_limit now dues (starts laid going.spot going.rest.forest) in
        d ∙ all ∙ sym l;
  }

  -- there is room for its gaps
  pub gaps_fit : (ds : List (Option ℕ)) (room : ℕ) → noting ≡ true → ds ≡ later_gaps dues → constructors v < room → length ds + layout.packed ≤ room
  gaps_fit ds room on e few =
      let n = heads-count v in
      let p = ap length all_behind in
      let x = length-append going.front (nx.head ∷ later) in
      let h = ap length (heads_then laid nx.head nx.behind going.spot nx.is) in
      let f = all_of-long (roots nx.head.fields ++ nx.behind) in
      let l = long_then laid nx.head nx.behind going.spot nx.is noting false 0 (later_gaps dues) nx.long in
      let m : length (with_gaps true (gaps_from false 0 0 (packed_at laid nx.head.tag)) (later_gaps dues)) ≡ length (roots nx.head.fields ++ nx.behind) =
      subst (λ (b : Bool). IsLong laid b (with_gaps b (gaps_from false 0 0 (packed_at laid nx.head.tag)) (later_gaps dues)) (roots nx.head.fields ++ nx.behind)) on l in
      let y = length-append (gaps_from false 0 0 (packed_at laid nx.head.tag)) (later_gaps dues) in
      let z = gaps_length false 0 0 (packed_at laid nx.head.tag) in
      let k = ap length e in
      let q = packed in
      omega (arith, n, p, x, h, f, m, y, z, k, q, few)

  module _ (stores : Bool) (st : stores ≡ has_offsets laid (get_or payload at 0)) (count : ℕ) (many : count ≡ stored_count stores layout.packed) where
    stores_is : stores ≡ has_offsets laid nx.head.tag
    stores_is = st ∙ ap (has_offsets laid) nx.tag

    count_is : count ≡ stored_count (has_offsets laid nx.head.tag) (packed_at laid nx.head.tag)
    count_is = many ∙ ap (λ (b : Bool). stored_count b layout.packed) stores_is ∙ ap (stored_count (has_offsets laid nx.head.tag)) packed

    pub long : length item_part + 8 * count ≡ layout.head
    long =
        let a = ap length item_is in
        let c = stored-size (has_offsets laid nx.head.tag) (packed_at laid nx.head.tag) in
        let l = item_long laid payload at lt nx.head later nx.is nx.left (get_or payload at 0) nx.tag layout laid_out in
        let s = scalars-long laid payload at lt nx.head later nx.is nx.left (get_or payload at 0) nx.tag layout laid_out in
        omega (arith, a, c, l, s, count_is, size)

    -- once there is a place for it
    module _ (now1 : Memory) (a : ℕ) (alone : now.alone ≡ true) (low : cur ≤ 4096 * now.drawn) (clear : AreOpen now cur dues) (placed : Placed now cur layout.head now1 a) where
      abbrev now2 : Memory
      now2 = noted now1 (next_gap dues) cur

      abbrev qs : List ℕ
      qs = starts laid (past_fields laid (past_item going.spot (head_size laid nx.head.tag)) nx.head.fields) nx.behind

      abbrev ps : List ℕ
      ps = places laid (past_item going.spot (head_size laid nx.head.tag)) nx.head.fields

      there : going.spot.at ≡ cur
      there = ap (λ (s : Spot). s.at) going.here ∙ going.there

      roomed : Roomed now cur layout.head dues (going.spot.at ∷ qs) now1 a
      roomed = room_made now cur layout.head dues (going.spot.at ∷ qs) now1 a alone low clear placed

      open2 : AreOpen now2 a (later_gaps dues)
      open2 = later_open now1 a dues cur roomed.clear

      pub gap_owned : IfSome (next_gap dues) (λ gap. Owned now1.cells gap 8)
      gap_owned = next_open now1 a dues roomed.clear

      pub noted_owned : Owned now1.cells a layout.head → Owned (noted now1 (next_gap dues) cur).cells a layout.head
      noted_owned own = record { all = λ q x y. noted_past now1 a dues cur q roomed.clear x ∙ own.all q x y }

      -- and once it is put
      module _ (now3 : Memory) (put : now3 ≡ after_puts (after_puts (noted now1 (next_gap dues) cur) a (take 1 item_part)) (a + 1 + 8 * count) (drop 1 item_part))
          (ds : List (Option ℕ)) (gaps : ds ≡ with_gaps noting (gaps_from stores (a + 1) 0 layout.packed) (later_gaps dues)) where
        put_is : now3 ≡ after_puts (after_puts now2 a (nx.head.tag ∷ [])) (a + 1 + 8 * stored_count (has_offsets laid nx.head.tag) (packed_at laid nx.head.tag)) (scalars nx.head.fields)
        put_is = put ∙ ap (λ (i : List ℕ). after_puts (after_puts now2 a (take 1 i)) (a + 1 + 8 * count) (drop 1 i)) item_is
            ∙ ap (λ (n : ℕ). after_puts (after_puts now2 a (nx.head.tag ∷ [])) (a + 1 + 8 * n) (scalars nx.head.fields)) count_is

        gaps_are : ds ≡ with_gaps noting (gaps_from (has_offsets laid nx.head.tag) (a + 1) 0 (packed_at laid nx.head.tag)) (later_gaps dues)
        gaps_are = gaps ∙ ap (λ (b : Bool). with_gaps noting (gaps_from b (a + 1) 0 layout.packed) (later_gaps dues)) stores_is
            ∙ ap (λ (n : ℕ). with_gaps noting (gaps_from (has_offsets laid nx.head.tag) (a + 1) 0 n) (later_gaps dues)) packed

        pub opens : Owned now1.cells a layout.head → AreOpen now3 (a + layout.head) ds
        opens own =
            let c = long in
            let i = some in
            let k = count_is in
            let cells : Owned now2.cells a (1 + 8 * stored_count (has_offsets laid nx.head.tag) (packed_at laid nx.head.tag)) =
            record { all = λ q x y. noted_past now1 a dues cur q roomed.clear x ∙ own.all q x (omega (arith, y, c, i, k)) } in
            subst₂ (λ (m : Memory) (l : List (Option ℕ)). AreOpen m (a + layout.head) l) (sym put_is) (sym gaps_are)
            (put_open noting (has_offsets laid nx.head.tag) now2 a nx.head.tag (packed_at laid nx.head.tag) (scalars nx.head.fields) (later_gaps dues) (a + layout.head) cells (omega (arith, c, i, k)) open2)

        put_from : (q : ℕ) → a + layout.head ≤ q → now3.cells q ≡ now1.cells q
        put_from q le =
            let c = long in
            let i = some in
            ap (λ (m : Memory). m.cells q) put
            ∙ puts_past (after_puts now2 a (take 1 item_part)) (a + 1 + 8 * count) (drop 1 item_part) q (let x = rest_long item_part some in omega (arith, c, x, le))
            ∙ puts_past now2 a (take 1 item_part) q (let x = tag_long item_part some in omega (arith, c, i, x, le))
            ∙ noted_past now1 a dues cur q roomed.clear (omega (arith, le))

        pub behind_then : Leaves now now1 cur layout.head a → Behind now3.cells (a + layout.head)
        behind_then leaves = record { owned = record { all = λ q x y. put_from q x ∙ leaves.behind.all q x y } }

        pub alone_then : now1.alone ≡ true → now3.alone ≡ true
        alone_then e =
            ap (λ (m : Memory). m.alone) put ∙ puts_alone (after_puts now2 a (take 1 item_part)) (a + 1 + 8 * count) (drop 1 item_part) ∙ puts_alone now2 a (take 1 item_part)
            ∙ noted_alone now1 (next_gap dues) cur ∙ e

        filled_is : filled now3 ds (ps ++ qs) ≡ after_puts (filled now1 dues (going.spot.at ∷ qs)) a (head_bytes laid nx.head.tag ps nx.head.fields)
        filled_is =
            ap (λ (m : Memory). filled m ds (ps ++ qs)) put_is
            ∙ ap (λ (l : List (Option ℕ)). filled (after_puts (after_puts now2 a (nx.head.tag ∷ [])) (a + 1 + 8 * stored_count (has_offsets laid nx.head.tag) (packed_at laid nx.head.tag)) (scalars nx.head.fields)) l (ps ++ qs)) gaps_are
            ∙ put_filled noting (has_offsets laid nx.head.tag) (λ e. no_offsets laid noting (later_gaps dues) nx.behind nx.long e nx.head.tag (con_within laid.table nx.is.owner nx.head.tag nx.is.owned)) now2 a nx.head.tag (packed_at laid nx.head.tag) ps qs (scalars nx.head.fields) (later_gaps dues)
            (no_gaps laid noting (later_gaps dues) nx.behind nx.long) (places_many laid nx.head nx.behind going.spot nx.is) open2
            ∙ ap (λ (x : ℕ). after_puts (filled (noted now1 (next_gap dues) x) (later_gaps dues) qs) a (head_bytes laid nx.head.tag ps nx.head.fields)) (sym there)
            ∙ ap (λ (m : Memory). after_puts m a (head_bytes laid nx.head.tag ps nx.head.fields)) (sym (filled_next now1 dues going.spot.at qs))

        -- the region, with room for the head
        region_is : ◌≡◌ {A = Open} (record { memory = filled now1 dues (going.spot.at ∷ qs); at = a }) (with_room r (head_size laid nx.head.tag))
        region_is =
            roomed.is
            ∙ ap (λ (f : List Head). with_room (record { memory = filled now dues (starts laid going.spot f); at = cur }) layout.head) (sym nx.is_forest)
            ∙ ap (λ (m : Memory). with_room (record { memory = m; at = cur }) layout.head) going.rest.same
            ∙ ap (λ (x : ℕ). with_room (record { memory = r.memory; at = x }) layout.head) (sym going.there)
            ∙ ap (with_room r) size

        spot_then : past_item going.spot (head_size laid nx.head.tag) ≡ further (spot_of (with_room r (head_size laid nx.head.tag))) (head_size laid nx.head.tag)
        spot_then =
            let w = head_size laid nx.head.tag in
            ap (λ (s : Spot). past_item s w) going.here ∙ sym (ap (λ (s : Spot). further s w) (room_spot r w))

        head_placed : ◌≡◌ {A = Open} (record { memory = filled now3 ds (ps ++ qs); at = a + layout.head }) (place_head laid r nx.head)
        head_placed =
            let w = head_size laid nx.head.tag in
            ap (λ (m : Memory). record { memory = m; at = a + layout.head }) filled_is
            ∙ ap (λ (k : ℕ). with_bytes (record { memory = filled now1 dues (going.spot.at ∷ qs); at = a }) k (head_bytes laid nx.head.tag ps nx.head.fields)) size
            ∙ ap (λ (x : Open). with_bytes x w (head_bytes laid nx.head.tag ps nx.head.fields)) region_is
            ∙ ap (λ (s : Spot). with_bytes (with_room r w) w (head_bytes laid nx.head.tag (places laid s nx.head.fields) nx.head.fields)) spot_then

        front_placed : ◌≡◌ {A = Open} (record { memory = filled now3 ds (ps ++ qs); at = a + layout.head }) (place_heads laid r0 (going.front ++ nx.head ∷ []))
        front_placed = head_placed ∙ sym (place-append laid r0 going.front (nx.head ∷ []))

        pub goes_on : Going laid r0 v noting now3 (a + layout.head) (drop (at + (1 + layout.scalars)) payload) ds
        goes_on = record {
          front = going.front ++ nx.head ∷ [];
          spot = past_item going.spot (head_size laid nx.head.tag);
          rest = record {
            forest = roots nx.head.fields ++ nx.behind;
            left = left_then laid payload at lt nx.head later nx.is nx.left (get_or payload at 0) nx.tag layout laid_out ∙ ap bytes_of (sym (heads_then laid nx.head nx.behind going.spot nx.is));
            typed = subst (AreHeads laid.table) (sym (heads_then laid nx.head nx.behind going.spot nx.is)) nx.typed;
            long = subst (λ (x : List (Option ℕ)). IsLong laid noting x (roots nx.head.fields ++ nx.behind)) (sym gaps_are)
                (long_then laid nx.head nx.behind going.spot nx.is noting (has_offsets laid nx.head.tag) (a + 1) (later_gaps dues) nx.long);
            same = ap (filled now3 ds) (starts_then laid nx.head nx.behind going.spot nx.is) ∙ ap (λ (x : Open). x.memory) front_placed;
          };
          parts = all_behind ∙ sym (append_assoc going.front (nx.head ∷ []) later) ∙ ap (λ (l : List Head). (going.front ++ nx.head ∷ []) ++ l) (sym (heads_then laid nx.head nx.behind going.spot nx.is));
          here = ap (λ (s : Spot). past_item s (head_size laid nx.head.tag)) going.here ∙ sym (head_spot laid r nx.head) ∙ ap spot_of (sym (place-append laid r0 going.front (nx.head ∷ [])));
          there = sym (ap (λ (x : Open). x.at) front_placed);
        }

-- a draw that answered nothing left all as it was
pub full_same : (old new : Memory) → old.alone ≡ true → IsFull old new → new ≡ old
full_same old new alone full = full.same ∙ ap (λ (n : ℕ). record old { drawn = n }) (sym (full.all alone))

pub full_all : (old new : Memory) → IsFull old new → new.drawn ≡ new.limit
full_all old new full = subst (λ (m : Memory). m.drawn ≡ m.limit) (sym full.same) refl

-- the rest of the chunk behind an item that was put
pub behind_item : (m m' : Memory) (cur w a : ℕ) (bs : List ℕ) → Leaves m m' cur w a → length bs ≡ w → Behind (after_puts m' a bs).cells (a + w)
behind_item m m' cur w a bs leaves long = record { owned = record { all = λ q x y. puts_past m' a bs q (omega arith) ∙ leaves.behind.all q x y } }
