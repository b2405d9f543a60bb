-- What is noted in gaps, and what is put beside them.
use Rattle.std.proofs.Common.{◌≡◌, ℕ, zero, suc, ◌+◌, ◌-◌, ◌*◌, ◌<◌, ◌≤◌, List, [], ◌∷◌, ◌++◌, length, refl, sym, ap, subst, ◌∙◌, arith, Bool, true, false, cond, inl, inr, Option, Some, None}
use Rattle.std.specs.Prelude.{IfSome}
use Rattle.std.proofs.lemmas.Bool.Decides.{leb_tells}
use Rattle.gib_mem.specs.Memory.{Memory, after_puts, after_draw, Owned}
use Rattle.gib_mem.proofs.Puts.{puts_past, puts_before, puts_drawn, puts_limit, puts_alone, open_before}
use Rattle.gib_packed.specs.Head.{address, addresses, offset_bytes}
use Rattle.gib_region.specs.Region.{rest, Behind, pointer, HasRoom, Placed, here, turned, redirected, has_room}
use Rattle.gib_load.specs.Gaps.{noted, filled, next_gap, later_gaps, gap_of, gaps_from, with_gaps, stored_count}
use Rattle.gib_load.specs.Rest.{AreOpen}
use Rattle.gib_load.specs.Placement.{Open, with_room}
use Rattle.gib_load.proofs.Apart.{puts_apart, draw_apart}
use Rattle.gib_load.proofs.Parts.{puts_append, three_parts}

-- what is noted changes nothing but bytes
pub filled_drawn : (m : Memory) (ds : List (Option ℕ)) (ps : List ℕ) → (filled m ds ps).drawn ≡ m.drawn
filled_drawn m [] ps = refl
filled_drawn m (d ∷ ds) [] = refl
filled_drawn m (None ∷ ds) (p ∷ ps) = filled_drawn m ds ps
filled_drawn m (Some gap ∷ ds) (p ∷ ps) = filled_drawn (after_puts m gap (address p)) ds ps ∙ puts_drawn m gap (address p)

pub filled_limit : (m : Memory) (ds : List (Option ℕ)) (ps : List ℕ) → (filled m ds ps).limit ≡ m.limit
filled_limit m [] ps = refl
filled_limit m (d ∷ ds) [] = refl
filled_limit m (None ∷ ds) (p ∷ ps) = filled_limit m ds ps
filled_limit m (Some gap ∷ ds) (p ∷ ps) = filled_limit (after_puts m gap (address p)) ds ps ∙ puts_limit m gap (address p)

-- bytes above open gaps
pub open_past : (m : Memory) (cur b cur' : ℕ) (ys : List ℕ) (ds : List (Option ℕ)) → cur ≤ b → cur ≤ cur' → AreOpen m cur ds → AreOpen (after_puts m b ys) cur' ds
open_past m cur b cur' ys [] le le' o = tt {0}
open_past m cur b cur' ys (None ∷ ds) le le' o = open_past m cur b cur' ys ds le le' o
open_past m cur b cur' ys (Some gap ∷ ds) le le' o = (
  record { all = λ q x y. puts_before m b ys q (omega (arith, y, o.1, le)) ∙ o.0.all q x y },
  omega (arith, o.1, le'),
  λ start. subst (λ (k : Memory). AreOpen k cur' ds) (puts_apart m gap (address start) b ys (omega (arith, o.1, le))) (open_past (after_puts m gap (address start)) cur b cur' ys ds le le' (o.2 start)),
)

open_further : (m : Memory) (cur cur' : ℕ) (ds : List (Option ℕ)) → cur ≤ cur' → AreOpen m cur ds → AreOpen m cur' ds
open_further m cur cur' ds le o = open_past m cur cur cur' [] ds (omega arith) le o

open_drawn : (m : Memory) (cur c : ℕ) (ds : List (Option ℕ)) → cur ≤ 4096 * c → AreOpen m cur ds → AreOpen (after_draw m c) cur ds
open_drawn m cur c [] le o = tt {0}
open_drawn m cur c (None ∷ ds) le o = open_drawn m cur c ds le o
open_drawn m cur c (Some gap ∷ ds) le o = (
  record { all = λ q x y. open_before m.cells c q (omega (arith, y, o.1, le)) ∙ o.0.all q x y },
  o.1,
  λ start. subst (λ (k : Memory). AreOpen k cur ds) (draw_apart m c gap (address start) (omega (arith, o.1, le))) (open_drawn (after_puts m gap (address start)) cur c ds le (o.2 start)),
)

pub fill_past : (m : Memory) (cur b : ℕ) (ys : List ℕ) (ds : List (Option ℕ)) (ps : List ℕ) → cur ≤ b → AreOpen m cur ds → filled (after_puts m b ys) ds ps ≡ after_puts (filled m ds ps) b ys
fill_past m cur b ys [] ps le o = refl
fill_past m cur b ys (d ∷ ds) [] le o = refl
fill_past m cur b ys (None ∷ ds) (p ∷ ps) le o = fill_past m cur b ys ds ps le o
fill_past m cur b ys (Some gap ∷ ds) (p ∷ ps) le o =
    ap (λ (k : Memory). filled k ds ps) (sym (puts_apart m gap (address p) b ys (omega (arith, o.1, le)))) ∙ fill_past (after_puts m gap (address p)) cur b ys ds ps le (o.2 p)

fill_drawn : (m : Memory) (cur c : ℕ) (ds : List (Option ℕ)) (ps : List ℕ) → cur ≤ 4096 * c → AreOpen m cur ds → filled (after_draw m c) ds ps ≡ after_draw (filled m ds ps) c
fill_drawn m cur c [] ps le o = refl
fill_drawn m cur c (d ∷ ds) [] le o = refl
fill_drawn m cur c (None ∷ ds) (p ∷ ps) le o = fill_drawn m cur c ds ps le o
fill_drawn m cur c (Some gap ∷ ds) (p ∷ ps) le o =
    ap (λ (k : Memory). filled k ds ps) (sym (draw_apart m c gap (address p) (omega (arith, o.1, le)))) ∙ fill_drawn (after_puts m gap (address p)) cur c ds ps le (o.2 p)

-- the first gap
pub filled_next : (m : Memory) (ds : List (Option ℕ)) (p : ℕ) (ps : List ℕ) → filled m ds (p ∷ ps) ≡ filled (noted m (next_gap ds) p) (later_gaps ds) ps
filled_next m [] p ps = refl
filled_next m (d ∷ ds) p ps = refl

pub next_open : (m : Memory) (cur : ℕ) (ds : List (Option ℕ)) → AreOpen m cur ds → IfSome (next_gap ds) (λ gap. Owned m.cells gap 8)
next_open m cur [] o = tt {0}
next_open m cur (None ∷ ds) o = tt {0}
next_open m cur (Some gap ∷ ds) o = o.0

pub later_open : (m : Memory) (cur : ℕ) (ds : List (Option ℕ)) (p : ℕ) → AreOpen m cur ds → AreOpen (noted m (next_gap ds) p) cur (later_gaps ds)
later_open m cur [] p o = tt {0}
later_open m cur (None ∷ ds) p o = o
later_open m cur (Some gap ∷ ds) p o = o.2 p

-- what is above the gaps stays as it is where one is noted
pub noted_past : (m : Memory) (cur : ℕ) (ds : List (Option ℕ)) (p q : ℕ) → AreOpen m cur ds → cur ≤ q → (noted m (next_gap ds) p).cells q ≡ m.cells q
noted_past m cur [] p q o le = refl
noted_past m cur (None ∷ ds) p q o le = refl
noted_past m cur (Some gap ∷ ds) p q o le = puts_past m gap (address p) q (omega (arith, o.1, le))

pub noted_alone : (m : Memory) (d : Option ℕ) (p : ℕ) → (noted m d p).alone ≡ m.alone
noted_alone m None p = refl
noted_alone m (Some gap) p = puts_alone m gap (address p)

-- gaps before others
pub filled_append : (m : Memory) (ds es : List (Option ℕ)) (ps qs : List ℕ) → length ds ≡ length ps → filled m (ds ++ es) (ps ++ qs) ≡ filled (filled m ds ps) es qs
filled_append m [] es [] qs n = refl
filled_append m [] es (p ∷ ps) qs n = absurd (omega (arith, n))
filled_append m (d ∷ ds) es [] qs n = absurd (omega (arith, n))
filled_append m (d ∷ ds) es (p ∷ ps) qs n = filled_append (noted m d p) ds es ps qs (omega (arith, n))

pub gaps_length : (stores : Bool) (base i n : ℕ) → length (gaps_from stores base i n) ≡ n
gaps_length stores base i zero = refl
gaps_length stores base i (suc n) = omega (arith, gaps_length stores base (i + 1) n)

-- a head that has no gaps
pub filled_none : (m : Memory) (base i n : ℕ) (ps : List ℕ) → filled m (gaps_from false base i n) ps ≡ m
filled_none m base i zero ps = refl
filled_none m base i (suc n) [] = refl
filled_none m base i (suc n) (p ∷ ps) = filled_none m base (i + 1) n ps

open_none : (m : Memory) (cur base i n : ℕ) (ds : List (Option ℕ)) → AreOpen m cur ds → AreOpen m cur (gaps_from false base i n ++ ds)
open_none m cur base i zero ds o = o
open_none m cur base i (suc n) ds o = open_none m cur base (i + 1) n ds o

pub with_none_open : (noting : Bool) (m : Memory) (cur base n : ℕ) (ds : List (Option ℕ)) → AreOpen m cur ds → AreOpen m cur (with_gaps noting (gaps_from false base 0 n) ds)
with_none_open false m cur base n ds o = o
with_none_open true m cur base n ds o = open_none m cur base 0 n ds o

-- a head that has some
gap_some : (base k i : ℕ) → k ≡ suc i → gap_of true base k ≡ Some (base + 8 * i)
gap_some base k i q = ap (gap_of true base) q

filled_some : (m : Memory) (base k i n : ℕ) (ps : List ℕ) (b : ℕ) (ys : List ℕ) → k ≡ suc i → length ps ≡ n → base + 8 * i + 8 * n ≤ b
    → filled (after_puts m b ys) (gaps_from true base k n) ps ≡ after_puts (after_puts m (base + 8 * i) (addresses ps)) b ys
filled_some m base k i zero [] b ys q e le = refl
filled_some m base k i zero (p ∷ ps) b ys q e le = absurd (omega (arith, e))
filled_some m base k i (suc n) [] b ys q e le = absurd (omega (arith, e))
filled_some m base k i (suc n) (p ∷ ps) b ys q e le =
    let g = base + 8 * i in
    let long : length (address p) ≡ 8 = refl in
    let next : base + 8 * suc i ≡ g + length (address p) = omega (arith, long) in
    ap (λ (d : Option ℕ). filled (noted (after_puts m b ys) d p) (gaps_from true base (k + 1) n) ps) (gap_some base k i q)
    ∙ ap (λ (x : Memory). filled x (gaps_from true base (k + 1) n) ps) (sym (puts_apart m g (address p) b ys (omega (arith, le, long))))
    ∙ filled_some (after_puts m g (address p)) base (k + 1) (suc i) n ps b ys (omega (arith, q)) (omega (arith, e)) (omega (arith, le))
    ∙ ap (λ (a : ℕ). after_puts (after_puts (after_puts m g (address p)) a (addresses ps)) b ys) next
    ∙ ap (λ (x : Memory). after_puts x b ys) (puts_append m g (address p) (addresses ps))

open_some : (m : Memory) (cur base k i n cur' : ℕ) (ds : List (Option ℕ)) → k ≡ suc i → Owned m.cells (base + 8 * i) (8 * n) → base + 8 * i + 8 * n ≤ cur' → cur ≤ base → AreOpen m cur ds
    → AreOpen m cur' (gaps_from true base k n ++ ds)
open_some m cur base k i zero cur' ds q o le low clear = open_further m cur cur' ds (omega (arith, le, low)) clear
open_some m cur base k i (suc n) cur' ds q o le low clear =
    let g = base + 8 * i in
    let own : Owned m.cells g 8 = record { all = λ x y z. o.all x y (omega (arith, z)) } in
    let later : (start : ℕ) → AreOpen (after_puts m g (address start)) cur' (gaps_from true base (k + 1) n ++ ds) =
    λ start. open_some (after_puts m g (address start)) cur base (k + 1) (suc i) n cur' ds (omega (arith, q))
    (record { all = λ x y z. puts_past m g (address start) x (let long : length (address start) ≡ 8 = refl in omega (arith, y, long)) ∙ o.all x (omega (arith, y)) (omega (arith, z)) })
    (omega (arith, le)) low (open_past m cur g cur (address start) ds (omega (arith, low)) (omega arith) clear) in
    subst (λ (d : Option ℕ). AreOpen m cur' (d ∷ (gaps_from true base (k + 1) n ++ ds))) (sym (gap_some base k i q)) (own, omega (arith, le), later)

-- the gaps of a head are open behind it
pub open_more : (stores : Bool) (m : Memory) (cur base n cur' : ℕ) (ds : List (Option ℕ)) → Owned m.cells base (8 * stored_count stores n) → base + 8 * stored_count stores n ≤ cur' → cur ≤ base → AreOpen m cur ds
    → AreOpen m cur' (gaps_from stores base 0 n ++ ds)
open_more false m cur base n cur' ds o le low clear = open_none m cur' base 0 n ds (open_further m cur cur' ds (omega (arith, le, low)) clear)
open_more true m cur base zero cur' ds o le low clear = open_further m cur cur' ds (omega (arith, le, low)) clear
open_more true m cur base (suc n) cur' ds o le low clear =
    let e : base + 8 * 0 ≡ base = omega arith in
    let own : Owned m.cells (base + 8 * 0) (8 * n) = record { all = λ x y z. o.all x (omega (arith, y)) (omega (arith, z)) } in
    open_some m cur base 1 0 n cur' ds refl own (omega (arith, le)) low clear

-- a head with its gaps filled
pub head_filled : (stores : Bool) (m : Memory) (a tag n : ℕ) (ps ys : List ℕ) → length ps ≡ n
    → filled (after_puts (after_puts m a (tag ∷ [])) (a + 1 + 8 * stored_count stores n) ys) (gaps_from stores (a + 1) 0 n) ps ≡ after_puts m a (tag ∷ (offset_bytes stores ps ++ ys))
head_filled false m a tag n ps ys e = filled_none (after_puts (after_puts m a (tag ∷ [])) (a + 1 + 8 * 0) ys) (a + 1) 0 n ps ∙ three_parts m a (tag ∷ []) [] ys refl
head_filled true m a tag zero [] ys e = three_parts m a (tag ∷ []) [] ys refl
head_filled true m a tag zero (p ∷ ps) ys e = absurd (omega (arith, e))
head_filled true m a tag (suc n) [] ys e = absurd (omega (arith, e))
head_filled true m a tag (suc n) (p ∷ ps) ys e =
    let many : suc n - 1 ≡ length ps = omega (arith, e) in
    let here : a + 1 + 8 * 0 ≡ a + 1 = omega arith in
    ap (λ (k : ℕ). filled (after_puts (after_puts m a (tag ∷ [])) (a + 1 + 8 * k) ys) (gaps_from true (a + 1) 1 n) ps) many
    ∙ filled_some (after_puts m a (tag ∷ [])) (a + 1) 1 0 n ps (a + 1 + 8 * length ps) ys refl (omega (arith, e)) (omega (arith, e))
    ∙ ap (λ (x : ℕ). after_puts (after_puts (after_puts m a (tag ∷ [])) x (addresses ps)) (a + 1 + 8 * length ps) ys) here
    ∙ three_parts m a (tag ∷ []) ps ys refl

-- a place is made for an item
pub record Roomed (now : Memory) (cur w : ℕ) (ds : List (Option ℕ)) (ps : List ℕ) (now1 : Memory) (a : ℕ) : Type 0 where
  pub is : ◌≡◌ {A = Open} (record { memory = filled now1 ds ps; at = a }) (with_room (record { memory = filled now ds ps; at = cur }) w)
  pub clear : AreOpen now1 a ds

abbrev by_room : Open → Bool → Open
by_room r b = cond {A = Open} b r (record { memory = redirected r.memory r.at r.memory.drawn; at = 4096 * r.memory.drawn })

pub room_made : (now : Memory) (cur w : ℕ) (ds : List (Option ℕ)) (ps : List ℕ) (now1 : Memory) (a : ℕ) → now.alone ≡ true → cur ≤ 4096 * now.drawn → AreOpen now cur ds → Placed now cur w now1 a
    → Roomed now cur w ds ps now1 a
room_made now cur w ds ps _ _ alone low o (here room) = record {
  is = ap (by_room (record { memory = filled now ds ps; at = cur })) (elim (leb_tells (w + 9) (rest cur)) [ inl le ↦ sym le.0 | inr lt ↦ absurd (omega (arith, lt.1, room)) ]);
  clear = o;
}
room_made now cur w ds ps _ _ alone low o (turned {c = c} full draws) =
    let e : c ≡ now.drawn = draws.alone alone in
    let le : cur ≤ 4096 * c = omega (arith, e, low) in
    let opened = open_drawn now cur c ds le o in
    let same : filled (redirected now cur c) ds ps ≡ redirected (filled now ds ps) cur c =
    fill_past (after_draw now c) cur cur (pointer 255 (4096 * c)) ds ps (omega arith) opened ∙ ap (λ (k : Memory). after_puts k cur (pointer 255 (4096 * c))) (fill_drawn now cur c ds ps le o) in
    let drawn : c ≡ (filled now ds ps).drawn = e ∙ sym (filled_drawn now ds ps) in
    let r : Open = record { memory = filled now ds ps; at = cur } in
    let no_room : has_room cur w ≡ false = elim (leb_tells (w + 9) (rest cur)) [ inl le ↦ absurd (full le.1) | inr lt ↦ lt.0 ] in
    record {
      is = ap (λ (k : Memory). record { memory = k; at = 4096 * c }) same
          ∙ ap (λ (d : ℕ). record { memory = redirected (filled now ds ps) cur d; at = 4096 * d }) drawn
          ∙ sym (ap (by_room r) no_room);
      clear = open_past (after_draw now c) cur cur (4096 * c) (pointer 255 (4096 * c)) ds (omega arith) le opened;
    }
