-- Regions in another order: what they cover and count is the same.
use Rattle.std.proofs.Common.{◌≡◌, ℕ, zero, suc, ◌+◌, ◌<◌, ◌≤◌, List, [], ◌∷◌, length, map, refl, sym, ap, ◌∙◌, arith}
use Rattle.gib_region.specs.Region.{rest}
use Rattle.gib_region.specs.Count.{Open as Cursor, used, all_used}
use Rattle.gib_core.specs.Cost.{Cost}
use Rattle.gib_machine.specs.State.{Open, pull, sink, under}
use Rattle.gib_machine.proofs.Eights.{sink_pulled}
use Rattle.gib_weave.specs.Groups.{nth}
use Rattle.gib_weave.specs.Paying.{Share, Counted}
use Rattle.gib_weave.specs.Places.{within, rest_covers, HaveRoom}
use Rattle.gib_weave.proofs.Counts.{Paid}

under_covers : (r : Open) (rs : List Open) (q : ℕ) → rest_covers (under r rs) q ≡ within r.cur (rest r.cur) q + rest_covers rs q
under_covers r [] q = refl
under_covers r (p ∷ ps) q = omega arith

pub pull_covers : (j : ℕ) (rs : List Open) (q : ℕ) → rest_covers (pull j rs) q ≡ rest_covers rs q
pull_covers zero rs q = refl
pull_covers (suc j) [] q = refl
pull_covers (suc j) (r ∷ rs) q = under_covers r (pull j rs) q ∙ ap (λ (n : ℕ). within r.cur (rest r.cur) q + n) (pull_covers j rs q)

pub sink_covers : (j : ℕ) (rs : List Open) (q : ℕ) → rest_covers (sink j rs) q ≡ rest_covers rs q
sink_covers zero rs q = refl
sink_covers (suc j) [] q = refl
sink_covers (suc j) (p ∷ []) q = refl
sink_covers (suc j) (p ∷ r ∷ rs) q = let h = sink_covers j (p ∷ rs) q in omega (arith, h)

under_room : (r : Open) (rs : List Open) → 9 ≤ rest r.cur → HaveRoom rs → HaveRoom (under r rs)
under_room r [] h g = (h, tt)
under_room r (p ∷ ps) h g = (g.0, (h, g.1))

pub pull_room : (j : ℕ) (rs : List Open) → HaveRoom rs → HaveRoom (pull j rs)
pull_room zero rs h = h
pull_room (suc j) [] h = h
pull_room (suc j) (r ∷ rs) h = under_room r (pull j rs) h.0 (pull_room j rs h.1)

pub sink_room : (j : ℕ) (rs : List Open) → HaveRoom rs → HaveRoom (sink j rs)
sink_room zero rs h = h
sink_room (suc j) [] h = h
sink_room (suc j) (p ∷ []) h = h
sink_room (suc j) (p ∷ r ∷ rs) h = (h.1.0, sink_room j (p ∷ rs) (h.0, h.1.1))

-- The count goes along: its cursors are put in the same order, and together they have used up as much.
map_under : {A B : Type 0} (f : A → B) (r : A) (rs : List A) → map f (under r rs) ≡ under (f r) (map f rs)
map_under f r [] = refl
map_under f r (p ∷ ps) = refl

map_pull : {A B : Type 0} (f : A → B) (j : ℕ) (rs : List A) → map f (pull j rs) ≡ pull j (map f rs)
map_pull f zero rs = refl
map_pull f (suc j) [] = refl
map_pull f (suc j) (r ∷ rs) = map_under f r (pull j rs) ∙ ap (under (f r)) (map_pull f j rs)

map_sink : {A B : Type 0} (f : A → B) (j : ℕ) (rs : List A) → map f (sink j rs) ≡ sink j (map f rs)
map_sink f zero rs = refl
map_sink f (suc j) [] = refl
map_sink f (suc j) (p ∷ []) = refl
map_sink {A} {B} f (suc j) (p ∷ r ∷ rs) = ap (λ (q : List B). f r ∷ q) (map_sink f j (p ∷ rs))

under_used : (o : Cursor) (os : List Cursor) → all_used (under o os) ≡ used o + all_used os
under_used o [] = refl
under_used o (p ∷ ps) = omega arith

pull_used : (j : ℕ) (os : List Cursor) → all_used (pull j os) ≡ all_used os
pull_used zero os = refl
pull_used (suc j) [] = refl
pull_used (suc j) (o ∷ os) = under_used o (pull j os) ∙ ap (λ (n : ℕ). used o + n) (pull_used j os)

sink_used : (j : ℕ) (os : List Cursor) → all_used (sink j os) ≡ all_used os
sink_used zero os = refl
sink_used (suc j) [] = refl
sink_used (suc j) (o ∷ []) = refl
sink_used (suc j) (o ∷ p ∷ os) = let g = sink_used j (o ∷ os) in omega (arith, g)

-- the share with its cursors in this order
abbrev with_order : Share → List Cursor → Share
with_order sh os = record { count = record { drawn = sh.count.drawn; begun = sh.count.begun; placed = sh.count.placed; open_regions = os }; rest = sh.rest }

pub pull_counted : (j : ℕ) (rs : List Open) (left : Cost) (sh : Share) → Counted rs left sh → Paid (pull j rs) left sh 0
pull_counted j rs left sh c = record {
  share = with_order sh (pull j sh.count.open_regions);
  spends = record { balanced = λ b. let e = pull_used j sh.count.open_regions in omega (arith, b, e); costs = record { regions = omega arith; items = omega arith }; drawn = omega arith };
  counted = record {
    balanced = let b = c.balanced in let e = pull_used j sh.count.open_regions in omega (arith, b, e);
    cursors = map_pull (λ (o : Cursor). o.at) j sh.count.open_regions ∙ ap (λ (q : List ℕ). pull j q) c.cursors ∙ sym (map_pull (λ (r : Open). r.cur) j rs);
    left = c.left;
  };
}

pub sink_counted : (j : ℕ) (rs : List Open) (left : Cost) (sh : Share) → Counted rs left sh → Paid (sink j rs) left sh 0
sink_counted j rs left sh c = record {
  share = with_order sh (sink j sh.count.open_regions);
  spends = record { balanced = λ b. let e = sink_used j sh.count.open_regions in omega (arith, b, e); costs = record { regions = omega arith; items = omega arith }; drawn = omega arith };
  counted = record {
    balanced = let b = c.balanced in let e = sink_used j sh.count.open_regions in omega (arith, b, e);
    cursors = map_sink (λ (o : Cursor). o.at) j sh.count.open_regions ∙ ap (λ (q : List ℕ). sink j q) c.cursors ∙ sym (map_sink (λ (r : Open). r.cur) j rs);
    left = c.left;
  };
}

-- The list without the region that has j newer ones.
abbrev pub without : ℕ → List Open → List Open
without j [] = []
without zero (r ∷ rs) = rs
without (suc j) (r ∷ rs) = r ∷ without j rs

-- `into` makes that region the innermost one, and `out` puts it back.
pub pulled : (j : ℕ) (rs : List Open) → j < length rs → pull j rs ≡ nth j rs ∷ without j rs
pulled zero [] h = absurd (omega (arith, h))
pulled zero (r ∷ rs) h = refl
pulled (suc j) [] h = absurd (omega (arith, h))
pulled (suc j) (r ∷ rs) h = ap (under r) (pulled j rs (omega (arith, h)))

pub put_back : (j : ℕ) (rs : List Open) → j < length rs → sink j (nth j rs ∷ without j rs) ≡ rs
put_back j rs h = ap (λ (q : List Open). sink j q) (sym (pulled j rs h)) ∙ sink_pulled j rs h
