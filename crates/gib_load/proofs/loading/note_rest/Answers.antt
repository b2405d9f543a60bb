use Rattle.std.proofs.Common.{◌≡◌, true, false, ◌+◌, ◌*◌, ◌≤◌, ◌<◌, ℕ, List, Option, Bool, refl, drop, take, length, sym, ap, subst, subst₂, ◌∙◌, arith}
use Rattle.std.specs.Prelude.{IfSome}
use Rattle.std.proofs.lemmas.List.{drop_all}
use Rattle.gib_mem.specs.Memory.{Memory, Owned}
use Rattle.gib_load.specs.Gaps.{Dues, noted, next_gap, later_gaps, gaps_from, with_gaps}
use Rattle.gib_load.specs.Rest.{AreOpen, Rest, all_of}
use Rattle.gib_load.specs.Spot.{Spot}
use Rattle.gib_load.proofs.Noting.{next_open, later_open, with_none_open}
use Rattle.gib_load.proofs.Resting.{rest_fits, rest_on, rest_room, rest_fewer, rest_same, last_rest}
use Rattle.gib_load.proofs.loading.note_rest.Goals as goal

pub rest-init : goal.rest-init
rest-init g c =
    let m0 = g.M.Mem.view c.args.mem.now in
    let drawn : c.chunks.result ≡ m0.drawn = c.chunks.ensures.alone c.requires.alone in
    let same : m0 ≡ g.M.Mem.view c.chunks.new.self = sym (c.chunks.ensures.value ∙ ap (λ (n : ℕ). record m0 { drawn = n }) drawn) in
    let on : c.args.due.now.noting ≡ true = sym c.notes.ensures ∙ c.if-not-notes.false in
    let spot : ◌≡◌ {A = Spot} (record { at = c.args.start; drawn = m0.drawn }) (record { at = c.args.start; drawn = c.chunks.result }) = ap (λ (n : ℕ). record { at = c.args.start; drawn = n }) (sym drawn) in
    let found = c.requires.rest in
    let few = found.2 on in
    let kept = rest_same c.args.layouts.now c.args.due.now.noting _ _ m0 (g.M.Mem.view c.chunks.new.self) c.args.payload.now c.args.due.now.gaps spot same in
    record {
      within = omega arith;
      noting = on;
      was = on;
      room = refl;
      inside = omega (arith, c.requires.inside, drawn);
      small = omega (arith, c.chunks.type_inv);
      clear = (c.requires.open.0, subst (λ (m : Memory). AreOpen m c.requires.open.0 c.args.due.now.gaps) same c.requires.open.1);
      some = let one = (kept found.0 c.args.due.now.room found.1).0 few in (found.0, one.0, one.1);
      rest = λ target r. (kept target c.args.due.now.room r).1;
    }

pub note-requires : goal.note-requires
note-requires g c =
    subst (λ (d : Option ℕ). IfSome d (λ gap. Owned (g.M.Mem.view c.rest.mem).cells gap 8)) (sym c.take-gap.ensures.gap) (next_open (g.M.Mem.view c.rest.mem) c.rest.invariant.clear.0 c.rest.due.gaps c.rest.invariant.clear.1)

pub put_fields-requires-clause-room : goal.put_fields-requires-clause-room
put_fields-requires-clause-room g c = λ on.
    let some = c.rest.invariant.some in
    let room : c.take-gap.new.self.room ≡ c.rest.due.room = ap (λ (d : Dues). d.room) c.take-gap.ensures.later in
    subst (λ (n : ℕ). length c.take-gap.new.self.gaps + c.layout-layout.result.packed ≤ n) (sym room)
    (rest_room c.args.layouts.now c.args.due.now.noting c.args.payload.now c.rest.at c.rest-test.true _ _ _ some.0 some.1 c.layout-layout.result c.layout-layout.ensures c.take-gap.new.self.gaps c.rest.due.room c.rest.invariant.was
    (ap (λ (d : Dues). d.gaps) c.take-gap.ensures.later) some.2)

pub rest-preserved : goal.rest-preserved
rest-preserved g c =
    let some = c.rest.invariant.some in
    let now = g.M.Mem.view c.rest.mem in
    let m = g.M.Mem.view c.note.new.mem in
    let due = c.put_fields.new.self in
    let all = gaps_from false 0 0 c.layout-layout.result.packed in
    let noted_is : m ≡ noted now (next_gap c.rest.due.gaps) c.rest.spot.at = c.note.ensures ∙ ap (λ (d : Option ℕ). noted now d c.rest.spot.at) c.take-gap.ensures.gap in
    let later = c.take-gap.ensures.later in
    let gaps : due.gaps ≡ with_gaps c.args.due.now.noting all (later_gaps c.rest.due.gaps) =
    ap (λ (d : Dues). d.gaps) c.put_fields.ensures ∙ ap (λ (d : Dues). with_gaps d.noting all d.gaps) later ∙ ap (λ (b : Bool). with_gaps b all (later_gaps c.rest.due.gaps)) (c.rest.invariant.noting ∙ sym c.rest.invariant.was) in
    let room : due.room ≡ c.rest.due.room = ap (λ (d : Dues). d.room) c.put_fields.ensures ∙ ap (λ (d : Dues). d.room) later in
    let fewer = rest_fewer c.args.layouts.now c.args.due.now.noting c.args.payload.now c.rest.at c.rest-test.true _ now c.rest.due.gaps some.0 some.1 c.layout-layout.result c.layout-layout.ensures 0 _ m due.gaps noted_is gaps c.past_item-spot.ensures.spot c.rest.due.room some.2 in
    record {
      within = rest_fits c.args.layouts.now c.args.due.now.noting c.args.payload.now c.rest.at c.rest-test.true _ now c.rest.due.gaps some.0 some.1 c.layout-layout.result c.layout-layout.ensures;
      noting = ap (λ (d : Dues). d.noting) c.put_fields.ensures ∙ ap (λ (d : Dues). d.noting) later ∙ c.rest.invariant.noting;
      was = c.rest.invariant.was;
      room = room ∙ c.rest.invariant.room;
      inside = c.past_item-spot.ensures.inside;
      small = omega (arith, c.past_item-spot.ensures.small, c.rest.invariant.small);
      clear =
          let o = later_open now c.rest.invariant.clear.0 c.rest.due.gaps c.rest.spot.at c.rest.invariant.clear.1 in
          (c.rest.invariant.clear.0, subst₂ (λ (k : Memory) (l : List (Option ℕ)). AreOpen k c.rest.invariant.clear.0 l) (sym noted_is) (sym gaps) (with_none_open c.args.due.now.noting _ c.rest.invariant.clear.0 0 c.layout-layout.result.packed (later_gaps c.rest.due.gaps) o));
      some = (some.0, fewer.0, subst (λ (n : ℕ). length (all_of fewer.0.forest) ≤ n) (sym room) fewer.1);
      rest = λ target r. rest_on c.args.layouts.now c.args.due.now.noting c.args.payload.now c.rest.at c.rest-test.true _ now c.rest.due.gaps target (c.rest.invariant.rest target r) c.layout-layout.result c.layout-layout.ensures 0 _ m due.gaps noted_is gaps c.past_item-spot.ensures.spot;
    }

pub returns : goal.returns
returns g c = λ target r. (last_rest c.args.layouts.now c.args.due.now.noting _ (g.M.Mem.view c.rest.mem) _ c.rest.due.gaps target (drop_all c.rest.at c.args.payload.now (omega arith)) (c.rest.invariant.rest target r)).1
