use Rattle.std.proofs.Common.{◌≡◌, ◌+◌, ◌-◌, ◌^◌, ℕ, ap, refl, sym, ◌∙◌, subst, subst₂, ◌<◌, arith}
use Rattle.gib_mem.specs.Memory.{byte, Memory, Holds}
use Rattle.gib_packed.specs.Head.{address}
use Rattle.gib_types.specs.declared.layouts.Layout.{Layout}
use Rattle.gib_types.specs.Layout.{head_size, packed_at}
use Rattle.gib_packed.proofs.Spans.{Goes}
use Rattle.gib_packed.proofs.Steps.{steps, most}
use Rattle.gib_packed.proofs.HoldsLemmas.{Holds-rest}
use Rattle.gib_packed.proofs.WalkLemmas.{Dec-goes, known_below, stands, turned, passed, entered, ended}
use Rattle.gib_packed.proofs.read.skip.Goals as goal

pub walk-init : goal.walk-init
walk-init g c = record {
  same = refl;
  goes = λ t v z d. Dec-goes c.rules.ensures.packed (known_below (g.M.Mem.view c.args.mem.now) (g.met.M.Mem.bounded c.args.mem.now)) d;
}

pub get-tag-requires : goal.get-tag-requires
get-tag-requires g c =
    let w = c.walk.invariant.goes _ _ _ c.requires.3 in
    let r = stands _ _ _ _ _ _ w c.walk-test.true in
    (r.0, ap (λ (m : Memory). m.cells c.walk.place) c.walk.invariant.same ∙ r.1)

pub word_at-place-requires : goal.word_at-place-requires
word_at-place-requires g c =
    let w = c.walk.invariant.goes _ _ _ c.requires.3 in
    let tag = sym (ap (λ (m : Memory). m.cells c.walk.place) c.walk.invariant.same) ∙ c.get-tag.ensures.value ∙ ap byte c.if-tag.true in
    let r = turned _ _ _ _ _ _ w c.walk-test.true tag in
    (r.0, r.1.fits, subst (λ (m : Memory). Holds m.cells (c.walk.place + 1) (address r.0)) (sym (c.get-tag.ensures.same ∙ c.walk.invariant.same)) (Holds-rest r.1.bytes))

pub walk-smaller-then-tag : goal.walk-smaller-then-tag
walk-smaller-then-tag g c =
    let w = c.walk.invariant.goes _ _ _ c.requires.3 in
    let tag = sym (ap (λ (m : Memory). m.cells c.walk.place) c.walk.invariant.same) ∙ c.get-tag.ensures.value ∙ ap byte c.if-tag.true in
    let r = turned _ _ _ _ _ _ w c.walk-test.true tag in
    let is = c.word_at-place.ensures.value r.0 r.1.fits (subst (λ (m : Memory). Holds m.cells (c.walk.place + 1) (address r.0)) (sym (c.get-tag.ensures.same ∙ c.walk.invariant.same)) (Holds-rest r.1.bytes)) in
    let s = (g.M.Mem.view c.args.mem.now).cells in
    subst (λ (x : ℕ). steps (most (2 ^ 44)) c.args.layouts.now s x c.walk.due < steps (most (2 ^ 44)) c.args.layouts.now s c.walk.place c.walk.due) (sym is) r.2.fewer

pub walk-preserved-then-tag : goal.walk-preserved-then-tag
walk-preserved-then-tag g c = record {
  same = c.word_at-place.ensures.same ∙ c.get-tag.ensures.same ∙ c.walk.invariant.same;
  goes = λ t v z d.
      let w = c.walk.invariant.goes t v z d in
      let tag = sym (ap (λ (m : Memory). m.cells c.walk.place) c.walk.invariant.same) ∙ c.get-tag.ensures.value ∙ ap byte c.if-tag.true in
      let r = turned _ _ _ _ _ _ w c.walk-test.true tag in
      let is = c.word_at-place.ensures.value r.0 r.1.fits (subst (λ (m : Memory). Holds m.cells (c.walk.place + 1) (address r.0)) (sym (c.get-tag.ensures.same ∙ c.walk.invariant.same)) (Holds-rest r.1.bytes)) in
      let s = (g.M.Mem.view c.args.mem.now).cells in
      subst (λ (x : ℕ). Goes c.args.layouts.now s (2 ^ 44) x c.walk.due z) (sym is) r.2.goes;
}

pub walk-smaller-then-tag-2 : goal.walk-smaller-then-tag-2
walk-smaller-then-tag-2 g c =
    let w = c.walk.invariant.goes _ _ _ c.requires.3 in
    let tag = sym (ap (λ (m : Memory). m.cells c.walk.place) c.walk.invariant.same) ∙ c.get-tag.ensures.value ∙ ap byte c.if-tag-2.true in
    let r = passed _ _ _ _ _ _ w c.walk-test.true tag in
    r.fewer

pub walk-preserved-then-tag-2 : goal.walk-preserved-then-tag-2
walk-preserved-then-tag-2 g c = record {
  same = c.get-tag.ensures.same ∙ c.walk.invariant.same;
  goes = λ t v z d.
      let w = c.walk.invariant.goes t v z d in
      let tag = sym (ap (λ (m : Memory). m.cells c.walk.place) c.walk.invariant.same) ∙ c.get-tag.ensures.value ∙ ap byte c.if-tag-2.true in
      (passed _ _ _ _ _ _ w c.walk-test.true tag).goes;
}

pub walk-smaller : goal.walk-smaller
walk-smaller g c =
    let w = c.walk.invariant.goes _ _ _ c.requires.3 in
    let tag = sym (ap (λ (m : Memory). m.cells c.walk.place) c.walk.invariant.same) ∙ c.get-tag.ensures.value in
    let r = entered _ _ _ _ _ _ w c.walk-test.true _ tag c.if-tag.false c.if-tag-2.false in
    let s = (g.M.Mem.view c.args.mem.now).cells in
    let x : c.walk.place + head_size c.args.layouts.now c.get-tag.result ≡ c.walk.place + c.layout-layout.result.head = ap (λ (l : Layout). c.walk.place + l.head) (sym c.layout-layout.ensures) in
    let y : packed_at c.args.layouts.now c.get-tag.result + (c.walk.due - 1) ≡ c.walk.due - 1 + c.layout-layout.result.packed = omega (arith, ap (λ (l : Layout). l.packed) c.layout-layout.ensures) in
    subst₂ (λ (x y : ℕ). steps (most (2 ^ 44)) c.args.layouts.now s x y < steps (most (2 ^ 44)) c.args.layouts.now s c.walk.place c.walk.due) x y r.1.fewer

pub walk-preserved : goal.walk-preserved
walk-preserved g c = record {
  same = c.get-tag.ensures.same ∙ c.walk.invariant.same;
  goes = λ t v z d.
      let w = c.walk.invariant.goes t v z d in
      let tag = sym (ap (λ (m : Memory). m.cells c.walk.place) c.walk.invariant.same) ∙ c.get-tag.ensures.value in
      let r = entered _ _ _ _ _ _ w c.walk-test.true _ tag c.if-tag.false c.if-tag-2.false in
      let s = (g.M.Mem.view c.args.mem.now).cells in
      let x : c.walk.place + head_size c.args.layouts.now c.get-tag.result ≡ c.walk.place + c.layout-layout.result.head = ap (λ (l : Layout). c.walk.place + l.head) (sym c.layout-layout.ensures) in
      let y : packed_at c.args.layouts.now c.get-tag.result + (c.walk.due - 1) ≡ c.walk.due - 1 + c.layout-layout.result.packed = omega (arith, ap (λ (l : Layout). l.packed) c.layout-layout.ensures) in
      subst₂ (λ (x y : ℕ). Goes c.args.layouts.now s (2 ^ 44) x y z) x y r.1.goes;
}

pub overflow_add-due : goal.overflow_add-due
overflow_add-due g c =
    let w = c.walk.invariant.goes _ _ _ c.requires.3 in
    let r = stands _ _ _ _ _ _ w c.walk-test.true in
    omega (arith, r.2)

pub returns-clause-end : goal.returns-clause-end
returns-clause-end g c = λ t v z d. ended _ _ _ _ _ _ (c.walk.invariant.goes t v z d) (omega arith)
