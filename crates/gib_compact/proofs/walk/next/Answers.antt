use Rattle.std.proofs.Common.{◌≡◌, ℕ, ◌+◌, ◌<◌, reverse, sym, ap, subst₂, ◌∙◌, arith}
use Rattle.gib_types.specs.declared.layouts.Layout.{Layout}
use Rattle.gib_types.specs.Layout.{head_size, packed_at}
use Rattle.gib_mem.specs.Memory.{Memory, byte}
use Rattle.gib_packed.proofs.HoldsLemmas.{same_byte}
use Rattle.gib_compact.specs.Left.{Left}
use Rattle.gib_compact.proofs.LeftLemmas.{head_opens}
use Rattle.gib_compact.proofs.walk.next.Goals as goal

pub returns-clause-splits : goal.returns-clause-splits
returns-clause-splits g c = λ rest l.
    let laid = c.args.layouts.now in
    let s = (g.M.Mem.view c.args.mem.now).cells in
    let k = c.tag_at.result in
    let h = c.in_ok-at.at in
    let tag : s h ≡ byte k = sym (ap (λ (m : Memory). m.cells h) c.in_ok-at.ensures.same) ∙ c.tag_at.ensures.value in
    let other = c.in_ok-at.ensures.tag in
    let small : k < 254 = let e = same_byte s h other.0 k other.1 tag in omega (arith, e, other.2) in
    let f = c.in_ok-at.ensures.found laid rest l in
    let o = head_opens k f.value tag small f.left in
    let x : h + head_size laid k ≡ h + c.layout-layout.result.head = ap (λ (l : Layout). h + l.head) (sym c.layout-layout.ensures) in
    let y : packed_at laid k + c.find.new.walk.due ≡ c.find.new.walk.due + c.layout-layout.result.packed = omega (arith, ap (λ (l : Layout). l.packed) c.layout-layout.ensures) in
    record {
      scalars = o.scalars;
      later = o.later;
      is = o.is;
      left = subst₂ (λ (x y : ℕ). Left laid s x y (reverse c.find.new.walk.back.items) o.later) x y o.left;
      whole = f.whole ∙ o.whole;
    }
