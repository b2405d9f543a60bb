use Rattle.std.proofs.Common.{◌≡◌, ◌+◌, ℕ, [], sym, ap, subst, subst₂, ◌∙◌}
use Rattle.gib_types.specs.declared.layouts.Layout.{Layout}
use Rattle.gib_types.specs.Layout.{head_size, packed_at}
use Rattle.gib_mem.specs.Memory.{Memory}
use Rattle.gib_compact.specs.declared.walk.Head.{Head}
use Rattle.gib_compact.specs.Left.{Left}
use Rattle.gib_compact.specs.Cut.{Adds}
use Rattle.gib_compact.proofs.CutLemmas.{head_cut, adds_head}
use Rattle.gib_compact.proofs.cut.open.Goals as goal

pub add_parts-requires : goal.add_parts-requires
add_parts-requires g c =
    let laid = c.args.layouts.now in
    let h = c.follow-head.result in
    let k = c.tag_at.result in
    let r = c.requires in
    let d = c.follow-head.ensures.value laid r.0 r.1 r.2 r.3 in
    let tag = sym (ap (λ (m : Memory). m.cells h) c.follow-head.ensures.same) ∙ c.tag_at.ensures.value in
    let cut = head_cut k c.follow-head.ensures.leads d.1 tag in
    let x : h + head_size laid k ≡ h + c.layout-layout.result.head = ap (λ (l : Layout). h + l.head) (sym c.layout-layout.ensures) in
    let y : packed_at laid k ≡ c.layout-layout.result.packed = ap (λ (l : Layout). l.packed) (sym c.layout-layout.ensures) in (
      cut.later,
      subst (λ (m : Memory). Left laid m.cells (h + c.layout-layout.result.head) c.layout-layout.result.packed [] cut.later) (sym (c.tag_at.ensures.same ∙ c.follow-head.ensures.same))
          (subst₂ (λ (x y : ℕ). Left laid (g.M.Mem.view c.args.mem.now).cells x y [] cut.later) x y cut.due),
    )

pub returns-clause-adds : goal.returns-clause-adds
returns-clause-adds g c = λ t v z d.
    let laid = c.args.layouts.now in
    let h = c.follow-head.result in
    let k = c.tag_at.result in
    let f = c.follow-head.ensures.value laid t v z d in
    let tag = sym (ap (λ (m : Memory). m.cells h) c.follow-head.ensures.same) ∙ c.tag_at.ensures.value in
    let cut = head_cut k c.follow-head.ensures.leads f.1 tag in
    let x : h + head_size laid k ≡ h + c.layout-layout.result.head = ap (λ (l : Layout). h + l.head) (sym c.layout-layout.ensures) in
    let y : packed_at laid k ≡ c.layout-layout.result.packed = ap (λ (l : Layout). l.packed) (sym c.layout-layout.ensures) in
    let same = c.tag_at.ensures.same ∙ c.follow-head.ensures.same in
    let due = subst (λ (m : Memory). Left laid m.cells (h + c.layout-layout.result.head) c.layout-layout.result.packed [] cut.later) (sym same)
    (subst₂ (λ (x y : ℕ). Left laid (g.M.Mem.view c.args.mem.now).cells x y [] cut.later) x y cut.due) in
    let head : Head = record { at = h; con = record { 0 = k } } in
    adds_head c.args.out.now.items c.push.new.self.items head cut c.in_ok-push.ensures.items
    (subst (λ (m : Memory). Adds laid m.cells c.push.new.self.items c.add_parts.new.out.items cut.later) same (c.in_ok-add_parts.ensures.adds cut.later due))
