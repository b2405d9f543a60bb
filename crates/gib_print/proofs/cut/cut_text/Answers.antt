use Rattle.std.proofs.Common.{◌∷◌, reverse, sym, ap, subst, ◌∙◌, arith}
use Rattle.std.proofs.lemmas.Bool.{eqb-true}
use Rattle.gib_mem.specs.Memory.{Memory}
use Rattle.gib_print.specs.Cut.{Comes, IsLeft}
use Rattle.gib_print.proofs.CutLemmas.{cutting_start, cutting_at, cutting_next, cutting_end}
use Rattle.gib_print.proofs.PlanLemmas.{no_items}
use Rattle.gib_print.proofs.cut.cut_text.Goals as goal

pub items-init : goal.items-init
items-init g c = record {
  same = c.begin-end.ensures.same;
  cuts = λ t v z d. cutting_at c.in_ok-items.ensures.items (ap reverse c.in_ok-frames.ensures.items) (cutting_start c.args.printing.names.now.short c.begin-end.ensures.opened d);
}

pub next_item-requires-clause-left : goal.next_item-requires-clause-left
next_item-requires-clause-left g c =
    let r = c.requires.value in
    let names = c.args.printing.names.now.short in
    let k = c.items.invariant.cuts r.0 r.1 r.2 r.3 in
    (names, k.rest, subst (λ (m : Memory). IsLeft c.args.printing.layouts.now names m.cells c.items.progress k.rest) (sym c.items.invariant.same) k.left)

pub items-preserved : goal.items-preserved
items-preserved g c = record {
  same = c.next_item.ensures.same ∙ c.items.invariant.same;
  cuts = λ t v z d.
      let laid = c.args.printing.layouts.now in
      let names = c.args.printing.names.now.short in
      let same = c.items.invariant.same in
      let k = c.items.invariant.cuts t v z d in
      let comes = c.in_ok-item.ensures.comes names k.rest (subst (λ (m : Memory). IsLeft laid names m.cells c.items.progress k.rest) (sym same) k.left) in
      let new = c.next_item.new.progress in
      cutting_next k (subst (λ (m : Memory). Comes laid names m.cells c.in_ok-item.item (reverse new.frames.items) new.end k.rest) same comes) c.in_ok-push.ensures.items;
}

pub returns-clause-cut : goal.returns-clause-cut
returns-clause-cut g c = λ t v z d.
    let none = eqb-true _ _ (sym c.is_empty.ensures ∙ c.items-test.false) in
    let over = ap reverse (no_items c.items.progress.frames.items (omega (arith, none, c.items.progress.frames.ok))) in
    cutting_end (c.items.invariant.cuts t v z d) over c.in_ok-push-2.ensures.items
