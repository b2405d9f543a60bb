use Rattle.std.proofs.Common.{[], get_or, sym, subst, ◌∙◌, arith, Some}
use Rattle.gib_mem.specs.Memory.{Memory}
use Rattle.gib_print.specs.Cut.{IsItem}
use Rattle.gib_print.specs.Keeping.{kept_view}
use Rattle.gib_print.specs.declared.item.Item.{Item}
use Rattle.gib_print.specs.declared.item.Item.TheVariants as i
use Rattle.gib_print.proofs.CutLemmas.{puts_next, puts_end, put_whole}
use Rattle.gib_print.proofs.items.items_text.Goals as goal

-- what stands at no place of a list
abbrev nothing : Item
nothing = i.First (record { 0 = 0 })

pub put_item-requires-clause-is : goal.put_item-requires-clause-is
put_item-requires-clause-is g c =
    let r = c.requires.cut in
    let laid = c.args.printing.layouts.now in
    let names = c.args.printing.names.now.short in
    let o = puts_next {before = kept_view c.items.kept} c.args.items.now c.items.i nothing c.items-test.true (c.items.invariant.puts r.0 r.1) in
    (o.bytes, subst (λ (m : Memory). IsItem laid names m.cells (get_or c.args.items.now c.items.i nothing) o.bytes) (sym c.items.invariant.same) o.is)

pub items-preserved : goal.items-preserved
items-preserved g c = record {
  same = c.put_item.ensures.same ∙ c.items.invariant.same;
  within = omega (arith, c.items-test.true);
  puts = λ bytes l.
      let laid = c.args.printing.layouts.now in
      let names = c.args.printing.names.now.short in
      let o = puts_next {before = kept_view c.items.kept} c.args.items.now c.items.i nothing c.items-test.true (c.items.invariant.puts bytes l) in
      o.goes (c.in-Ok.ensures.done o.bytes (subst (λ (m : Memory). IsItem laid names m.cells (get_or c.args.items.now c.items.i nothing) o.bytes) (sym c.items.invariant.same) o.is));
}

pub returns-in-Ok-flush-clause-text : goal.returns-in-Ok-flush-clause-text
returns-in-Ok-flush-clause-text g c = λ bytes l.
    c.into_bytes.ensures ∙ put_whole (c.in-Ok-flush.ensures.ok (Some []) bytes (puts_end c.args.items.now c.items.i (omega (arith, c.items-test.false, c.items.invariant.within)) (c.items.invariant.puts bytes l)))
