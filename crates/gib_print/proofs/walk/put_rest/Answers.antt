use Rattle.std.proofs.Common.{◌≡◌, ◌≤◌, ℕ, ◌∷◌, List, [], length, reverse, refl, sym, ap, subst, ◌∙◌, arith}
use Rattle.gib_mem.specs.Memory.{Memory}
use Rattle.gib_types.specs.declared.table.ConId.{ConId}
use Rattle.gib_types.specs.declared.table.Ty.TheVariants as ty
use Rattle.gib_types.specs.Layout.{field_types}
use Rattle.gib_packed.specs.Decoding.{Decodes}
use Rattle.gib_print.specs.Framing.{works, passed, Opened, shut}
use Rattle.gib_print.specs.Going.{Goes}
use Rattle.gib_print.specs.Working.{Left}
use Rattle.gib_print.specs.declared.frame.Frame.{Frame}
use Rattle.gib_print.proofs.HeadLemmas.{closes_few, field_left, none_after, next_tree, pushed_frame}
use Rattle.gib_print.proofs.PlanLemmas.{Writing, writing_none, writing_step, writing_open, writing_goes, writing_as, writing_at, writing_end, no_items}
use Rattle.gib_print.proofs.StepLemmas.{few_fields}
use Rattle.gib_print.proofs.walk.put_rest.Goals as goal

pub turns-init : goal.turns-init
turns-init g c = record {
  same = refl;
  fields = c.fields-fields.ensures;
  writes = λ rest l. writing_none (ap (λ (xs : List Frame). c.args.begun.0 ∷ reverse xs) c.new-frames.ensures.items) l;
}

pub turns-preserved-in-Some : goal.turns-preserved-in-Some
turns-preserved-in-Some g c =
    let top = c.turns.top in
    let spent = none_after _ _ top.next c.turns.invariant.fields (omega (arith, c.if-top-fields.true)) in
    let frames = sym (pushed_frame c.turns.frames.items c.pop.new.self.items c.in-Some.frame c.in-Some.ensures.items) in
    record {
      same = c.turns.invariant.same;
      fields = c.fields-fields-in-Some.ensures;
      writes = λ rest l. writing_at frames c.behind-end.ensures (writing_step (c.turns.invariant.writes rest l) (shut spent) c.in_ok-put_closes.ensures.done);
    }

pub returns-in-None-clause-done : goal.returns-in-None-clause-done
returns-in-None-clause-done g c = λ rest l.
    let top = c.turns.top in
    let spent = none_after _ _ top.next c.turns.invariant.fields (omega (arith, c.if-top-fields.true)) in
    writing_end (writing_step (c.turns.invariant.writes rest l) (shut spent) c.in_ok-put_closes.ensures.done) (ap reverse (no_items c.turns.frames.items (omega (arith, c.in-None.ensures.cases.0, c.turns.frames.ok))))

pub begin_shaped-stop-requires : goal.begin_shaped-stop-requires
begin_shaped-stop-requires g c =
    let r = c.requires.left in
    let w = c.turns.invariant.writes r.0 r.1 in
    let e = field_left _ _ c.turns.top.next (ty.Tree c.in-Tree.field-0) c.turns.invariant.fields (omega (arith, c.if-top-fields.false)) c.in-Tree.is in
    (c.args.printing.layouts.now, c.args.printing.names.now.short, c.requires.shapes, c.rules.ensures.long, subst (λ (m : Memory). Decodes c.args.printing.layouts.now m.cells c.turns.end) (sym c.turns.invariant.same) (next_tree w.spells refl e))

pub put_fields-requires-clause-left : goal.put_fields-requires-clause-left
put_fields-requires-clause-left g c =
    let laid = c.args.printing.layouts.now in
    let names = c.args.printing.names.now.short in
    let s = (g.M.Mem.view c.args.mem.now).cells in
    let top = c.turns.top in
    let fs = reverse c.turns.frames.items in
    let e = field_left _ _ top.next (ty.Tree c.in-Tree.field-0) c.turns.invariant.fields (omega (arith, c.if-top-fields.false)) c.in-Tree.is in
    let child = c.begin_shaped-stop.result.0 in
    let stop = c.begin_shaped-stop.result.1 in
    let r = c.requires.left in
    let d = subst (λ (m : Memory). Decodes laid m.cells c.turns.end) (sym c.turns.invariant.same) (next_tree (c.turns.invariant.writes r.0 r.1).spells refl e) in
    let opened = subst (λ (m : Memory). Opened laid m.cells c.turns.end child stop) c.turns.invariant.same (c.begin_shaped-stop.ensures.opened laid names c.requires.shapes d) in
    let sent = c.in_ok-put_front.ensures.done in
    let here = c.begin_shaped-stop.ensures.same ∙ c.turns.invariant.same in
    let w = writing_open (c.turns.invariant.writes r.0 r.1) e opened sent in
    (names, passed top 0 ∷ fs, stop, w.rest, subst (λ (m : Memory). Left laid names m.cells (works laid.table (child ∷ passed top 0 ∷ fs)) stop w.rest) (sym here) w.spells)

pub put_fields-requires-clause-con : goal.put_fields-requires-clause-con
put_fields-requires-clause-con g c =
    let laid = c.args.printing.layouts.now in
    let names = c.args.printing.names.now.short in
    let e = field_left _ _ c.turns.top.next (ty.Tree c.in-Tree.field-0) c.turns.invariant.fields (omega (arith, c.if-top-fields.false)) c.in-Tree.is in
    let r = c.requires.left in
    let d = subst (λ (m : Memory). Decodes laid m.cells c.turns.end) (sym c.turns.invariant.same) (next_tree (c.turns.invariant.writes r.0 r.1).spells refl e) in
    let opened = c.begin_shaped-stop.ensures.opened laid names c.requires.shapes d in
    opened.known

pub put_front-requires-clause-con : goal.put_front-requires-clause-con
put_front-requires-clause-con g c =
    let laid = c.args.printing.layouts.now in
    let names = c.args.printing.names.now.short in
    let e = field_left _ _ c.turns.top.next (ty.Tree c.in-Tree.field-0) c.turns.invariant.fields (omega (arith, c.if-top-fields.false)) c.in-Tree.is in
    let r = c.requires.left in
    let d = subst (λ (m : Memory). Decodes laid m.cells c.turns.end) (sym c.turns.invariant.same) (next_tree (c.turns.invariant.writes r.0 r.1).spells refl e) in
    let opened = c.begin_shaped-stop.ensures.opened laid names c.requires.shapes d in
    opened.known

pub turns-preserved-then-whole : goal.turns-preserved-then-whole
turns-preserved-then-whole g c =
    let laid = c.args.printing.layouts.now in
    let names = c.args.printing.names.now.short in
    let s = (g.M.Mem.view c.args.mem.now).cells in
    let top = c.turns.top in
    let fs = reverse c.turns.frames.items in
    let e = field_left _ _ top.next (ty.Tree c.in-Tree.field-0) c.turns.invariant.fields (omega (arith, c.if-top-fields.false)) c.in-Tree.is in
    let child = c.begin_shaped-stop.result.0 in
    let stop = c.begin_shaped-stop.result.1 in
    let r = c.requires.left in
    let d = subst (λ (m : Memory). Decodes laid m.cells c.turns.end) (sym c.turns.invariant.same) (next_tree (c.turns.invariant.writes r.0 r.1).spells refl e) in
    let opened = subst (λ (m : Memory). Opened laid m.cells c.turns.end child stop) c.turns.invariant.same (c.begin_shaped-stop.ensures.opened laid names c.requires.shapes d) in
    let sent = c.in_ok-put_front.ensures.done in
    let here = c.begin_shaped-stop.ensures.same ∙ c.turns.invariant.same in
    let goes = λ (gs : List Frame). subst (λ (m : Memory). Goes laid names m.cells (child ∷ gs) stop (c.put_fields.new.frame ∷ gs) stop (g.O.Sink.view c.put_front.new.sink) (g.O.Sink.view c.put_fields.new.sink) c.put_front.new.waiting c.put_fields.new.waiting) here (c.in_ok-whole.ensures.goes names gs stop) in
    let spent = none_after (field_types laid c.put_fields.new.frame.con.0) _ c.put_fields.new.frame.next refl (c.in_ok-whole.ensures.all c.if-whole.true) in
    record {
      same = c.put_fields.ensures.same ∙ here;
      fields = c.turns.invariant.fields ∙ ap (λ (x : Frame). field_types laid x.con.0) (sym c.passed-top.ensures);
      writes = λ rest l. writing_at (ap (λ (x : Frame). x ∷ fs) c.passed-top.ensures) c.behind-end-then-whole.ensures (writing_step (writing_goes (writing_open (c.turns.invariant.writes rest l) e opened sent) (goes (passed top 0 ∷ fs))) (shut spent) c.in_ok-put_close.ensures.done);
    }

pub turns-preserved-else-whole : goal.turns-preserved-else-whole
turns-preserved-else-whole g c =
    let laid = c.args.printing.layouts.now in
    let names = c.args.printing.names.now.short in
    let s = (g.M.Mem.view c.args.mem.now).cells in
    let top = c.turns.top in
    let fs = reverse c.turns.frames.items in
    let e = field_left _ _ top.next (ty.Tree c.in-Tree.field-0) c.turns.invariant.fields (omega (arith, c.if-top-fields.false)) c.in-Tree.is in
    let child = c.begin_shaped-stop.result.0 in
    let stop = c.begin_shaped-stop.result.1 in
    let r = c.requires.left in
    let d = subst (λ (m : Memory). Decodes laid m.cells c.turns.end) (sym c.turns.invariant.same) (next_tree (c.turns.invariant.writes r.0 r.1).spells refl e) in
    let opened = subst (λ (m : Memory). Opened laid m.cells c.turns.end child stop) c.turns.invariant.same (c.begin_shaped-stop.ensures.opened laid names c.requires.shapes d) in
    let sent = c.in_ok-put_front.ensures.done in
    let here = c.begin_shaped-stop.ensures.same ∙ c.turns.invariant.same in
    let goes = λ (gs : List Frame). subst (λ (m : Memory). Goes laid names m.cells (child ∷ gs) stop (c.put_fields.new.frame ∷ gs) stop (g.O.Sink.view c.put_front.new.sink) (g.O.Sink.view c.put_fields.new.sink) c.put_front.new.waiting c.put_fields.new.waiting) here (c.in_ok-whole.ensures.goes names gs stop) in
    let of = c.turns.invariant.fields ∙ ap (λ (x : Frame). field_types laid x.con.0) (sym c.passed-top.ensures) in
    let work = c.in_ok-top.ensures.entered laid.table of ∙ ap (λ (x : Frame). works laid.table (c.put_fields.new.frame ∷ x ∷ fs)) c.passed-top.ensures in
    record {
      same = c.put_fields.ensures.same ∙ here;
      fields = c.fields-fields-else-whole.ensures;
      writes = λ rest l. writing_as work (writing_goes (writing_open (c.turns.invariant.writes rest l) e opened sent) (goes (passed top 0 ∷ fs)));
    }

pub turns-preserved : goal.turns-preserved
turns-preserved g c =
    let laid = c.args.printing.layouts.now in
    let names = c.args.printing.names.now.short in
    let top = c.turns.top in
    let fs = reverse c.turns.frames.items in
    let goes = subst (λ (m : Memory). Goes laid names m.cells (top ∷ fs) c.turns.end (c.put_scalars.new.frame ∷ fs) c.turns.end (g.O.Sink.view c.turns.sink) (g.O.Sink.view c.put_scalars.new.sink) c.turns.waiting c.put_scalars.new.waiting) c.turns.invariant.same
    (c.in_ok-put_scalars.ensures.goes laid names fs c.turns.end c.turns.invariant.fields) in
    record {
      same = c.put_scalars.ensures.same ∙ c.turns.invariant.same;
      fields = c.turns.invariant.fields ∙ ap (λ (x : ConId). field_types laid x.0) (sym c.put_scalars.ensures.con);
      writes = λ rest l. writing_goes (c.turns.invariant.writes rest l) goes;
    }

pub put_scalars-requires : goal.put_scalars-requires
put_scalars-requires g c =
    let laid = c.args.printing.layouts.now in
    let names = c.args.printing.names.now.short in
    let r = c.requires.left in
    let w = c.turns.invariant.writes r.0 r.1 in
    let fs = reverse c.turns.frames.items in
    record { left = (laid, c.turns.invariant.fields, names, fs, c.turns.end, w.rest, subst (λ (m : Memory). Left laid names m.cells (works laid.table (c.turns.top ∷ fs)) c.turns.end w.rest) (sym c.turns.invariant.same) w.spells) }

pub innermost-requires : goal.innermost-requires
innermost-requires g c =
    let laid = c.args.printing.layouts.now in
    let e = field_left _ _ c.turns.top.next (ty.Tree c.in-Tree.field-0) c.turns.invariant.fields (omega (arith, c.if-top-fields.false)) c.in-Tree.is in
    let r = c.requires.left in
    let d = subst (λ (m : Memory). Decodes laid m.cells c.turns.end) (sym c.turns.invariant.same) (next_tree (c.turns.invariant.writes r.0 r.1).spells refl e) in
    let few = closes_few (c.begin_shaped-stop.ensures.opened laid c.args.printing.names.now.short c.requires.shapes d) in
    record { few = omega (arith, few, c.put_fields.ensures.closes) }

pub put_close-requires : goal.put_close-requires
put_close-requires g c =
    let laid = c.args.printing.layouts.now in
    let e = field_left _ _ c.turns.top.next (ty.Tree c.in-Tree.field-0) c.turns.invariant.fields (omega (arith, c.if-top-fields.false)) c.in-Tree.is in
    let r = c.requires.left in
    let d = subst (λ (m : Memory). Decodes laid m.cells c.turns.end) (sym c.turns.invariant.same) (next_tree (c.turns.invariant.writes r.0 r.1).spells refl e) in
    let few = closes_few (c.begin_shaped-stop.ensures.opened laid c.args.printing.names.now.short c.requires.shapes d) in
    omega (arith, few, c.put_fields.ensures.closes)

-- a constructor has few fields
pub offset_bounds-fields-top : goal.offset_bounds-fields-top
offset_bounds-fields-top g c =
    let few = few_fields c.args.printing.layouts.now.table c.turns.top.con.0 c.rules.ensures.table in
    omega (arith, few, ap length c.turns.invariant.fields, c.if-top-fields.false)

pub passed-top-requires-clause-next : goal.passed-top-requires-clause-next
passed-top-requires-clause-next g c =
    let few = few_fields c.args.printing.layouts.now.table c.turns.top.con.0 c.rules.ensures.table in
    omega (arith, few, ap length c.turns.invariant.fields, c.if-top-fields.false)
