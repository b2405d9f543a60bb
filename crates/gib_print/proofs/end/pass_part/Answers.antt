use Rattle.std.proofs.Common.{◌∷◌, ◌+◌, List, reverse, sym, ap, subst, ◌∙◌, arith}
use Rattle.gib_print.specs.Cut.{Comes}
use Rattle.gib_print.specs.declared.frame.Frame.{Frame}
use Rattle.gib_print.specs.declared.item.Item.TheVariants as i
use Rattle.gib_print.proofs.EndLemmas.{passes_next, comes_part}
use Rattle.gib_print.proofs.HeadLemmas.{none_after, pushed_frame}
use Rattle.gib_print.proofs.PlanLemmas.{no_items}
use Rattle.gib_print.proofs.end.pass_part.Goals as goal

pub behind-progress-requires : goal.behind-progress-requires
behind-progress-requires g c =
    let top = pushed_frame c.args.progress.now.frames.items c.pop.new.self.items c.in-Some.frame c.in-Some.ensures.items in
    let p = passes_next top c.fields-fields.ensures (c.is_due.ensures c.if-not-is_due.false) c.requires.left.2 in
    (p.t, p.v, p.z, p.stands)

pub returns-clause-some : goal.returns-clause-some
returns-clause-some g c = λ names rest l.
    let frame = c.in-Some.frame in
    let under = c.pop.new.self.items in
    let top = pushed_frame c.args.progress.now.frames.items under frame c.in-Some.ensures.items in
    let p = passes_next top c.fields-fields.ensures (c.is_due.ensures c.if-not-is_due.false) l in
    let new = pushed_frame c.push_reserved-2.new.self.items under c.passed.result c.push_reserved-2.ensures.items ∙ ap (λ (x : Frame). x ∷ reverse under) c.passed.ensures in
    subst (λ (fs : List Frame). Comes c.args.layouts.now names (g.M.Mem.view c.args.mem.now).cells (i.Part c.args.progress.now.end) fs c.behind-progress.result rest) (sym new) (comes_part c.is_last-last.result p (λ e.
    let q = c.is_last-last.ensures e in
    (ap reverse (no_items under (omega (arith, q.0, c.len.ensures, c.pop.new.self.ok))), none_after c.fields-fields.result.now _ (frame.next + 1) c.fields-fields.ensures q.1)) c.behind-progress.ensures.end)
