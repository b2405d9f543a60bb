use Rattle.std.proofs.Common.{◌≡◌, ◌-◌, ◌++◌, length, map, arith, rules, ap, refl, sym, ◌∙◌}
use Rattle.gib_core.specs.declared.node.Binding.TheVariants as b
use Rattle.gib_core.specs.Tree.{prepend}
use Rattle.gib_core.specs.Arena.{term_of, binds_from}
use Rattle.gib_core.specs.Reaching.{packed_variables, laters, untold}
use Rattle.gib_access.specs.Used.{since, offset_by}
use Rattle.gib_access.specs.Sources.{way_of}
use Rattle.gib_access.specs.Planned.{later_of}
use Rattle.gib_access.proofs.Arms.{branch_reached, branches_next}
use Rattle.gib_access.proofs.Tuples.{parts_next}
use Rattle.gib_access.proofs.Lining.{line_first, line_below, line_next, line_whole}
use Rattle.gib_access.proofs.walk.+reach.Goals as goal

pub reach_branches-branches-preserved : goal.reach_branches-branches-preserved
reach_branches-branches-preserved t c =
    (omega arith, branches_next (way_of c.args.source.now) (term_of c.args.source.now.terms.now) c.args.work.now c.branches.work c.reach_branch.new.work c.in_ok-branch.branch c.index-branches-i.result c.index-branches-i.result c.branches.reversed.items c.push.new.self.items c.args.branches.now (c.branches.i - 1) c.branches.i (omega arith) c.branches.invariant.0 c.index-branches-i.is c.in_ok-push.ensures.items c.branches.invariant.1 c.in_ok-branch.ensures)

pub reach_parts-parts-preserved : goal.reach_parts-parts-preserved
reach_parts-parts-preserved t c =
    (omega arith, parts_next (way_of c.args.source.now) (term_of c.args.source.now.terms.now) c.args.work.now c.parts.work c.reach_term.new.work c.in_ok-part.part _ (record { 0 = 0 }) c.parts.reversed.items c.push.new.self.items c.args.parts.now (c.parts.i - 1) c.parts.i (omega arith) c.parts.invariant.0 refl c.in_ok-push.ensures.items c.parts.invariant.1 c.in_ok-part.ensures)

pub reach_branch-returns : goal.reach_branch-returns
reach_branch-returns t c =
    let w = way_of c.args.source.now in
    let f = term_of c.args.source.now.terms.now in
    let line : prepend (binds_from f c.deref.result.now) (f c.in_ok-bindings.last.0) ≡ f c.args.branch.now.term.0 = ap (λ z. prepend (binds_from f z) (f c.in_ok-bindings.last.0)) c.deref.ensures.value ∙ sym c.in_ok-bindings.ensures.term in
    let packed : c.deref-3.result.now ≡ c.deref-6.result.now = c.deref-3.ensures.value ∙ sym c.deref-6.ensures.value in
    branch_reached w c.args.work.now (record { terms = c.args.work.now.terms; stamps = c.enter.new.stamps; offsets = c.args.work.now.offsets }) c.reach_line.new.work c.put_reaches.new.work c.in_ok-start.start
    (record { constructor = c.args.branch.now.constructor; variables = c.in_ok-variables.variables; term = c.in_ok-term.term }) c.args.branch.now (f c.args.branch.now.term.0) c.in_ok-body.body c.deref-6.result.now c.deref-7.result.now (map later_of c.deref-4.result.now)
    c.in_ok-start.ensures refl refl
    (c.deref-6.ensures.value ∙ c.in_ok-packed.ensures ∙ ap (packed_variables c.args.source.now.types.now c.args.branch.now.constructor) c.deref-2.ensures.value)
    (ap (map later_of) c.deref-4.ensures.value ∙ c.in_ok-plan.ensures.laters ∙ (λ i. laters c.args.source.now.mode c.args.source.now.ended.now (line i) (packed i)))
    (c.deref-7.ensures.value ∙ c.in_ok-plan.ensures.others ∙ (λ i. untold c.args.source.now.mode c.args.source.now.ended.now (line i) (packed i)))
    c.in_ok-body.ensures c.in_ok-term.ensures.stamps
    (c.in_ok-term.ensures.offsets ∙ c.in_ok-list_constructor.ensures
    ∙ ap (λ z. offset_by c.args.branch.now.constructor (since c.reach_line.new.work.stamps c.in_ok-start.start) z ++ c.reach_line.new.work.offsets) (c.deref-5.ensures.value ∙ sym c.deref-7.ensures.value))
    c.in_ok-term.ensures.fronts refl (c.in_ok-variables.ensures.items ∙ c.deref-8.ensures.value)

pub reach_line-reach_end-requires : goal.reach_line-reach_end-requires
reach_line-reach_end-requires t c = let w = c.requires.line.within in (search rules, (omega (arith, w), c.requires.line.ends))

pub reach_line-bindings-init : goal.reach_line-bindings-init
reach_line-bindings-init t c =
    line_first (way_of c.args.source.now) c.args.source.now.terms.now c.args.line.now.bindings.now c.args.line.now.last.0 (length c.args.line.now.bindings.now) c.args.ends.now c.args.work.now c.reach_end.new.work
    (record { terms = c.put_ends.new.terms; stamps = c.reach_end.new.work.stamps; offsets = c.reach_end.new.work.offsets }) c.in_ok-end.end c.in_ok-made.made c.requires.line.ends c.requires.planned refl c.in_ok-end.ensures c.in_ok-made.ensures refl refl

pub reach_line-reach_binding-requires : goal.reach_line-reach_binding-requires
reach_line-reach_binding-requires t c =
    let below = line_below c.args.line.now.id.0 c.args.line.now.bindings.now (c.bindings.i - 1) c.bindings.i _ (b.Past (record { 0 = 0 }) (record { 0 = 0 })) c.requires.line.below c.bindings.invariant.within (omega arith) refl in
    (search rules, (c.requires.inside, below))

pub reach_line-bindings-preserved : goal.reach_line-bindings-preserved
reach_line-bindings-preserved t c =
    line_next (way_of c.args.source.now) c.args.source.now.terms.now c.args.line.now.bindings.now c.args.line.now.last.0 c.args.ends.now (c.bindings.i - 1) c.bindings.i c.args.work.now c.bindings.work c.reach_binding.new.work
    (record { terms = c.put.new.self; stamps = c.reach_binding.new.work.stamps; offsets = c.reach_binding.new.work.offsets })
    (record { terms = c.put_ends-in-bindings.new.terms; stamps = c.reach_binding.new.work.stamps; offsets = c.reach_binding.new.work.offsets })
    c.bindings.made c.in_ok-put.put c.in_ok-made-2.made c.in_ok-binding.binding _ (b.Past (record { 0 = 0 }) (record { 0 = 0 })) c.requires.planned c.bindings.invariant (omega arith) refl c.in_ok-binding.ensures c.in_ok-put.ensures.made refl refl
    c.in_ok-made-2.ensures refl refl

pub reach_line-returns : goal.reach_line-returns
reach_line-returns t c =
    line_whole (way_of c.args.source.now) c.args.source.now.terms.now c.args.line.now.id.0 c.args.line.now.bindings.now c.args.line.now.last.0 c.bindings.i c.args.ends.now c.args.work.now c.bindings.work c.bindings.made c.requires.line c.bindings.invariant (omega arith)
