use Rattle.std.proofs.Common.{List, get_or, refl, ap, false, rules, arith, subst, ◌∙◌}
use Rattle.gib_types.specs.declared.table.Ty.{Ty}
use Rattle.gib_types.specs.declared.table.Ty.TheVariants.{Whole}
use Rattle.gib_core.specs.Tree.{Both, variables_of}
use Rattle.gib_core.specs.Arena.{term_of, side_from}
use Rattle.gib_core.specs.Parts.{core_of}
use Rattle.gib_types.specs.Table.{tree_types}
use Rattle.gib_core.specs.PartTypes.{types_in}
use Rattle.gib_core.specs.declared.node.TermId.{TermId}
use Rattle.gib_core.specs.Met.{met}
use Rattle.gib_loccheck.specs.Views.{setting_of, at_line}
use Rattle.gib_loccheck.specs.Judging.{Checks}
use Rattle.gib_loccheck.proofs.Telling.{binds_side}
use Rattle.gib_loccheck.proofs.Entered.{side_checks, side_blames, beside_passes, beside_kept, beside_blames}
use Rattle.gib_loccheck.proofs.Parting.{tuple_checks, tuple_blames, part_checks, part_blames, parts_next, parts_blame}
use Rattle.gib_loccheck.proofs.Lining.{line_first, line_next, line_blame, line_blame_end, line_passes, line_kept}
use Rattle.gib_loccheck.proofs.Walking.{kept_binds, case_checks, case_blames_subject, if_else_checks, if_else_blames_first, sides_check, sides_blame_par, sides_blame_left, arms_next, arms_blame}
use Rattle.gib_loccheck.proofs.walk.+lines.Goals as goal

pub check_branches-returns-in_err-check_branch : goal.check_branches-returns-in_err-check_branch
check_branches-returns-in_err-check_branch t c =
    let h = arms_blame (core_of c.args.core.now) c.in_err-check_branch.field-0.0 c.args.walk.now c.branches.walk c.args.target.now (term_of c.args.core.now.terms) c.args.branches.now c.branches.left.now c.args.parent.0 c.branch-item.result c.in-len1-up.len_at_least c.branch-item.is c.branches.invariant c.in_err-check_branch.ensures in search rules

pub check_branches-branches-preserved : goal.check_branches-branches-preserved
check_branches-branches-preserved t c =
    arms_next (core_of c.args.core.now) c.args.walk.now c.branches.walk c.check_branch.new.walk c.args.target.now (term_of c.args.core.now.terms) c.args.branches.now c.branches.left.now c.args.parent.0 c.branch-item.result c.in-len1-up.len_at_least c.branch-item.is c.branches.invariant c.in_ok-check_branch.ensures.0 c.in_ok-check_branch.ensures.1

pub bind_sides-returns : goal.bind_sides-returns
bind_sides-returns t c = (
  search rules,
  kept_binds c.args.walk.now c.check_sides.new.walk c.enter_sides.new.walk c.in_ok-next.next c.args.target.now (Both false (side_from (term_of c.args.core.now.terms) c.args.left) (side_from (term_of c.args.core.now.terms) c.args.right)) c.in_ok-check_sides.ensures.1 (c.in_ok-next.ensures.binds (term_of c.args.core.now.terms)),
)

pub check_case-returns-in_err-judge_case : goal.check_case-returns-in_err-judge_case
check_case-returns-in_err-judge_case t c =
    let h = case_blames_subject (core_of c.args.core.now) c.in_err-judge_case.field-0.0 c.args.walk.now c.args.target.now c.args.atom (term_of c.args.core.now.terms) c.args.branches.now c.in_err-judge_case.ensures in search rules

pub check_case-returns : goal.check_case-returns
check_case-returns t c =
    case_checks (core_of c.args.core.now) c.args.walk.now c.judge_case.new.walk c.check_branches.new.walk c.args.target.now c.args.atom (term_of c.args.core.now.terms) c.args.branches.now c.check_branches.result c.in_ok-judge_case.ensures.0 c.in_ok-judge_case.ensures.1 c.check_branches.ensures

pub check_if-returns-in_err-check_term : goal.check_if-returns-in_err-check_term
check_if-returns-in_err-check_term t c =
    let h = if_else_blames_first (core_of c.args.core.now) c.in_err-check_term.field-0.0 c.args.walk.now c.judge_atom.new.walk c.args.target.now c.in_ok-first.first c.args.atom (term_of c.args.core.now.terms c.args.then_part.0) (term_of c.args.core.now.terms c.args.else_part.0) c.in_ok-judge_atom.ensures.0 c.in_ok-judge_atom.ensures.1 c.in_ok-first.ensures c.in_err-check_term.ensures in search rules

pub check_if-returns : goal.check_if-returns
check_if-returns t c =
    if_else_checks (core_of c.args.core.now) c.args.walk.now c.judge_atom.new.walk c.check_term.new.walk c.check_term-2.new.walk c.args.target.now c.in_ok-first.first c.in_ok-second.second c.args.atom (term_of c.args.core.now.terms c.args.then_part.0) (term_of c.args.core.now.terms c.args.else_part.0) c.check_term-2.result c.in_ok-judge_atom.ensures.0 c.in_ok-judge_atom.ensures.1 c.in_ok-first.ensures c.in_ok-check_term.ensures.0 c.in_ok-check_term.ensures.1 c.in_ok-second.ensures c.check_term-2.ensures

pub check_sides-returns-in_err-judge_par : goal.check_sides-returns-in_err-judge_par
check_sides-returns-in_err-judge_par t c =
    let h = sides_blame_par (core_of c.args.core.now) c.in_err-judge_par.field-0.0 c.args.walk.now c.args.target.now (side_from (term_of c.args.core.now.terms) c.args.left) (side_from (term_of c.args.core.now.terms) c.args.right) (c.in_err-judge_par.ensures (core_of c.args.core.now)) in search rules

pub check_sides-returns-in_err-check_beside : goal.check_sides-returns-in_err-check_beside
check_sides-returns-in_err-check_beside t c =
    let h = sides_blame_left (core_of c.args.core.now) c.in_err-check_beside.field-0.0 c.args.walk.now c.judge_par.new.walk c.args.target.now (side_from (term_of c.args.core.now.terms) c.args.left) (side_from (term_of c.args.core.now.terms) c.args.right) (c.in_ok-judge_par.ensures (core_of c.args.core.now)).0 (c.in_ok-judge_par.ensures (core_of c.args.core.now)).1 c.in_err-check_beside.ensures in search rules

pub check_sides-returns : goal.check_sides-returns
check_sides-returns t c =
    sides_check (core_of c.args.core.now) c.args.walk.now c.judge_par.new.walk c.check_beside.new.walk c.check_beside-2.new.walk c.args.target.now c.in_ok-next.next (side_from (term_of c.args.core.now.terms) c.args.left) (side_from (term_of c.args.core.now.terms) c.args.right) c.check_beside-2.result (c.in_ok-judge_par.ensures (core_of c.args.core.now)).0 (c.in_ok-judge_par.ensures (core_of c.args.core.now)).1 c.in_ok-check_beside.ensures.0 c.in_ok-check_beside.ensures.1 (c.in_ok-next.ensures (term_of c.args.core.now.terms)) c.check_beside-2.ensures

pub check_term-bindings-init : goal.check_term-bindings-init
check_term-bindings-init t c =
    line_first (core_of c.args.core.now) c.args.core.now.terms c.args.walk.now c.begin_line-calls.new.walk c.args.target c.args.id.0 c.node_at-node.result.now c.node_at-node.ensures c.requires c.begin_line-calls.ensures.calls c.begin_line-calls.ensures.scope c.begin_line-calls.ensures.others c.begin_line-calls.ensures.stays

pub check_term-returns-in_err-inner : goal.check_term-returns-in_err-inner
check_term-returns-in_err-inner t c =
    let h = line_blame (core_of c.args.core.now) c.args.core.now.terms c.in_err-inner.field-0.0 c.args.walk.now c.bindings.walk c.args.target c.bindings.inner c.args.id.0 c.bindings.rest.0 c.bindings.node.now c.in-Then.binding c.in-Then.after c.bindings.invariant c.in-Then.is c.in_err-inner.ensures in search rules

pub check_term-bindings-preserved : goal.check_term-bindings-preserved
check_term-bindings-preserved t c =
    line_next (core_of c.args.core.now) c.args.core.now.terms c.args.walk.now c.bindings.walk c.check_binding.new.walk c.args.target c.bindings.inner c.in_ok-inner.inner c.args.id.0 c.bindings.rest.0 c.bindings.node.now c.node_at-node-in-Then.result.now c.in-Then.binding c.in-Then.after c.bindings.invariant c.in-Then.is c.in_ok-inner.ensures.0 c.in_ok-inner.ensures.1 c.node_at-node-in-Then.ensures

pub check_term-returns-in_err-check_end : goal.check_term-returns-in_err-check_end
check_term-returns-in_err-check_end t c =
    let h = line_blame_end (core_of c.args.core.now) c.args.core.now.terms c.in_err-check_end.field-0.0 c.args.walk.now c.bindings.walk c.args.target c.bindings.inner c.args.id.0 c.bindings.rest.0 c.bindings.node.now c.bindings.invariant c.in_err-check_end.ensures in search rules

pub check_term-returns : goal.check_term-returns
check_term-returns t c = (
  line_passes (core_of c.args.core.now) c.args.core.now.terms c.args.walk.now c.bindings.walk c.check_end.new.walk c.leave_line.new.walk c.args.target c.bindings.inner c.args.id.0 c.bindings.rest.0 c.bindings.node.now c.bindings.invariant c.in_ok-check_end.ensures.0 c.in_ok-leave_line.ensures.stays,
  line_kept (core_of c.args.core.now) c.args.core.now.terms c.args.walk.now c.bindings.walk c.check_end.new.walk c.leave_line.new.walk c.args.target c.bindings.inner c.args.id.0 c.bindings.rest.0 c.bindings.node.now c.len-outer.result c.bindings.invariant c.in_ok-check_end.ensures.1 c.len-outer.ensures c.in_ok-leave_line.ensures.scope c.in_ok-leave_line.ensures.others (c.in_ok-leave_line.ensures.calls ∙ c.begin_line-calls.ensures.result),
)

pub bind_side-returns : goal.bind_side-returns
bind_side-returns t c = (
  search rules,
  binds_side c.args.walk.now c.check_side.new.walk c.enter_side.new.walk c.tell_side.new.walk c.in_ok-next.next c.args.target.now (side_from (term_of c.args.core.now.terms) c.args.side)
      c.in_ok-check_side.ensures.1 (c.in_ok-next.ensures.binds (term_of c.args.core.now.terms)) c.in_ok-tell_side.ensures,
)

pub check_side-returns-in_err-inner : goal.check_side-returns-in_err-inner
check_side-returns-in_err-inner t c =
    let h = side_blames (core_of c.args.core.now) c.in_err-inner.field-0.0 c.args.walk.now (setting_of c.args.walk.now c.args.target.now) (term_of c.args.core.now.terms) c.args.side c.in_err-inner.ensures in search rules

pub check_side-returns : goal.check_side-returns
check_side-returns t c =
    let core = core_of c.args.core.now in
    let f = term_of c.args.core.now.terms in
    let inner = at_line (setting_of c.open_side.new.walk c.in_ok-inner.inner) in
    let h = subst (λ (i : TermId). Checks core c.open_side.new.walk c.check_term.new.walk (met core.table inner (f i.0)) c.check_term.result) c.term.ensures c.check_term.ensures in
    side_checks core c.args.walk.now c.open_side.new.walk c.check_term.new.walk c.in_ok-inner.inner (setting_of c.args.walk.now c.args.target.now) f c.args.side c.check_term.result c.in_ok-inner.ensures.0 c.in_ok-inner.ensures.1.0 c.in_ok-inner.ensures.1.1 h

pub check_beside-returns-in_err-check_side : goal.check_beside-returns-in_err-check_side
check_beside-returns-in_err-check_side t c =
    let h = beside_blames (core_of c.args.core.now) c.in_err-check_side.field-0.0 c.args.walk.now c.add_others.new.walk c.args.target.now (side_from (term_of c.args.core.now.terms) c.args.other) (side_from (term_of c.args.core.now.terms) c.args.side) (c.in_ok-add_others.ensures (term_of c.args.core.now.terms)) c.in_err-check_side.ensures in search rules

pub check_beside-returns : goal.check_beside-returns
check_beside-returns t c =
    let other = side_from (term_of c.args.core.now.terms) c.args.other in
    let side = side_from (term_of c.args.core.now.terms) c.args.side in
    let h = c.in_ok-add_others.ensures (term_of c.args.core.now.terms) in (
      beside_passes (core_of c.args.core.now) c.args.walk.now c.add_others.new.walk c.check_side.new.walk _ c.args.target.now other side h c.in_ok-check_side.ensures.0 (record { bound = refl; cased = refl; place = refl }),
      beside_kept c.args.walk.now c.add_others.new.walk c.check_side.new.walk _ (variables_of other) c.len-outer.result h c.in_ok-check_side.ensures.1 (omega (arith, c.len-outer.ensures, c.args.walk.now.others.ok.0)) c.truncate.ensures.items refl refl,
    )

pub check_tuple-returns-in_err-judge_tuple : goal.check_tuple-returns-in_err-judge_tuple
check_tuple-returns-in_err-judge_tuple t c =
    let h = tuple_blames (core_of c.args.core.now) c.in_err-judge_tuple.field-0.0 c.args.walk.now (setting_of c.args.walk.now c.args.target.now) (term_of c.args.core.now.terms) (types_in c.args.tuple.now.types) c.args.tuple.now.scalars.now c.args.tuple.now.parts.now c.in_err-judge_tuple.ensures in search rules

pub check_tuple-returns : goal.check_tuple-returns
check_tuple-returns t c =
    tuple_checks (core_of c.args.core.now) c.args.walk.now c.judge_tuple.new.walk c.check_parts.new.walk c.args.target.now (term_of c.args.core.now.terms) (types_in c.args.tuple.now.types) c.args.tuple.now.scalars.now c.args.tuple.now.parts.now c.check_parts.result c.in_ok-judge_tuple.ensures.0 c.in_ok-judge_tuple.ensures.1 c.check_parts.ensures

pub check_part-returns-in_err-judge_part : goal.check_part-returns-in_err-judge_part
check_part-returns-in_err-judge_part t c =
    let h = part_blames (core_of c.args.core.now) c.in_err-judge_part.field-0.0 c.args.walk.now (setting_of c.args.walk.now c.args.target.now) c.args.ty (term_of c.args.core.now.terms c.args.part.0) (c.in_err-judge_part.ensures (core_of c.args.core.now) (setting_of c.args.walk.now c.args.target.now)) in search rules

pub check_part-returns : goal.check_part-returns
check_part-returns t c =
    part_checks (core_of c.args.core.now) c.args.walk.now c.judge_part.new.walk c.check_term.new.walk c.args.target.now c.of_part.result c.args.ty (term_of c.args.core.now.terms c.args.part.0) c.check_term.result (c.in_ok-judge_part.ensures (core_of c.args.core.now) (setting_of c.args.walk.now c.args.target.now)) (c.of_part.ensures c.judge_part.new.walk c.args.target.now) c.check_term.ensures

pub check_parts-returns-in_err-check_part : goal.check_parts-returns-in_err-check_part
check_parts-returns-in_err-check_part t c =
    let h = parts_blame (core_of c.args.core.now) c.in_err-check_part.field-0.0 c.args.walk.now c.parts.walk c.args.target.now (term_of c.args.core.now.terms) (tree_types (types_in c.args.tuple.now.types)) c.args.tuple.now.parts.now c.parts.left.now c.parts.place c.args.parent.0 _ c.packed_at-ty.result c.in-len1-up.len_at_least (c.packed_at-ty.ensures ∙ ap (λ (ts : List Ty). get_or (tree_types ts) c.parts.place Whole) (c.as_slice-types.ensures ∙ c.unpacked-listed.ensures)) c.parts.invariant c.in_err-check_part.ensures in search rules

pub check_parts-parts-preserved : goal.check_parts-parts-preserved
check_parts-parts-preserved t c =
    parts_next (core_of c.args.core.now) c.args.walk.now c.parts.walk c.check_part.new.walk c.args.target.now (term_of c.args.core.now.terms) (tree_types (types_in c.args.tuple.now.types)) c.args.tuple.now.parts.now c.parts.left.now c.parts.place c.args.parent.0 _ c.packed_at-ty.result c.in-len1-up.len_at_least (c.packed_at-ty.ensures ∙ ap (λ (ts : List Ty). get_or (tree_types ts) c.parts.place Whole) (c.as_slice-types.ensures ∙ c.unpacked-listed.ensures)) c.parts.invariant c.in_ok-check_part.ensures.0 c.in_ok-check_part.ensures.1

pub check_binding-returns-in-Prim : goal.check_binding-returns-in-Prim
check_binding-returns-in-Prim t c = let h = c.behind_operation.ensures (core_of c.args.core.now) in search rules
