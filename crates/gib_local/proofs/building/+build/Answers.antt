use Rattle.std.proofs.Common.{rules, refl, sym, ap, ◌∙◌, subst, true, false, Some, None, length}
use Rattle.gib_types.specs.Table.{is_scalar}
use Rattle.gib_local_parse.specs.LineArena.{tree_of, layer, binding_from}
use Rattle.gib_local_parse.specs.ReadingTerms.{arms_text}
use Rattle.gib_local_parse.specs.declared.lines.BindingNode.{BindingNode}
use Rattle.gib_local_parse.specs.Tree.{Line, PrimIn}
use Rattle.gib_local.specs.Building.{build, build_binding, bind}
use Rattle.gib_local.specs.Builds.{BindsAll, around_of, passed_of, program_in}
use Rattle.gib_local.proofs.Adding.{builds_for, steps_for}
use Rattle.gib_local.proofs.Joining.{within_made, within_step, within_rest}
use Rattle.gib_local.proofs.Siding.{side_for, scalar_made, scalar_mark, scalar_fails, packed_made, packed_due, packed_fails, one_made, one_fails, Halfway, both_made, both_left, both_between, both_right, if_made, if_first, if_second, branch_made, branch_fails, case_made, case_fails}
use Rattle.gib_local.proofs.Forking.{arm_here, arms_begin, arms_next, arms_fail, arms_end}
use Rattle.gib_local.proofs.building.+build.Goals as goal

pub within-returns : goal.within-returns
within-returns t c =
    within_made (program_in c.args.source.now) c.args.builder.now c.step.new.builder c.line.new.builder c.leave.new.self c.put_before.new.builder c.args.goal.now c.step.new.goal c.in_ok-binding.binding c.in_ok-last.last c.in_ok-term.term c.depth-depth.result
    (binding_from (tree_of c.args.source.now.lines) c.args.bound.now) (tree_of c.args.source.now.lines c.args.rest.0) c.depth-depth.ensures.variables c.depth-depth.ensures.places c.in_ok-binding.ensures c.in_ok-last.ensures c.in_ok-leave.ensures c.in_ok-term.ensures

pub within-returns-in_err-binding : goal.within-returns-in_err-binding
within-returns-in_err-binding t c =
    let h = within_step (program_in c.args.source.now) c.in_err-binding.field-0.0 (around_of c.args.builder.now c.args.goal.now) (passed_of c.args.builder.now) (binding_from (tree_of c.args.source.now.lines) c.args.bound.now) (tree_of c.args.source.now.lines c.args.rest.0) c.in_err-binding.ensures in
    search rules

pub within-returns-in_err-last : goal.within-returns-in_err-last
within-returns-in_err-last t c =
    let h = within_rest (program_in c.args.source.now) c.in_err-last.field-0.0 c.args.builder.now c.step.new.builder c.args.goal.now c.step.new.goal c.in_ok-binding.binding (binding_from (tree_of c.args.source.now.lines) c.args.bound.now) (tree_of c.args.source.now.lines c.args.rest.0) c.in_ok-binding.ensures c.in_err-last.ensures in
    search rules

pub one-returns : goal.one-returns
one-returns t c =
    one_made (program_in c.args.source.now) c.args.builder.now c.bind_side.new.builder c.bind.new.self c.args.goal.now c.bind_side.new.goal c.args.side.name c.args.side.ty c.args.side.mark (tree_of c.args.source.now.lines c.args.side.line.0) c.in_ok-bound.bound c.in_ok-bound.ensures c.in_ok-bind.ensures

pub one-returns-in_err-bound : goal.one-returns-in_err-bound
one-returns-in_err-bound t c =
    let h = one_fails (program_in c.args.source.now) c.in_err-bound.field-0.0 (around_of c.args.builder.now c.args.goal.now) (passed_of c.args.builder.now) c.args.side.name c.args.side.ty c.args.side.mark (tree_of c.args.source.now.lines c.args.side.line.0) c.in_err-bound.ensures in
    search rules

pub both-returns : goal.both-returns
both-returns t c =
    both_made (program_in c.args.source.now) c.args.builder.now c.bind_side.new.builder c.between.new.builder c.bind_side-2.new.builder c.leave.new.self c.bind.new.self c.bind-2.new.self c.args.goal.now c.bind_side.new.goal c.bind_side-2.new.goal
    c.args.sides.left.name c.args.sides.left.ty c.args.sides.left.mark (tree_of c.args.source.now.lines c.args.sides.left.line.0) c.args.sides.place c.in_ok-left.left c.in_ok-right.right c.args.sides.right.name c.args.sides.right.ty c.args.sides.right.mark (tree_of c.args.source.now.lines c.args.sides.right.line.0) c.depth-depth.result
    (record { left = c.in_ok-left.ensures; names = c.in_ok-between.ensures }) c.in_ok-right.ensures c.depth-depth.ensures.variables c.depth-depth.ensures.places c.in_ok-leave.ensures c.in_ok-bind.ensures c.in_ok-bind-2.ensures

pub both-returns-in_err-left : goal.both-returns-in_err-left
both-returns-in_err-left t c =
    let h = both_left (program_in c.args.source.now) c.in_err-left.field-0.0 (around_of c.args.builder.now c.args.goal.now) (passed_of c.args.builder.now) c.args.sides.left.name c.args.sides.left.ty c.args.sides.left.mark (tree_of c.args.source.now.lines c.args.sides.left.line.0) c.args.sides.place
    c.args.sides.right.name c.args.sides.right.ty c.args.sides.right.mark (tree_of c.args.source.now.lines c.args.sides.right.line.0) c.in_err-left.ensures in
    search rules

pub both-returns-in_err-between : goal.both-returns-in_err-between
both-returns-in_err-between t c =
    let h = both_between (program_in c.args.source.now) c.in_err-between.field-0.0 c.args.builder.now c.bind_side.new.builder c.args.goal.now c.bind_side.new.goal c.args.sides.left.name c.args.sides.left.ty c.args.sides.left.mark (tree_of c.args.source.now.lines c.args.sides.left.line.0) c.args.sides.place c.in_ok-left.left
    c.args.sides.right.name c.args.sides.right.ty c.args.sides.right.mark (tree_of c.args.source.now.lines c.args.sides.right.line.0) c.in_ok-left.ensures c.in_err-between.ensures in
    search rules

pub both-returns-in_err-right : goal.both-returns-in_err-right
both-returns-in_err-right t c =
    let h = both_right (program_in c.args.source.now) c.in_err-right.field-0.0 c.args.builder.now c.bind_side.new.builder c.between.new.builder c.args.goal.now c.bind_side.new.goal c.args.sides.left.name c.args.sides.left.ty c.args.sides.left.mark (tree_of c.args.source.now.lines c.args.sides.left.line.0) c.args.sides.place c.in_ok-left.left
    c.args.sides.right.name c.args.sides.right.ty c.args.sides.right.mark (tree_of c.args.source.now.lines c.args.sides.right.line.0) (record { left = c.in_ok-left.ensures; names = c.in_ok-between.ensures }) c.in_err-right.ensures in
    search rules

pub scalar_side-returns : goal.scalar_side-returns
scalar_side-returns t c =
    scalar_made (program_in c.args.source.now) c.args.builder.now c.new_variable.new.self c.line.new.builder c.args.goal.now c.args.side.name c.args.side.ty c.args.ty c.args.side.mark (tree_of c.args.source.now.lines c.args.side.line.0) c.in_ok-variable.variable c.in_ok-term.term c.in_ok-no_mark.ensures c.in_ok-variable.ensures.variable c.in_ok-variable.ensures.new c.in_ok-term.ensures

pub scalar_side-returns-in_err-no_mark : goal.scalar_side-returns-in_err-no_mark
scalar_side-returns-in_err-no_mark t c =
    let h = scalar_mark (program_in c.args.source.now) c.in_err-no_mark.field-0.0 (around_of c.args.builder.now c.args.goal.now) (passed_of c.args.builder.now) c.args.side.name c.args.side.ty c.args.ty c.args.side.mark (tree_of c.args.source.now.lines c.args.side.line.0) c.in_err-no_mark.ensures in
    search rules

pub scalar_side-returns-in_err-term : goal.scalar_side-returns-in_err-term
scalar_side-returns-in_err-term t c =
    let h = scalar_fails (program_in c.args.source.now) c.in_err-term.field-0.0 c.args.builder.now c.new_variable.new.self c.args.goal.now c.args.side.name c.args.side.ty c.args.ty c.args.side.mark (tree_of c.args.source.now.lines c.args.side.line.0) c.in_ok-no_mark.ensures c.in_ok-variable.ensures.new c.in_err-term.ensures in
    search rules

pub packed_side-returns : goal.packed_side-returns
packed_side-returns t c =
    packed_made (program_in c.args.source.now) c.args.builder.now c.new_variable.new.self c.use_place.new.self c.line.new.builder c.args.goal.now (record { destination = c.stand.new.self; at = c.args.goal.now.at }) c.args.side.name c.args.side.ty c.args.ty c.args.side.mark (tree_of c.args.source.now.lines c.args.side.line.0)
    c.in_ok-kind.kind c.in_ok-kind.at c.in_ok-variable.variable c.in_ok-term.term c.in_ok-kind.ensures c.in_ok-variable.ensures.variable c.in_ok-variable.ensures.new c.in_ok-use_place.ensures c.in_ok-term.ensures c.in_ok-stand.ensures refl

pub packed_side-returns-in_err-kind : goal.packed_side-returns-in_err-kind
packed_side-returns-in_err-kind t c =
    let h = packed_due (program_in c.args.source.now) c.in_err-kind.field-0.0 (around_of c.args.builder.now c.args.goal.now) (passed_of c.args.builder.now) c.args.side.name c.args.side.ty c.args.ty c.args.side.mark (tree_of c.args.source.now.lines c.args.side.line.0) c.in_err-kind.ensures in
    search rules

pub packed_side-returns-in_err-term : goal.packed_side-returns-in_err-term
packed_side-returns-in_err-term t c =
    let h = packed_fails (program_in c.args.source.now) c.in_err-term.field-0.0 c.args.builder.now c.new_variable.new.self c.use_place.new.self c.args.goal.now c.args.side.name c.args.side.ty c.args.ty c.args.side.mark (tree_of c.args.source.now.lines c.args.side.line.0)
    c.in_ok-kind.kind c.in_ok-kind.at c.in_ok-kind.ensures c.in_ok-variable.ensures.new c.in_ok-use_place.ensures c.in_err-term.ensures in
    search rules

pub if_else-returns : goal.if_else-returns
if_else-returns t c =
    if_made (program_in c.args.source.now) c.args.builder.now c.line.new.builder c.line-2.new.builder c.put.new.self c.args.goal.now c.in_ok-own.own c.args.value c.in_ok-condition.condition (tree_of c.args.source.now.lines c.args.first.0) (tree_of c.args.source.now.lines c.args.second.0) c.in_ok-then_part.then_part c.in_ok-else_part.else_part c.in_ok-term.term
    (c.in_ok-condition.ensures c.args.goal.now) c.in_ok-own.ensures.destination c.in_ok-own.ensures.at c.in_ok-then_part.ensures c.in_ok-else_part.ensures c.in_ok-term.ensures

pub if_else-returns-in_err-then_part : goal.if_else-returns-in_err-then_part
if_else-returns-in_err-then_part t c =
    let h = if_first (program_in c.args.source.now) c.in_err-then_part.field-0.0 c.args.builder.now c.args.goal.now c.in_ok-own.own c.args.value (tree_of c.args.source.now.lines c.args.first.0) (tree_of c.args.source.now.lines c.args.second.0) c.in_ok-own.ensures.destination c.in_ok-own.ensures.at c.in_err-then_part.ensures in
    search rules

pub if_else-returns-in_err-else_part : goal.if_else-returns-in_err-else_part
if_else-returns-in_err-else_part t c =
    let h = if_second (program_in c.args.source.now) c.in_err-else_part.field-0.0 c.args.builder.now c.line.new.builder c.args.goal.now c.in_ok-own.own c.args.value (tree_of c.args.source.now.lines c.args.first.0) (tree_of c.args.source.now.lines c.args.second.0) c.in_ok-then_part.then_part
    c.in_ok-own.ensures.destination c.in_ok-own.ensures.at c.in_ok-then_part.ensures c.in_err-else_part.ensures in
    search rules

pub arm_branch-returns : goal.arm_branch-returns
arm_branch-returns t c =
    branch_made (program_in c.args.source.now) c.args.builder.now c.bind_all.new.self c.line.new.builder c.leave.new.self c.args.goal.now c.in_ok-own.own c.args.arm.now.constructor c.constructor.result c.args.arm.now.variables.items c.in_ok-variables.variables (tree_of c.args.source.now.lines c.args.arm.now.line.0) c.in_ok-term.term c.depth-depth.result
    c.depth-depth.ensures.variables c.depth-depth.ensures.places c.constructor.ensures (subst (λ xs. BindsAll c.args.builder.now c.bind_all.new.self xs c.in_ok-variables.variables.items) c.deref.ensures.value c.in_ok-variables.ensures) c.in_ok-own.ensures.destination c.in_ok-own.ensures.at c.in_ok-term.ensures c.in_ok-leave.ensures

pub arm_branch-returns-in_err-term : goal.arm_branch-returns-in_err-term
arm_branch-returns-in_err-term t c =
    let h = branch_fails (program_in c.args.source.now) c.in_err-term.field-0.0 c.args.builder.now c.bind_all.new.self c.args.goal.now c.in_ok-own.own c.args.arm.now.constructor c.args.arm.now.variables.items c.in_ok-variables.variables.items (tree_of c.args.source.now.lines c.args.arm.now.line.0)
    (subst (λ xs. BindsAll c.args.builder.now c.bind_all.new.self xs c.in_ok-variables.variables.items) c.deref.ensures.value c.in_ok-variables.ensures) c.in_ok-own.ensures.destination c.in_ok-own.ensures.at c.in_err-term.ensures in
    search rules

pub case-returns : goal.case-returns
case-returns t c =
    case_made (program_in c.args.source.now) c.args.builder.now c.arms.new.builder c.put.new.self c.args.goal.now c.args.x c.variable-variable.result (arms_text (tree_of c.args.source.now.lines) c.args.cases.now) c.in_ok-branches.branches c.in_ok-term.term c.variable-variable.ensures c.in_ok-branches.ensures c.in_ok-term.ensures

pub case-returns-in_err-branches : goal.case-returns-in_err-branches
case-returns-in_err-branches t c =
    let h = case_fails (program_in c.args.source.now) c.in_err-branches.field-0.0 (around_of c.args.builder.now c.args.goal.now) (passed_of c.args.builder.now) c.args.x (arms_text (tree_of c.args.source.now.lines) c.args.cases.now) c.in_err-branches.ensures in
    search rules

pub arms-arms-init : goal.arms-arms-init
arms-arms-init t c = arms_begin (program_in c.args.source.now) (tree_of c.args.source.now.lines) c.args.below.0 c.args.builder.now c.args.goal.now c.args.cases.now c.new-branches.result.items c.requires.arms c.new-branches.ensures.items

pub arms-arms-preserved : goal.arms-arms-preserved
arms-arms-preserved t c =
    arms_next (program_in c.args.source.now) (tree_of c.args.source.now.lines) c.args.below.0 c.args.builder.now c.arms.builder c.arm_branch.new.builder c.args.goal.now c.args.cases.now c.arms.rest.now c.arm-item.result c.arms.branches.items c.push.new.self.items c.in_ok-branch.branch
    c.in-len1-up.len_at_least c.arm-item.is c.arms.invariant c.in_ok-branch.ensures c.in_ok-push.ensures.items

pub arms-arm_branch-requires : goal.arms-arm_branch-requires
arms-arm_branch-requires t c = (search rules, (c.requires.inside, arm_here c.args.below.0 c.arms.rest.now c.arm-item.result c.in-len1-up.len_at_least c.arm-item.is c.arms.invariant.below))

pub arms-returns : goal.arms-returns
arms-returns t c = arms_end (program_in c.args.source.now) (tree_of c.args.source.now.lines) c.args.below.0 c.args.builder.now c.arms.builder c.args.goal.now c.args.cases.now c.arms.rest.now c.arms.branches.items c.in_default.len_below c.arms.invariant

pub arms-returns-in_err-branch : goal.arms-returns-in_err-branch
arms-returns-in_err-branch t c =
    let h = arms_fail (program_in c.args.source.now) (tree_of c.args.source.now.lines) c.args.below.0 c.in_err-branch.field-0.0 c.args.builder.now c.arms.builder c.args.goal.now c.args.cases.now c.arms.rest.now c.arm-item.result c.arms.branches.items c.in-len1-up.len_at_least c.arm-item.is c.arms.invariant c.in_err-branch.ensures in
    search rules

pub step-returns-in-Operation : goal.step-returns-in-Operation
step-returns-in-Operation t c =
    let p = program_in c.args.source.now in
    let h = around_of c.args.builder.now c.args.goal.now in
    let v = passed_of c.args.builder.now in
    steps_for c.args.builder.now c.operation.new.builder c.args.goal.now c.operation.result (build_binding p (binding_from (tree_of c.args.source.now.lines) c.args.bound.now) h v)
    (build_binding p (PrimIn c.in-Operation.name c.in-Operation.ty c.in-Operation.left c.in-Operation.operator c.in-Operation.right) h v) (ap (λ (z : BindingNode). build_binding p (binding_from (tree_of c.args.source.now.lines) z) h v) c.in-Operation.is)
    (c.operation.ensures p c.in-Operation.ty c.args.goal.now)
