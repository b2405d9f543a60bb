use Rattle.std.proofs.Common.{rules, ◌-◌, [], ◌++◌, ◌∷◌, length, take, drop, refl, sym, ap, ◌∙◌, subst, subst₂}
use Rattle.gib_types.specs.Types.{forms_at}
use Rattle.gib_syntax.specs.declared.generic.GenericNode.TheVariants as n
use Rattle.gib_syntax.specs.GenericArena.{arguments_from, tree_of}
use Rattle.gib_syntax.specs.GenericTree.{GenericPar}
use Rattle.gib_mono.specs.Made.{Copies}
use Rattle.gib_mono.specs.Scenes.{forms}
use Rattle.gib_mono.specs.Sources.{globals_in}
use Rattle.gib_mono.proofs.Seeking.{if_ok}
use Rattle.gib_mono.proofs.Walking.{split_is, opened_node}
use Rattle.gib_mono.proofs.Making.{arguments_go, arm_made, arms_go, body_below, bound_there, call_made, make_made, case_arms, case_below, case_made, case_type, CaseArms, further_below, types_below, if_made, let_made, met_stays, par_made, right_met, sides_there, tuple_begin, tuple_go, tuple_made, operation_made}
use Rattle.gib_mono.proofs.copying.+copy.Goals as goal

pub copy_arguments-arguments-preserved : goal.copy_arguments-arguments-preserved
copy_arguments-arguments-preserved t c =
    arguments_go (globals_in c.args.source.now) (tree_of c.args.source.now.exprs) c.args.id.0 c.args.copier.now c.arguments.copier c.copy_expression.new.copier c.args.ids.now c.arguments.rest.now _ c.arguments.copied.items c.push.new.self.items _ c.in_ok-part.part
    (split_is c.arguments.rest.now _ c.in-len1-up.len_at_least) c.arguments.invariant c.in_ok-part.ensures c.in_ok-push.ensures.items

pub copy_arm-returns : goal.copy_arm-returns
copy_arm-returns t c =
    arm_made (globals_in c.args.source.now) c.args.copier.now c.bind_fields.new.self c.copy_expression.new.copier c.leave.new.self c.scope_len-outer.result
    (record { constructor = c.in_ok-constructor.constructor; variables = c.in_ok-variables.variables; body = c.in_ok-inner.inner.expr }) c.args.arm.now c.in_ok-inner.inner (tree_of c.args.source.now.exprs c.args.arm.now.body.0) c.deref.result.now (forms_at (forms c.args.copier.now.scene) c.args.types.now)
    c.scope_len-outer.ensures.known c.scope_len-outer.ensures.len c.deref.ensures.value c.in_ok-bind_fields.ensures c.in_ok-inner.ensures c.leave.ensures c.in_ok-constructor.ensures (c.in_ok-variables.ensures.items ∙ c.deref-2.ensures.value) refl

pub copy_arms-arms-preserved : goal.copy_arms-arms-preserved
copy_arms-arms-preserved t c =
    arms_go (globals_in c.args.source.now) (tree_of c.args.source.now.exprs) c.args.id.0 c.args.copier.now c.arms.copier c.copy_arm.new.copier c.args.types.now c.args.copied.now.items c.arms.copied.items c.push.new.self.items c.args.arms.now c.arms.rest.now _
    c.in_ok-part.part.arm c.arm-item.result c.in_ok-part.part.given (split_is c.arms.rest.now c.arm-item.result c.in-len1-up.len_at_least ∙ ap (λ a. a ∷ take (length c.arms.rest.now - 1) (drop 1 c.arms.rest.now)) (sym c.arm-item.is)) c.requires.types c.arms.invariant
    c.in_ok-part.ensures c.in_ok-push.ensures.items

pub copy_call-returns : goal.copy_call-returns
copy_call-returns t c =
    call_made (globals_in c.args.source.now) c.args.source.now.exprs.words c.words.result.now c.args.run c.args.copier.now c.meet_types.new.self c.copy_arguments.new.copier c.meet_result.new.self c.put.new.self c.in_ok-types.types.items c.deref.result.now c.deref-2.result.now c.args.f
    c.in_ok-name.name c.in_ok-arguments.arguments c.in_ok-expr.expr c.in_ok-given.given (arguments_from (tree_of c.args.source.now.exprs) c.args.ids.now) c.words.ensures c.in_ok-types.ensures c.deref.ensures.value c.in_ok-name.ensures c.in_ok-arguments.ensures c.deref-2.ensures.value c.in_ok-given.ensures
    c.in_ok-expr.ensures

pub copy_make-returns : goal.copy_make-returns
copy_make-returns t c =
    make_made (globals_in c.args.source.now) c.args.source.now.exprs.words c.words.result.now c.args.run c.args.copier.now c.meet_types.new.self c.copy_arguments.new.copier c.meet.new.self c.put.new.self c.in_ok-types.types.items c.deref.result.now c.args.k
    c.in_ok-name.name c.owner.result.0 c.in_ok-arguments.arguments c.in_ok-expr.expr c.in_ok-ty.ty (arguments_from (tree_of c.args.source.now.exprs) c.args.ids.now) c.words.ensures c.in_ok-types.ensures c.deref.ensures.value c.in_ok-name.ensures c.in_ok-arguments.ensures c.owner.ensures c.in_ok-ty.ensures
    c.in_ok-expr.ensures

pub copy_operation-returns : goal.copy_operation-returns
copy_operation-returns t c =
    operation_made (globals_in c.args.source.now) c.args.copier.now c.copy_expression.new.copier c.copy_expression-2.new.copier c.operator_type.new.copier c.put.new.self c.in_ok-expr.expr c.in_ok-first.first c.in_ok-second.second c.in_ok-ty.ty c.args.span c.args.operator
    (tree_of c.args.source.now.exprs c.args.left.0) (tree_of c.args.source.now.exprs c.args.right.0) c.in_ok-first.ensures c.in_ok-second.ensures c.in_ok-ty.ensures c.in_ok-expr.ensures

pub copy_if-returns : goal.copy_if-returns
copy_if-returns t c =
    if_made (globals_in c.args.source.now) c.args.copier.now c.copy_expression.new.copier c.copy_expression-2.new.copier c.copy_expression-3.new.copier c.put.new.self c.in_ok-expr.expr c.in_ok-first.first c.in_ok-second.second c.in_ok-third.third c.args.span
    (tree_of c.args.source.now.exprs c.args.condition.0) (tree_of c.args.source.now.exprs c.args.then_part.0) (tree_of c.args.source.now.exprs c.args.else_part.0) c.in_ok-first.ensures c.in_ok-second.ensures c.in_ok-third.ensures c.in_ok-expr.ensures

pub copy_let-let_node-requires : goal.copy_let-let_node-requires
copy_let-let_node-requires t c =
    (bound_there (globals_in c.args.source.now) c.args.copier.now c.copy_expression.new.copier c.bind_given.new.self c.copy_expression-2.new.copier c.leave.new.self c.scope_len-outer.result _ c.in_ok-copied.copied (tree_of c.args.source.now.exprs c.args.bound.0)
    c.in_ok-copied.ensures c.scope_len-outer.ensures.known c.scope_len-outer.ensures.len c.in_ok-bind_given.ensures c.in_ok-inner.ensures.stays c.leave.ensures).met

pub copy_let-put-requires : goal.copy_let-put-requires
copy_let-put-requires t c =
    c.in_ok-node.ensures.below (length c.leave.new.self.exprs)
    (bound_there (globals_in c.args.source.now) c.args.copier.now c.copy_expression.new.copier c.bind_given.new.self c.copy_expression-2.new.copier c.leave.new.self c.scope_len-outer.result _ c.in_ok-copied.copied (tree_of c.args.source.now.exprs c.args.bound.0)
    c.in_ok-copied.ensures c.scope_len-outer.ensures.known c.scope_len-outer.ensures.len c.in_ok-bind_given.ensures c.in_ok-inner.ensures.stays c.leave.ensures).inside
    (body_below (globals_in c.args.source.now) c.bind_given.new.self c.copy_expression-2.new.copier c.leave.new.self c.scope_len-outer.result c.in_ok-inner.inner (tree_of c.args.source.now.exprs c.args.body.0) c.in_ok-inner.ensures c.leave.ensures)

pub copy_let-returns : goal.copy_let-returns
copy_let-returns t c =
    let_made (globals_in c.args.source.now) c.args.copier.now c.copy_expression.new.copier c.bind_given.new.self c.copy_expression-2.new.copier c.leave.new.self c.put.new.self c.scope_len-outer.result c.in_ok-expr.expr c.in_ok-copied.copied c.in_ok-inner.inner c.in_ok-node.node c.args.span c.args.names.now
    (tree_of c.args.source.now.exprs c.args.bound.0) (tree_of c.args.source.now.exprs c.args.body.0) c.in_ok-copied.ensures c.scope_len-outer.ensures.known c.scope_len-outer.ensures.len c.in_ok-bind_given.ensures c.in_ok-inner.ensures c.leave.ensures c.in_ok-node.ensures.tree c.in_ok-expr.ensures

pub copy_let_par-bind_given-requires : goal.copy_let_par-bind_given-requires
copy_let_par-bind_given-requires t c = met_stays c.copy_expression.new.copier c.copy_expression-2.new.copier c.in_ok-first.first.given c.in_ok-second.ensures.stays c.in_ok-first.ensures.met

pub copy_let_par-bind_given-requires-2 : goal.copy_let_par-bind_given-requires-2
copy_let_par-bind_given-requires-2 t c = right_met (globals_in c.args.source.now) c.copy_expression.new.copier c.copy_expression-2.new.copier c.bind_given.new.self _ c.in_ok-second.second (tree_of c.args.source.now.exprs c.args.right.now.value.0) c.in_ok-second.ensures c.in_ok-bind_given.ensures

pub copy_let_par-par_node-requires : goal.copy_let_par-par_node-requires
copy_let_par-par_node-requires t c =
    let all = sides_there (globals_in c.args.source.now) c.args.copier.now c.copy_expression.new.copier c.copy_expression-2.new.copier c.bind_given.new.self c.bind_given-2.new.self c.copy_expression-3.new.copier c.leave.new.self c.scope_len-outer.result _ _ c.in_ok-first.first c.in_ok-second.second
    (tree_of c.args.source.now.exprs c.args.left.now.value.0) (tree_of c.args.source.now.exprs c.args.right.now.value.0) c.in_ok-first.ensures c.in_ok-second.ensures c.scope_len-outer.ensures.known c.scope_len-outer.ensures.len c.in_ok-bind_given.ensures c.in_ok-bind_given-2.ensures c.in_ok-inner.ensures.stays c.leave.ensures in
    record { left = all.left.met; right = all.right.met }

pub copy_let_par-put-requires : goal.copy_let_par-put-requires
copy_let_par-put-requires t c =
    let all = sides_there (globals_in c.args.source.now) c.args.copier.now c.copy_expression.new.copier c.copy_expression-2.new.copier c.bind_given.new.self c.bind_given-2.new.self c.copy_expression-3.new.copier c.leave.new.self c.scope_len-outer.result _ _ c.in_ok-first.first c.in_ok-second.second
    (tree_of c.args.source.now.exprs c.args.left.now.value.0) (tree_of c.args.source.now.exprs c.args.right.now.value.0) c.in_ok-first.ensures c.in_ok-second.ensures c.scope_len-outer.ensures.known c.scope_len-outer.ensures.len c.in_ok-bind_given.ensures c.in_ok-bind_given-2.ensures c.in_ok-inner.ensures.stays c.leave.ensures in
    c.in_ok-node.ensures.below (length c.leave.new.self.exprs) all.left.inside all.right.inside
    (body_below (globals_in c.args.source.now) c.bind_given-2.new.self c.copy_expression-3.new.copier c.leave.new.self c.scope_len-outer.result c.in_ok-inner.inner (tree_of c.args.source.now.exprs c.args.body.0) c.in_ok-inner.ensures c.leave.ensures)

pub copy_let_par-returns : goal.copy_let_par-returns
copy_let_par-returns t c =
    subst₂ (λ xs ys. Copies (globals_in c.args.source.now) c.args.copier.now c.put.new.self (record { expr = c.in_ok-expr.expr; given = c.in_ok-inner.inner.given }) (GenericPar c.args.span xs (tree_of c.args.source.now.exprs c.args.left.now.value.0) ys (tree_of c.args.source.now.exprs c.args.right.now.value.0) (tree_of c.args.source.now.exprs c.args.body.0)))
    c.as_slice-left_names.ensures c.as_slice-right_names.ensures
    (par_made (globals_in c.args.source.now) c.args.copier.now c.copy_expression.new.copier c.copy_expression-2.new.copier c.bind_given.new.self c.bind_given-2.new.self c.copy_expression-3.new.copier c.leave.new.self c.put.new.self c.scope_len-outer.result c.in_ok-expr.expr c.in_ok-first.first c.in_ok-second.second
    c.in_ok-inner.inner c.in_ok-node.node c.args.span c.as_slice-left_names.result.now c.as_slice-right_names.result.now (tree_of c.args.source.now.exprs c.args.left.now.value.0) (tree_of c.args.source.now.exprs c.args.right.now.value.0) (tree_of c.args.source.now.exprs c.args.body.0)
    c.in_ok-first.ensures c.in_ok-second.ensures c.scope_len-outer.ensures.known c.scope_len-outer.ensures.len c.in_ok-bind_given.ensures c.in_ok-bind_given-2.ensures c.in_ok-inner.ensures c.leave.ensures c.in_ok-node.ensures.tree c.in_ok-expr.ensures)

pub copy_tuple_parts-parts-init : goal.copy_tuple_parts-parts-init
copy_tuple_parts-parts-init t c =
    tuple_begin (globals_in c.args.source.now) (tree_of c.args.source.now.exprs) c.args.id.0 c.args.copier.now c.args.ids.now c.new-exprs.result.items c.new-types.result.items c.new-exprs.ensures.items c.new-types.ensures.items c.requires.below

pub copy_tuple_parts-parts-preserved : goal.copy_tuple_parts-parts-preserved
copy_tuple_parts-parts-preserved t c =
    tuple_go (globals_in c.args.source.now) (tree_of c.args.source.now.exprs) c.args.id.0 c.args.copier.now c.parts.copier c.copy_expression.new.copier c.one.new.self c.args.ids.now c.parts.rest.now _ c.parts.exprs.items c.push.new.self.items c.parts.types.items c.push-in-len1-up.new.self.items _ c.in_ok-copied.copied c.in_ok-ty.ty
    (split_is c.parts.rest.now _ c.in-len1-up.len_at_least) c.parts.invariant c.in_ok-copied.ensures c.in_ok-ty.ensures c.in_ok-push.ensures.items c.in_ok-push-2.ensures.items

pub copy_tuple-returns : goal.copy_tuple-returns
copy_tuple-returns t c =
    tuple_made (globals_in c.args.source.now) c.args.copier.now c.copy_tuple_parts.new.copier c.put_parts.new.self c.put.new.self c.in_ok-expr.expr c.in_ok-given.given c.in_ok-parts.parts c.in_ok-parts.forms.items c.deref.result.now c.deref-2.result.now c.in_ok-types.types c.args.span
    (arguments_from (tree_of c.args.source.now.exprs) c.args.ids.now) c.in_ok-parts.ensures c.deref.ensures.value c.in_ok-types.ensures c.deref-2.ensures.value c.in_ok-given.ensures c.in_ok-expr.ensures

pub copy_expression-returns-in-Variable : goal.copy_expression-returns-in-Variable
copy_expression-returns-in-Variable t c =
    if_ok _ _ c.copy_variable.result (λ r h. subst (λ e. Copies (globals_in c.args.source.now) c.args.copier.now c.copy_variable.new.copier r e)
    (sym (opened_node c.args.source.now c.args.id.0 c.node.result.now (n.Variable c.in-Variable.x) c.node.ensures c.in-Variable.is)) (h (globals_in c.args.source.now))) c.copy_variable.ensures

pub copy_expression-returns-in-Whole : goal.copy_expression-returns-in-Whole
copy_expression-returns-in-Whole t c =
    if_ok _ _ c.copy_whole.result (λ r h. subst (λ e. Copies (globals_in c.args.source.now) c.args.copier.now c.copy_whole.new.copier r e)
    (sym (opened_node c.args.source.now c.args.id.0 c.node.result.now (n.Whole c.in-Whole.span c.in-Whole.number) c.node.ensures c.in-Whole.is)) (h (globals_in c.args.source.now))) c.copy_whole.ensures

pub copy_expression-returns-in-Truth : goal.copy_expression-returns-in-Truth
copy_expression-returns-in-Truth t c =
    if_ok _ _ c.copy_truth.result (λ r h. subst (λ e. Copies (globals_in c.args.source.now) c.args.copier.now c.copy_truth.new.copier r e)
    (sym (opened_node c.args.source.now c.args.id.0 c.node.result.now (n.Truth c.in-Truth.span c.in-Truth.truth) c.node.ensures c.in-Truth.is)) (h (globals_in c.args.source.now))) c.copy_truth.ensures

abbrev all_arms : (t : _) (c : goal.copy_case-After-put-arg-1 t)
    → CaseArms (globals_in c.args.source.now) (tree_of c.args.source.now.exprs) c.args.copier.now c.copy_arms.new.copier c.args.variable c.copy_arms.new.copied.items c.first-item.result (take (length c.args.arms.now - 1) (drop 1 c.args.arms.now))
all_arms t c =
    case_arms (globals_in c.args.source.now) (tree_of c.args.source.now.exprs) c.args.copier.now c.meet_variable.new.self c.copy_arm.new.copier c.copy_arms.new.copier c.args.variable c.in_ok-of.of c.in_ok-types.types.items c.deref.result.now c.deref-2.result.now c.in_ok-part.part.arm
    c.first-item.result c.in_ok-part.part.given c.push.new.self.items c.copy_arms.new.copied.items (take (length c.args.arms.now - 1) (drop 1 c.args.arms.now)) c.in_ok-of.ensures c.in_ok-types.ensures.forms c.in_ok-types.ensures.below c.deref.ensures.value c.in_ok-part.ensures
    (c.in_ok-push.ensures.items ∙ ap (λ l. l ++ c.in_ok-part.part.arm ∷ []) c.new-copied.ensures.items) c.deref-2.ensures.value c.in_ok-copy_arms.ensures

pub copy_case-copy_arms-requires : goal.copy_case-copy_arms-requires
copy_case-copy_arms-requires t c = (
  search rules,
  (
    c.requires.inside,
    (
      further_below c.args.id.0 c.args.arms.now (take (length c.args.arms.now - 1) (drop 1 c.args.arms.now)) c.first-item.result
          (split_is c.args.arms.now c.first-item.result c.in-len1-up.len_at_least ∙ ap (λ a. a ∷ take (length c.args.arms.now - 1) (drop 1 c.args.arms.now)) (sym c.first-item.is)) c.requires.below,
      types_below c.meet_variable.new.self c.copy_arm.new.copier c.in_ok-types.types.items c.deref-2.result.now c.in_ok-part.ensures.stays c.deref-2.ensures.value c.in_ok-types.ensures.below,
    ),
  ),
)

pub copy_case-put-requires : goal.copy_case-put-requires
copy_case-put-requires t c =
    case_below (globals_in c.args.source.now) (tree_of c.args.source.now.exprs) c.args.copier.now c.copy_arms.new.copier c.args.variable c.copy_arms.new.copied.items c.first-item.result (take (length c.args.arms.now - 1) (drop 1 c.args.arms.now)) (all_arms t c)

pub copy_case-returns : goal.copy_case-returns
copy_case-returns t c =
    let f = tree_of c.args.source.now.exprs in
    let further = take (length c.args.arms.now - 1) (drop 1 c.args.arms.now) in
    let arms = case_arms (globals_in c.args.source.now) f c.args.copier.now c.meet_variable.new.self c.copy_arm.new.copier c.copy_arms.new.copier c.args.variable c.in_ok-of.of c.in_ok-types.types.items c.deref.result.now c.deref-2.result.now c.in_ok-part.part.arm
    c.first-item.result c.in_ok-part.part.given c.push.new.self.items c.copy_arms.new.copied.items further c.in_ok-of.ensures c.in_ok-types.ensures.forms c.in_ok-types.ensures.below c.deref.ensures.value c.in_ok-part.ensures
    (c.in_ok-push.ensures.items ∙ ap (λ l. l ++ c.in_ok-part.part.arm ∷ []) c.new-copied.ensures.items) c.deref-2.ensures.value c.in_ok-copy_arms.ensures in
    let ty = case_type (globals_in c.args.source.now) f c.args.copier.now c.meet_variable.new.self c.copy_arm.new.copier c.copy_arms.new.copier c.args.variable c.in_ok-of.of c.in_ok-types.types.items c.deref.result.now c.in_ok-part.part.arm c.first-item.result c.in_ok-part.part.given
    c.in_ok-of.ensures c.in_ok-types.ensures.forms c.deref.ensures.value c.in_ok-part.ensures c.in_ok-copy_arms.ensures.stays in
    case_made (globals_in c.args.source.now) f c.args.copier.now c.copy_arms.new.copier c.put.new.self c.args.span c.args.variable c.in_ok-expr.expr c.in_ok-part.part.given c.copy_arms.new.copied c.args.arms.now c.first-item.result further arms
    (split_is c.args.arms.now c.first-item.result c.in-len1-up.len_at_least ∙ ap (λ a. a ∷ further) (sym c.first-item.is)) ty.0 ty.1 c.in_ok-expr.ensures
