use Rattle.std.proofs.Common.{◌≡◌, ◌<◌, ◌-◌, List, [], ap, ap₂, sym, refl, ◌∙◌, subst, subst₂, Some, length, arith, rules}
use Rattle.std.proofs.lemmas.Result.{err_from_is_err_and}
use Rattle.gib_types.specs.Form.{Form, Forms, WholeForm, TruthForm}
use Rattle.gib_types.specs.Types.{form_at, forms_at, forms_of, AreBelow}
use Rattle.gib_check.specs.declared.counts.Counts.{Counts}
use Rattle.gib_check.specs.declared.rules.Part.{Part}
use Rattle.gib_check.specs.declared.uses.Use.{Use}
use Rattle.gib_check.specs.declared.walk.At.{At}
use Rattle.gib_check.specs.declared.walk.Sides.{Sides}
use Rattle.gib_check.specs.Answers.{IsFaultOf}
use Rattle.gib_check.specs.Faults.{place, bind_given, bind_sides, called, made, infer, infer_all}
use Rattle.gib_syntax.specs.Results.{Results, One, Several}
use Rattle.gib_syntax.specs.GenericTree.{GenericCall, GenericMake, GenericLet, GenericPar, GenericCase, GenericTuple}
use Rattle.gib_syntax.specs.GenericArena.{tree_of, layer, PartsBelow, arguments_from, case_from}
use Rattle.gib_syntax.specs.GenericTyping.{variable_numbers, opaque}
use Rattle.gib_syntax.specs.Words.{types_in}
use Rattle.gib_syntax.specs.Forms.{formed_all}
use Rattle.gib_syntax.specs.GenericParts.{function_in}
use Rattle.gib_check.specs.NameViews.{generic_globals, generic_tree, row_in}
use Rattle.gib_check.specs.Judging.{forms, in_scope, listed, forms_given, AreMet, part_in, parts_in, ArePartsMet}
use Rattle.gib_check.proofs.Opening.{call_opened, make_opened, tuple_opened, case_opened, gives_same}
use Rattle.gib_check.proofs.Growing.{below_more, advances_on, same_advance, keeps_advance, met_stays, parts_grow, parts_stay}
use Rattle.gib_check.proofs.Loops.{along, ArgumentsSoFar, ArmsSoFar, arguments_start, arguments_next, arguments_stops, arguments_fails, arms_start, arms_next, arms_stops, arms_fails}
use Rattle.gib_check.proofs.Walking as walking
use Rattle.gib_check.proofs.Answering as answering
use Rattle.gib_check.proofs.walk.+infer.Goals as goal

pub infer-returns-in-Whole-clause-read : goal.infer-returns-in-Whole-clause-read
infer-returns-in-Whole-clause-read t c =
    gives_same (λ ty. (forms_given c.literal.new.state ty, c.literal.new.state.counts)) c.literal.result _ _
    (ap (infer (generic_globals c.args.around.now.named.now) (variable_numbers c.args.around.now.variables.now) opaque c.args.standing (in_scope c.args.state.now) c.args.state.now.counts)
    (c.node-node.ensures.opens.0 ∙ ap (λ z. layer c.args.around.now.named.now.exprs.words (tree_of c.args.around.now.named.now.exprs) (Some z)) c.in-Whole.is))
    (c.literal.ensures.read [])

pub infer-returns-in-Truth-clause-read : goal.infer-returns-in-Truth-clause-read
infer-returns-in-Truth-clause-read t c =
    gives_same (λ ty. (forms_given c.literal-in-Truth.new.state ty, c.literal-in-Truth.new.state.counts)) c.literal-in-Truth.result _ _
    (ap (infer (generic_globals c.args.around.now.named.now) (variable_numbers c.args.around.now.variables.now) opaque c.args.standing (in_scope c.args.state.now) c.args.state.now.counts)
    (c.node-node.ensures.opens.0 ∙ ap (λ z. layer c.args.around.now.named.now.exprs.words (tree_of c.args.around.now.named.now.exprs) (Some z)) c.in-Truth.is))
    (c.literal-in-Truth.ensures.read [])

pub infer-returns-in-Call-clause-read : goal.infer-returns-in-Call-clause-read
infer-returns-in-Call-clause-read t c =
    gives_same (λ ty. (forms_given c.call.new.state ty, c.call.new.state.counts)) c.call.result _ _
    (call_opened (generic_globals c.args.around.now.named.now) (variable_numbers c.args.around.now.variables.now) (generic_tree c.args.around.now.named.now) c.args.standing (in_scope c.args.state.now) c.args.state.now.counts (generic_tree c.args.around.now.named.now c.args.id.0) c.new-called.result.name (types_in c.args.around.now.named.now.exprs.words c.new-called.result.types) c.deref.result.now c.in-Call.ids.items
    (c.node-node.ensures.opens.0 ∙ ap (λ z. layer c.args.around.now.named.now.exprs.words (tree_of c.args.around.now.named.now.exprs) (Some z)) c.in-Call.is
    ∙ ap (λ (u : Use). GenericCall u.name (types_in c.args.around.now.named.now.exprs.words u.types) (arguments_from (generic_tree c.args.around.now.named.now) c.in-Call.ids.items)) (sym c.new-called.ensures)) c.deref.ensures.value)
    c.call.ensures.read

pub infer-returns-in-Make-clause-read : goal.infer-returns-in-Make-clause-read
infer-returns-in-Make-clause-read t c =
    gives_same (λ ty. (forms_given c.make.new.state ty, c.make.new.state.counts)) c.make.result _ _
    (make_opened (generic_globals c.args.around.now.named.now) (variable_numbers c.args.around.now.variables.now) (generic_tree c.args.around.now.named.now) c.args.standing (in_scope c.args.state.now) c.args.state.now.counts (generic_tree c.args.around.now.named.now c.args.id.0) c.new-made.result.name (types_in c.args.around.now.named.now.exprs.words c.new-made.result.types) c.deref-in-Make.result.now c.in-Make.ids.items
    (c.node-node.ensures.opens.0 ∙ ap (λ z. layer c.args.around.now.named.now.exprs.words (tree_of c.args.around.now.named.now.exprs) (Some z)) c.in-Make.is
    ∙ ap (λ (u : Use). GenericMake u.name (types_in c.args.around.now.named.now.exprs.words u.types) (arguments_from (generic_tree c.args.around.now.named.now) c.in-Make.ids.items)) (sym c.new-made.ensures)) c.deref-in-Make.ensures.value)
    c.make.ensures.read

pub infer_choice-returns-in-Case-clause-read : goal.infer_choice-returns-in-Case-clause-read
infer_choice-returns-in-Case-clause-read t c =
    gives_same (λ ty. (forms_given c.case.new.state ty, c.case.new.state.counts)) c.case.result _ _
    (ap (λ (a : At). infer (generic_globals c.args.around.now.named.now) (variable_numbers c.args.around.now.variables.now) opaque a.standing (in_scope c.args.state.now) c.args.state.now.counts (generic_tree c.args.around.now.named.now c.args.id.0)) (sym c.new-at-in-Case.ensures)
    ∙ case_opened (generic_globals c.args.around.now.named.now) (variable_numbers c.args.around.now.variables.now) (generic_tree c.args.around.now.named.now) c.new-at-in-Case.result.standing (in_scope c.args.state.now) c.args.state.now.counts (generic_tree c.args.around.now.named.now c.args.id.0) c.new-at-in-Case.result.span c.in-Case.variable c.args.id.0 c.deref.result.now c.in-Case.arms.items
    (c.requires.opens.0 ∙ ap (λ z. layer c.args.around.now.named.now.exprs.words (tree_of c.args.around.now.named.now.exprs) (Some z)) c.in-Case.is
    ∙ ap (λ (a : At). case_from (generic_tree c.args.around.now.named.now) c.in-Case.arms.items (GenericCase a.span c.in-Case.variable)) (sym c.new-at-in-Case.ensures)) (subst (λ z. PartsBelow z c.args.id.0) c.in-Case.is c.requires.opens.1) c.deref.ensures.value)
    c.case.ensures.read

pub infer-returns-in-Tuple-clause-read : goal.infer-returns-in-Tuple-clause-read
infer-returns-in-Tuple-clause-read t c =
    gives_same (λ ty. (forms_given c.tuple.new.state ty, c.tuple.new.state.counts)) c.tuple.result _ _
    (ap (λ (a : At). infer (generic_globals c.args.around.now.named.now) (variable_numbers c.args.around.now.variables.now) opaque a.standing (in_scope c.args.state.now) c.args.state.now.counts (generic_tree c.args.around.now.named.now c.args.id.0)) (sym c.new-at-in-Tuple.ensures)
    ∙ tuple_opened (generic_globals c.args.around.now.named.now) (variable_numbers c.args.around.now.variables.now) (generic_tree c.args.around.now.named.now) c.new-at-in-Tuple.result.standing (in_scope c.args.state.now) c.args.state.now.counts (generic_tree c.args.around.now.named.now c.args.id.0) c.new-at-in-Tuple.result.span c.deref-in-Tuple.result.now c.in-Tuple.parts.items
    (c.node-node.ensures.opens.0 ∙ ap (λ z. layer c.args.around.now.named.now.exprs.words (tree_of c.args.around.now.named.now.exprs) (Some z)) c.in-Tuple.is
    ∙ ap (λ (a : At). GenericTuple a.span (arguments_from (generic_tree c.args.around.now.named.now) c.in-Tuple.parts.items)) (sym c.new-at-in-Tuple.ensures)) c.deref-in-Tuple.ensures.value)
    c.tuple.ensures.read

pub arguments-arguments-init : goal.arguments-arguments-init
arguments-arguments-init t c =
    let e : c.new-parts.result.items ≡ [] = search rules in
    subst (λ (ps : List Part). ArgumentsSoFar c.args.around.now.named.now c.args.around.now.variables.now c.args.id.0 c.args.state.now c.args.state.now c.args.ids.now c.args.ids.now ps) (sym e) (arguments_start c.args.around.now.named.now c.args.around.now.variables.now c.args.id.0 c.args.state.now c.args.ids.now c.requires.below)

pub arguments-returns-in_err-ty-clause-read : goal.arguments-returns-in_err-ty-clause-read
arguments-returns-in_err-ty-clause-read t c =
    let p = err_from_is_err_and c.from_residual.result c.from_residual.ensures.1 in
    rw (p.1, p.2) (arguments_fails c.args.around.now.named.now c.args.around.now.variables.now c.args.id.0 c.args.state.now c.arguments.state c.args.ids.now c.arguments.rest.now _ c.arguments.parts.items c.in_err-ty.field-0.0 c.in-len1-up.len_at_least c.arguments.invariant c.in_err-ty.ensures.read)

pub arguments-arguments-preserved : goal.arguments-arguments-preserved
arguments-arguments-preserved t c =
    arguments_next c.args.around.now.named.now c.args.around.now.variables.now c.args.id.0 c.args.state.now c.arguments.state c.infer.new.state c.args.ids.now c.arguments.rest.now _ c.arguments.parts.items c.push.new.self.items c.in_ok-ty.ty c.part.result c.in-len1-up.len_at_least c.arguments.invariant c.in_ok-ty.ensures.read c.in_ok-ty.ensures.kept c.in_ok-ty.ensures.met c.part.ensures c.in_ok-push.ensures.items

pub arguments-returns-clause-read : goal.arguments-returns-clause-read
arguments-returns-clause-read t c =
    arguments_stops c.args.around.now.named.now c.args.around.now.variables.now c.args.id.0 c.args.state.now c.arguments.state c.args.ids.now c.arguments.rest.now c.arguments.parts.items c.in_default.len_below c.arguments.invariant

pub arm_results-arms-init : goal.arm_results-arms-init
arm_results-arms-init t c =
    let e : c.new-parts.result.items ≡ [] = search rules in
    subst (λ (ps : List Part). ArmsSoFar c.args.around.now.named.now c.args.around.now.variables.now c.args.at.standing c.args.at.id.0 c.args.state.now c.args.state.now c.args.types.now c.args.arms.now c.args.arms.now ps) (sym e) (arms_start c.args.around.now.named.now c.args.around.now.variables.now c.args.at.standing c.args.at.id.0 c.args.state.now c.args.types.now c.args.arms.now c.requires.below c.requires.types)

pub arm_results-returns-in_err-ty-clause-read : goal.arm_results-returns-in_err-ty-clause-read
arm_results-returns-in_err-ty-clause-read t c =
    let p = err_from_is_err_and c.from_residual.result c.from_residual.ensures.1 in
    rw (p.1, p.2) (arms_fails c.args.around.now.named.now c.args.around.now.variables.now c.args.at.standing c.args.at.id.0 c.args.state.now c.arms.state c.args.types.now c.args.arms.now c.arms.rest.now c.first-item.result c.arms.parts.items c.in_err-ty.field-0.0 c.in-len1-up.len_at_least c.first-item.is c.arms.invariant c.in_err-ty.ensures.read)

pub arm_results-arms-preserved : goal.arm_results-arms-preserved
arm_results-arms-preserved t c =
    arms_next c.args.around.now.named.now c.args.around.now.variables.now c.args.at.standing c.args.at.id.0 c.args.state.now c.arms.state c.arm_result.new.state c.args.types.now c.args.arms.now c.arms.rest.now c.first-item.result c.arms.parts.items c.push.new.self.items c.in_ok-ty.ty c.part.result c.in-len1-up.len_at_least c.first-item.is c.arms.invariant c.in_ok-ty.ensures.read c.in_ok-ty.ensures.kept c.in_ok-ty.ensures.met c.part.ensures c.in_ok-push.ensures.items

pub arm_results-returns-clause-read : goal.arm_results-returns-clause-read
arm_results-returns-clause-read t c =
    arms_stops c.args.around.now.named.now c.args.around.now.variables.now c.args.at.standing c.args.at.id.0 c.args.state.now c.arms.state c.args.types.now c.args.arms.now c.arms.rest.now c.arms.parts.items c.in_default.len_below c.arms.invariant

pub operation-put-requires : goal.operation-put-requires
operation-put-requires t c = answering.closed_below (length c.infer-2.new.state.types) c.result_node.result c.result_node.ensures.closed

pub operation-returns-in_err-wanted_whole-clause-read : goal.operation-returns-in_err-wanted_whole-clause-read
operation-returns-in_err-wanted_whole-clause-read t c =
    let p = err_from_is_err_and c.from_residual-in_err-wanted_whole.result c.from_residual-in_err-wanted_whole.ensures.1 in
    rw (p.1, p.2) (walking.op_left c.args.around.now.named.now c.args.around.now.variables.now c.args.at.standing c.in_err-wanted_whole.field-0.0 c.args.state.now c.one_more.new.self c.infer.new.state c.infer-2.new.state c.args.at.span c.args.operator (generic_tree c.args.around.now.named.now c.args.sides.left.0) (generic_tree c.args.around.now.named.now c.args.sides.right.0) c.in_ok-left_ty.left_ty c.in_ok-right_ty.right_ty (record { read = c.in_ok-one_more.ensures.counts; kept = c.one_more.ensures.scope; types = c.one_more.ensures.types }) (record { read = c.in_ok-left_ty.ensures.read; kept = c.in_ok-left_ty.ensures.kept; met = c.in_ok-left_ty.ensures.met }) (record { read = c.in_ok-right_ty.ensures.read; kept = c.in_ok-right_ty.ensures.kept; met = c.in_ok-right_ty.ensures.met })
    (walking.seen (λ z. IsFaultOf c.in_err-wanted_whole.field-0.0 (Rattle.gib_check.specs.Faults.wanted (One WholeForm) z)) c.infer-2.new.state c.part.result (record { ty = c.in_ok-left_ty.left_ty; place = place (generic_tree c.args.around.now.named.now c.args.sides.left.0) }) c.part.ensures c.in_err-wanted_whole.ensures))

pub operation-returns-in_err-wanted_whole-2-clause-read : goal.operation-returns-in_err-wanted_whole-2-clause-read
operation-returns-in_err-wanted_whole-2-clause-read t c =
    let p = err_from_is_err_and c.from_residual-in_err-wanted_whole-2.result c.from_residual-in_err-wanted_whole-2.ensures.1 in
    rw (p.1, p.2) (walking.op_right c.args.around.now.named.now c.args.around.now.variables.now c.args.at.standing c.in_err-wanted_whole-2.field-0.0 c.args.state.now c.one_more.new.self c.infer.new.state c.infer-2.new.state c.args.at.span c.args.operator (generic_tree c.args.around.now.named.now c.args.sides.left.0) (generic_tree c.args.around.now.named.now c.args.sides.right.0) c.in_ok-left_ty.left_ty c.in_ok-right_ty.right_ty (record { read = c.in_ok-one_more.ensures.counts; kept = c.one_more.ensures.scope; types = c.one_more.ensures.types }) (record { read = c.in_ok-left_ty.ensures.read; kept = c.in_ok-left_ty.ensures.kept; met = c.in_ok-left_ty.ensures.met }) (record { read = c.in_ok-right_ty.ensures.read; kept = c.in_ok-right_ty.ensures.kept; met = c.in_ok-right_ty.ensures.met })
    (walking.seen (λ z. Rattle.gib_check.specs.Faults.wanted (One WholeForm) z ≡ Rattle.std.proofs.Common.Ok (tt {0})) c.infer-2.new.state c.part.result (record { ty = c.in_ok-left_ty.left_ty; place = place (generic_tree c.args.around.now.named.now c.args.sides.left.0) }) c.part.ensures c.in_ok-wanted_whole.ensures)
    (walking.seen (λ z. IsFaultOf c.in_err-wanted_whole-2.field-0.0 (Rattle.gib_check.specs.Faults.wanted (One WholeForm) z)) c.infer-2.new.state c.part-2.result (record { ty = c.in_ok-right_ty.right_ty; place = place (generic_tree c.args.around.now.named.now c.args.sides.right.0) }) c.part-2.ensures c.in_err-wanted_whole-2.ensures))

pub operation-returns-clause-read : goal.operation-returns-clause-read
operation-returns-clause-read t c =
    walking.op_ok c.args.around.now.named.now c.args.around.now.variables.now c.args.at.standing c.args.state.now c.one_more.new.self c.infer.new.state c.infer-2.new.state c.args.at.span c.args.operator (generic_tree c.args.around.now.named.now c.args.sides.left.0) (generic_tree c.args.around.now.named.now c.args.sides.right.0) c.in_ok-left_ty.left_ty c.in_ok-right_ty.right_ty (record { read = c.in_ok-one_more.ensures.counts; kept = c.one_more.ensures.scope; types = c.one_more.ensures.types }) (record { read = c.in_ok-left_ty.ensures.read; kept = c.in_ok-left_ty.ensures.kept; met = c.in_ok-left_ty.ensures.met }) (record { read = c.in_ok-right_ty.ensures.read; kept = c.in_ok-right_ty.ensures.kept; met = c.in_ok-right_ty.ensures.met })
    (walking.seen (λ z. Rattle.gib_check.specs.Faults.wanted (One WholeForm) z ≡ Rattle.std.proofs.Common.Ok (tt {0})) c.infer-2.new.state c.part.result (record { ty = c.in_ok-left_ty.left_ty; place = place (generic_tree c.args.around.now.named.now c.args.sides.left.0) }) c.part.ensures c.in_ok-wanted_whole.ensures)
    (walking.seen (λ z. Rattle.gib_check.specs.Faults.wanted (One WholeForm) z ≡ Rattle.std.proofs.Common.Ok (tt {0})) c.infer-2.new.state c.part-2.result (record { ty = c.in_ok-right_ty.right_ty; place = place (generic_tree c.args.around.now.named.now c.args.sides.right.0) }) c.part-2.ensures c.in_ok-wanted_whole-2.ensures)
    ∙ ap (λ (f : Form). Rattle.std.proofs.Common.Ok (One f, c.infer-2.new.state.counts)) (sym (c.in_ok-id.ensures.met.form ∙ c.result_node.ensures.form (forms c.infer-2.new.state)))
    ∙ ap (λ (n : Rattle.gib_check.specs.declared.counts.Counts.Counts). Rattle.std.proofs.Common.Ok (One (form_at (forms c.put.new.self) c.in_ok-id.id.0), n)) (sym c.put.ensures.keeps.counts)

pub if_else-returns-in_err-wanted_truth-clause-read : goal.if_else-returns-in_err-wanted_truth-clause-read
if_else-returns-in_err-wanted_truth-clause-read t c =
    let p = err_from_is_err_and c.from_residual-in_err-wanted_truth.result c.from_residual-in_err-wanted_truth.ensures.1 in
    rw (p.1, p.2) (walking.if_condition c.args.around.now.named.now c.args.around.now.variables.now c.args.at.standing c.in_err-wanted_truth.field-0.0 c.args.state.now c.one_more.new.self c.infer.new.state c.infer-2.new.state c.infer-3.new.state c.args.at.span (generic_tree c.args.around.now.named.now c.args.condition.0) (generic_tree c.args.around.now.named.now c.args.branches.left.0) (generic_tree c.args.around.now.named.now c.args.branches.right.0) c.in_ok-condition_ty.condition_ty c.in_ok-then_ty.then_ty c.in_ok-else_ty.else_ty (record { read = c.in_ok-one_more.ensures.counts; kept = c.one_more.ensures.scope; types = c.one_more.ensures.types }) (record { read = c.in_ok-condition_ty.ensures.read; kept = c.in_ok-condition_ty.ensures.kept; met = c.in_ok-condition_ty.ensures.met }) (record { read = c.in_ok-then_ty.ensures.read; kept = c.in_ok-then_ty.ensures.kept; met = c.in_ok-then_ty.ensures.met }) (record { read = c.in_ok-else_ty.ensures.read; kept = c.in_ok-else_ty.ensures.kept; met = c.in_ok-else_ty.ensures.met })
    (walking.seen (λ z. IsFaultOf c.in_err-wanted_truth.field-0.0 (Rattle.gib_check.specs.Faults.wanted (One TruthForm) z)) c.infer-3.new.state c.part.result (record { ty = c.in_ok-condition_ty.condition_ty; place = place (generic_tree c.args.around.now.named.now c.args.condition.0) }) c.part.ensures c.in_err-wanted_truth.ensures))

pub if_else-returns-in_err-wanted-clause-read : goal.if_else-returns-in_err-wanted-clause-read
if_else-returns-in_err-wanted-clause-read t c =
    let p = err_from_is_err_and c.from_residual-in_err-wanted.result c.from_residual-in_err-wanted.ensures.1 in
    rw (p.1, p.2) (walking.if_branches c.args.around.now.named.now c.args.around.now.variables.now c.args.at.standing c.in_err-wanted.field-0.0 c.args.state.now c.one_more.new.self c.infer.new.state c.infer-2.new.state c.infer-3.new.state c.args.at.span (generic_tree c.args.around.now.named.now c.args.condition.0) (generic_tree c.args.around.now.named.now c.args.branches.left.0) (generic_tree c.args.around.now.named.now c.args.branches.right.0) c.in_ok-condition_ty.condition_ty c.in_ok-then_ty.then_ty c.in_ok-else_ty.else_ty (record { read = c.in_ok-one_more.ensures.counts; kept = c.one_more.ensures.scope; types = c.one_more.ensures.types }) (record { read = c.in_ok-condition_ty.ensures.read; kept = c.in_ok-condition_ty.ensures.kept; met = c.in_ok-condition_ty.ensures.met }) (record { read = c.in_ok-then_ty.ensures.read; kept = c.in_ok-then_ty.ensures.kept; met = c.in_ok-then_ty.ensures.met }) (record { read = c.in_ok-else_ty.ensures.read; kept = c.in_ok-else_ty.ensures.kept; met = c.in_ok-else_ty.ensures.met })
    (walking.seen (λ z. Rattle.gib_check.specs.Faults.wanted (One TruthForm) z ≡ Rattle.std.proofs.Common.Ok (tt {0})) c.infer-3.new.state c.part.result (record { ty = c.in_ok-condition_ty.condition_ty; place = place (generic_tree c.args.around.now.named.now c.args.condition.0) }) c.part.ensures c.in_ok-wanted_truth.ensures)
    (subst (λ z. IsFaultOf c.in_err-wanted.field-0.0 (Rattle.gib_check.specs.Faults.wanted (forms_given c.infer-3.new.state c.in_ok-then_ty.then_ty) (part_in c.infer-3.new.state z))) c.part-2.ensures c.in_err-wanted.ensures))

pub if_else-returns-clause-read : goal.if_else-returns-clause-read
if_else-returns-clause-read t c =
    walking.if_ok c.args.around.now.named.now c.args.around.now.variables.now c.args.at.standing c.args.state.now c.one_more.new.self c.infer.new.state c.infer-2.new.state c.infer-3.new.state c.args.at.span (generic_tree c.args.around.now.named.now c.args.condition.0) (generic_tree c.args.around.now.named.now c.args.branches.left.0) (generic_tree c.args.around.now.named.now c.args.branches.right.0) c.in_ok-condition_ty.condition_ty c.in_ok-then_ty.then_ty c.in_ok-else_ty.else_ty (record { read = c.in_ok-one_more.ensures.counts; kept = c.one_more.ensures.scope; types = c.one_more.ensures.types }) (record { read = c.in_ok-condition_ty.ensures.read; kept = c.in_ok-condition_ty.ensures.kept; met = c.in_ok-condition_ty.ensures.met }) (record { read = c.in_ok-then_ty.ensures.read; kept = c.in_ok-then_ty.ensures.kept; met = c.in_ok-then_ty.ensures.met }) (record { read = c.in_ok-else_ty.ensures.read; kept = c.in_ok-else_ty.ensures.kept; met = c.in_ok-else_ty.ensures.met })
    (walking.seen (λ z. Rattle.gib_check.specs.Faults.wanted (One TruthForm) z ≡ Rattle.std.proofs.Common.Ok (tt {0})) c.infer-3.new.state c.part.result (record { ty = c.in_ok-condition_ty.condition_ty; place = place (generic_tree c.args.around.now.named.now c.args.condition.0) }) c.part.ensures c.in_ok-wanted_truth.ensures)
    (subst (λ z. Rattle.gib_check.specs.Faults.wanted (forms_given c.infer-3.new.state c.in_ok-then_ty.then_ty) (part_in c.infer-3.new.state z) ≡ Rattle.std.proofs.Common.Ok (tt {0})) c.part-2.ensures c.in_ok-wanted.ensures)

pub operation-wanted_whole-requires : goal.operation-wanted_whole-requires
operation-wanted_whole-requires t c =
    subst (λ (q : Part). AreMet c.infer-2.new.state q.ty) (sym c.part.ensures) (met_stays c.infer.new.state c.infer-2.new.state c.in_ok-left_ty.left_ty c.in_ok-right_ty.ensures.met.advances c.in_ok-left_ty.ensures.met.here)

pub if_else-wanted_truth-requires : goal.if_else-wanted_truth-requires
if_else-wanted_truth-requires t c =
    subst (λ (q : Part). AreMet c.infer-3.new.state q.ty) (sym c.part.ensures)
    (met_stays c.infer-2.new.state c.infer-3.new.state c.in_ok-condition_ty.condition_ty c.in_ok-else_ty.ensures.met.advances (met_stays c.infer.new.state c.infer-2.new.state c.in_ok-condition_ty.condition_ty c.in_ok-then_ty.ensures.met.advances c.in_ok-condition_ty.ensures.met.here))

pub if_else-wanted-requires-clause-due : goal.if_else-wanted-requires-clause-due
if_else-wanted-requires-clause-due t c =
    met_stays c.infer-2.new.state c.infer-3.new.state c.in_ok-then_ty.then_ty c.in_ok-else_ty.ensures.met.advances c.in_ok-then_ty.ensures.met.here

pub tuple-returns-in_err-may_stand-clause-read : goal.tuple-returns-in_err-may_stand-clause-read
tuple-returns-in_err-may_stand-clause-read t c =
    let p = err_from_is_err_and c.from_residual-in_err-may_stand.result c.from_residual-in_err-may_stand.ensures.1 in
    rw (p.1, p.2) (walking.tuple_stands c.args.around.now.named.now c.args.around.now.variables.now c.args.at.standing c.args.at.span (length c.args.ids.now) (λ n. Rattle.gib_check.specs.Faults.infer_all (generic_globals c.args.around.now.named.now) (variable_numbers c.args.around.now.variables.now) opaque (in_scope c.args.state.now) n (Rattle.gib_syntax.specs.GenericArena.arguments_from (generic_tree c.args.around.now.named.now) c.args.ids.now)) c.in_err-may_stand.field-0.0 c.args.state.now c.one_more.new.self (record { read = c.in_ok-one_more.ensures.counts; kept = c.one_more.ensures.scope; types = c.one_more.ensures.types }) c.in_err-may_stand.ensures)

pub tuple-returns-in_err-parts-clause-read : goal.tuple-returns-in_err-parts-clause-read
tuple-returns-in_err-parts-clause-read t c =
    let p = err_from_is_err_and c.from_residual-in_err-parts.result c.from_residual-in_err-parts.ensures.1 in
    rw (p.1, p.2) (walking.tuple_parts c.args.around.now.named.now c.args.around.now.variables.now c.args.at.standing c.args.at.span (length c.args.ids.now) (λ n. Rattle.gib_check.specs.Faults.infer_all (generic_globals c.args.around.now.named.now) (variable_numbers c.args.around.now.variables.now) opaque (in_scope c.args.state.now) n (Rattle.gib_syntax.specs.GenericArena.arguments_from (generic_tree c.args.around.now.named.now) c.args.ids.now)) c.in_err-parts.field-0.0 c.args.state.now c.one_more.new.self (record { read = c.in_ok-one_more.ensures.counts; kept = c.one_more.ensures.scope; types = c.one_more.ensures.types }) c.in_ok-may_stand.ensures (along c.in_err-parts.field-0.0 _ _ (answering.results_same c.args.around.now.named.now c.args.around.now.variables.now c.args.state.now c.one_more.new.self c.args.ids.now c.one_more.ensures.scope) c.in_err-parts.ensures.read))

pub tuple-returns-in_err-types-clause-read : goal.tuple-returns-in_err-types-clause-read
tuple-returns-in_err-types-clause-read t c =
    let p = err_from_is_err_and c.from_residual-in_err-types.result c.from_residual-in_err-types.ensures.1 in
    rw (p.1, p.2) (walking.tuple_single c.args.around.now.named.now c.args.around.now.variables.now c.args.at.standing c.args.at.span (length c.args.ids.now) (λ n. Rattle.gib_check.specs.Faults.infer_all (generic_globals c.args.around.now.named.now) (variable_numbers c.args.around.now.variables.now) opaque (in_scope c.args.state.now) n (Rattle.gib_syntax.specs.GenericArena.arguments_from (generic_tree c.args.around.now.named.now) c.args.ids.now)) c.in_err-types.field-0.0 c.args.state.now c.one_more.new.self (parts_in c.arguments.new.state c.in_ok-parts.parts.items) c.arguments.new.state.counts (record { read = c.in_ok-one_more.ensures.counts; kept = c.one_more.ensures.scope; types = c.one_more.ensures.types }) c.in_ok-may_stand.ensures ((answering.results_same c.args.around.now.named.now c.args.around.now.variables.now c.args.state.now c.one_more.new.self c.args.ids.now c.one_more.ensures.scope) ∙ c.in_ok-parts.ensures.read) (subst (λ ps. IsFaultOf c.in_err-types.field-0.0 (Rattle.gib_check.specs.Faults.all_single (parts_in c.arguments.new.state ps))) c.deref.ensures.value c.in_err-types.ensures.types))

pub tuple-returns-clause-read : goal.tuple-returns-clause-read
tuple-returns-clause-read t c =
    walking.tuple_ok c.args.around.now.named.now c.args.around.now.variables.now c.args.at.standing c.args.at.span (length c.args.ids.now) (λ n. Rattle.gib_check.specs.Faults.infer_all (generic_globals c.args.around.now.named.now) (variable_numbers c.args.around.now.variables.now) opaque (in_scope c.args.state.now) n (Rattle.gib_syntax.specs.GenericArena.arguments_from (generic_tree c.args.around.now.named.now) c.args.ids.now)) c.args.state.now c.one_more.new.self (parts_in c.arguments.new.state c.in_ok-parts.parts.items) c.arguments.new.state.counts (listed (forms c.arguments.new.state) c.in_ok-types.types.items) (record { read = c.in_ok-one_more.ensures.counts; kept = c.one_more.ensures.scope; types = c.one_more.ensures.types }) c.in_ok-may_stand.ensures ((answering.results_same c.args.around.now.named.now c.args.around.now.variables.now c.args.state.now c.one_more.new.self c.args.ids.now c.one_more.ensures.scope) ∙ c.in_ok-parts.ensures.read) (subst (λ ps. Rattle.gib_check.specs.Faults.all_single (parts_in c.arguments.new.state ps) ≡ Rattle.std.proofs.Common.Ok (listed (forms c.arguments.new.state) c.in_ok-types.types.items)) c.deref.ensures.value c.in_ok-types.ensures.types)
    ∙ ap₂ answering.answer_of (sym (c.in_ok-given.ensures.forms ∙ ap (λ is. Several (listed (forms c.arguments.new.state) is)) c.deref-2.ensures.value)) (sym c.put_parts.ensures.counts)

pub tuple-returns-clause-kept : goal.tuple-returns-clause-kept
tuple-returns-clause-kept t c =
    c.put_parts.ensures.scope ∙ c.in_ok-parts.ensures.kept ∙ c.one_more.ensures.scope

pub tuple-returns-clause-met : goal.tuple-returns-clause-met
tuple-returns-clause-met t c =
    record { advances = (advances_on c.args.state.now c.arguments.new.state c.put_parts.new.self (advances_on c.args.state.now c.one_more.new.self c.arguments.new.state (same_advance c.args.state.now c.one_more.new.self c.one_more.ensures.types c.one_more.ensures.parts) c.in_ok-parts.ensures.met.advances) c.in_ok-given.ensures.met.advances); here = c.in_ok-given.ensures.met.here }

pub tuple-all_single-requires : goal.tuple-all_single-requires
tuple-all_single-requires t c =
    subst (ArePartsMet c.arguments.new.state) (sym c.deref.ensures.value) c.in_ok-parts.ensures.met.here

pub tuple-put_parts-requires : goal.tuple-put_parts-requires
tuple-put_parts-requires t c =
    subst (AreBelow (length c.arguments.new.state.types)) (sym c.deref-2.ensures.value) c.in_ok-types.ensures.below

pub call-returns-in_err-function-clause-read : goal.call-returns-in_err-function-clause-read
call-returns-in_err-function-clause-read t c =
    let p = err_from_is_err_and c.from_residual-in_err-function.result c.from_residual-in_err-function.ensures.1 in
    rw (p.1, p.2) (walking.call_function c.args.around.now.named.now c.args.around.now.variables.now c.args.called.name (types_in c.args.around.now.named.now.exprs.words c.args.called.types) (length c.args.ids.now) (λ n. infer_all (generic_globals c.args.around.now.named.now) (variable_numbers c.args.around.now.variables.now) opaque (in_scope c.args.state.now) n (arguments_from (generic_tree c.args.around.now.named.now) c.args.ids.now)) c.in_err-function.field-0.0 c.args.state.now c.one_more.new.self (record { read = c.in_ok-one_more.ensures.counts; kept = c.one_more.ensures.scope; types = c.one_more.ensures.types }) c.in_err-function.ensures)

pub call-returns-in_err-types-clause-read : goal.call-returns-in_err-types-clause-read
call-returns-in_err-types-clause-read t c =
    let p = err_from_is_err_and c.from_residual-in_err-types.result c.from_residual-in_err-types.ensures.1 in
    rw (p.1, p.2) (walking.use_before c.args.around.now.named.now c.args.around.now.variables.now (walking.call_of c.args.around.now.named.now c.args.around.now.variables.now c.args.called.name (types_in c.args.around.now.named.now.exprs.words c.args.called.types) (length c.args.ids.now) (λ n. infer_all (generic_globals c.args.around.now.named.now) (variable_numbers c.args.around.now.variables.now) opaque (in_scope c.args.state.now) n (arguments_from (generic_tree c.args.around.now.named.now) c.args.ids.now)) c.args.state.now.counts) (walking.fits c.args.around.now.named.now c.args.around.now.variables.now c.args.called.name (types_in c.args.around.now.named.now.exprs.words c.args.called.types) (length c.args.ids.now) (λ n. infer_all (generic_globals c.args.around.now.named.now) (variable_numbers c.args.around.now.variables.now) opaque (in_scope c.args.state.now) n (arguments_from (generic_tree c.args.around.now.named.now) c.args.ids.now)) (length (function_in c.args.around.now.named.now.exprs c.in_ok-function.function.now).variables) (length (function_in c.args.around.now.named.now.exprs c.in_ok-function.function.now).parameters)) (infer_all (generic_globals c.args.around.now.named.now) (variable_numbers c.args.around.now.variables.now) opaque (in_scope c.args.state.now) c.one_more.new.self.counts (arguments_from (generic_tree c.args.around.now.named.now) c.args.ids.now)) (called (function_in c.args.around.now.named.now.exprs c.in_ok-function.function.now) (formed_all opaque (types_in c.args.around.now.named.now.exprs.words c.args.called.types))) (walking.call_found c.args.around.now.named.now c.args.around.now.variables.now c.args.called.name (types_in c.args.around.now.named.now.exprs.words c.args.called.types) (length c.args.ids.now) (λ n. infer_all (generic_globals c.args.around.now.named.now) (variable_numbers c.args.around.now.variables.now) opaque (in_scope c.args.state.now) n (arguments_from (generic_tree c.args.around.now.named.now) c.args.ids.now)) c.args.state.now c.one_more.new.self (function_in c.args.around.now.named.now.exprs c.in_ok-function.function.now) (record { read = c.in_ok-one_more.ensures.counts; kept = c.one_more.ensures.scope; types = c.one_more.ensures.types }) c.in_ok-function.ensures) c.in_err-types.field-0.0 (answering.fits_as (IsFaultOf c.in_err-types.field-0.0) (generic_globals c.args.around.now.named.now) (variable_numbers c.args.around.now.variables.now) c.args.called.name (types_in c.args.around.now.named.now.exprs.words c.args.called.types) (length c.args.ids.now) c.len.result c.len-2.result (length (function_in c.args.around.now.named.now.exprs c.in_ok-function.function.now).variables) (length (function_in c.args.around.now.named.now.exprs c.in_ok-function.function.now).parameters) (omega (arith, c.len.ensures, c.in_ok-function.function.now.variables.ok)) (answering.mapped_length c.args.around.now.named.now.exprs.words c.len-2.result c.in_ok-function.function.now.parameters.items (omega (arith, c.len-2.ensures, c.in_ok-function.function.now.parameters.ok))) c.in_err-types.ensures.read))

pub call-returns-in_err-parts-clause-read : goal.call-returns-in_err-parts-clause-read
call-returns-in_err-parts-clause-read t c =
    let p = err_from_is_err_and c.from_residual-in_err-parts.result c.from_residual-in_err-parts.ensures.1 in
    rw (p.1, p.2) (walking.use_arguments c.args.around.now.named.now c.args.around.now.variables.now (walking.call_of c.args.around.now.named.now c.args.around.now.variables.now c.args.called.name (types_in c.args.around.now.named.now.exprs.words c.args.called.types) (length c.args.ids.now) (λ n. infer_all (generic_globals c.args.around.now.named.now) (variable_numbers c.args.around.now.variables.now) opaque (in_scope c.args.state.now) n (arguments_from (generic_tree c.args.around.now.named.now) c.args.ids.now)) c.args.state.now.counts) (walking.fits c.args.around.now.named.now c.args.around.now.variables.now c.args.called.name (types_in c.args.around.now.named.now.exprs.words c.args.called.types) (length c.args.ids.now) (λ n. infer_all (generic_globals c.args.around.now.named.now) (variable_numbers c.args.around.now.variables.now) opaque (in_scope c.args.state.now) n (arguments_from (generic_tree c.args.around.now.named.now) c.args.ids.now)) (length (function_in c.args.around.now.named.now.exprs c.in_ok-function.function.now).variables) (length (function_in c.args.around.now.named.now.exprs c.in_ok-function.function.now).parameters)) (infer_all (generic_globals c.args.around.now.named.now) (variable_numbers c.args.around.now.variables.now) opaque (in_scope c.args.state.now) c.one_more.new.self.counts (arguments_from (generic_tree c.args.around.now.named.now) c.args.ids.now)) (called (function_in c.args.around.now.named.now.exprs c.in_ok-function.function.now) (formed_all opaque (types_in c.args.around.now.named.now.exprs.words c.args.called.types))) (walking.call_found c.args.around.now.named.now c.args.around.now.variables.now c.args.called.name (types_in c.args.around.now.named.now.exprs.words c.args.called.types) (length c.args.ids.now) (λ n. infer_all (generic_globals c.args.around.now.named.now) (variable_numbers c.args.around.now.variables.now) opaque (in_scope c.args.state.now) n (arguments_from (generic_tree c.args.around.now.named.now) c.args.ids.now)) c.args.state.now c.one_more.new.self (function_in c.args.around.now.named.now.exprs c.in_ok-function.function.now) (record { read = c.in_ok-one_more.ensures.counts; kept = c.one_more.ensures.scope; types = c.one_more.ensures.types }) c.in_ok-function.ensures) c.in_err-parts.field-0.0 (answering.fits_as (λ z. z ≡ Rattle.std.proofs.Common.Ok (tt {0})) (generic_globals c.args.around.now.named.now) (variable_numbers c.args.around.now.variables.now) c.args.called.name (types_in c.args.around.now.named.now.exprs.words c.args.called.types) (length c.args.ids.now) c.len.result c.len-2.result (length (function_in c.args.around.now.named.now.exprs c.in_ok-function.function.now).variables) (length (function_in c.args.around.now.named.now.exprs c.in_ok-function.function.now).parameters) (omega (arith, c.len.ensures, c.in_ok-function.function.now.variables.ok)) (answering.mapped_length c.args.around.now.named.now.exprs.words c.len-2.result c.in_ok-function.function.now.parameters.items (omega (arith, c.len-2.ensures, c.in_ok-function.function.now.parameters.ok))) c.in_ok-types.ensures.read) (along c.in_err-parts.field-0.0 _ _ (answering.results_moved c.args.around.now.named.now c.args.around.now.variables.now c.args.state.now c.one_more.new.self c.use_types.new.state c.args.ids.now c.use_types.ensures.keeps c.one_more.ensures.scope) c.in_err-parts.ensures.read))

pub call-returns-in_err-given-clause-read : goal.call-returns-in_err-given-clause-read
call-returns-in_err-given-clause-read t c =
    let p = err_from_is_err_and c.from_residual-in_err-given.result c.from_residual-in_err-given.ensures.1 in
    rw (p.1, p.2) (walking.use_given c.args.around.now.named.now c.args.around.now.variables.now (walking.call_of c.args.around.now.named.now c.args.around.now.variables.now c.args.called.name (types_in c.args.around.now.named.now.exprs.words c.args.called.types) (length c.args.ids.now) (λ n. infer_all (generic_globals c.args.around.now.named.now) (variable_numbers c.args.around.now.variables.now) opaque (in_scope c.args.state.now) n (arguments_from (generic_tree c.args.around.now.named.now) c.args.ids.now)) c.args.state.now.counts) (walking.fits c.args.around.now.named.now c.args.around.now.variables.now c.args.called.name (types_in c.args.around.now.named.now.exprs.words c.args.called.types) (length c.args.ids.now) (λ n. infer_all (generic_globals c.args.around.now.named.now) (variable_numbers c.args.around.now.variables.now) opaque (in_scope c.args.state.now) n (arguments_from (generic_tree c.args.around.now.named.now) c.args.ids.now)) (length (function_in c.args.around.now.named.now.exprs c.in_ok-function.function.now).variables) (length (function_in c.args.around.now.named.now.exprs c.in_ok-function.function.now).parameters)) (infer_all (generic_globals c.args.around.now.named.now) (variable_numbers c.args.around.now.variables.now) opaque (in_scope c.args.state.now) c.one_more.new.self.counts (arguments_from (generic_tree c.args.around.now.named.now) c.args.ids.now)) (called (function_in c.args.around.now.named.now.exprs c.in_ok-function.function.now) (formed_all opaque (types_in c.args.around.now.named.now.exprs.words c.args.called.types))) (walking.call_found c.args.around.now.named.now c.args.around.now.variables.now c.args.called.name (types_in c.args.around.now.named.now.exprs.words c.args.called.types) (length c.args.ids.now) (λ n. infer_all (generic_globals c.args.around.now.named.now) (variable_numbers c.args.around.now.variables.now) opaque (in_scope c.args.state.now) n (arguments_from (generic_tree c.args.around.now.named.now) c.args.ids.now)) c.args.state.now c.one_more.new.self (function_in c.args.around.now.named.now.exprs c.in_ok-function.function.now) (record { read = c.in_ok-one_more.ensures.counts; kept = c.one_more.ensures.scope; types = c.one_more.ensures.types }) c.in_ok-function.ensures) c.in_err-given.field-0.0 (parts_in c.arguments.new.state c.in_ok-parts.parts.items) c.arguments.new.state.counts (answering.fits_as (λ z. z ≡ Rattle.std.proofs.Common.Ok (tt {0})) (generic_globals c.args.around.now.named.now) (variable_numbers c.args.around.now.variables.now) c.args.called.name (types_in c.args.around.now.named.now.exprs.words c.args.called.types) (length c.args.ids.now) c.len.result c.len-2.result (length (function_in c.args.around.now.named.now.exprs c.in_ok-function.function.now).variables) (length (function_in c.args.around.now.named.now.exprs c.in_ok-function.function.now).parameters) (omega (arith, c.len.ensures, c.in_ok-function.function.now.variables.ok)) (answering.mapped_length c.args.around.now.named.now.exprs.words c.len-2.result c.in_ok-function.function.now.parameters.items (omega (arith, c.len-2.ensures, c.in_ok-function.function.now.parameters.ok))) c.in_ok-types.ensures.read) ((answering.results_moved c.args.around.now.named.now c.args.around.now.variables.now c.args.state.now c.one_more.new.self c.use_types.new.state c.args.ids.now c.use_types.ensures.keeps c.one_more.ensures.scope) ∙ c.in_ok-parts.ensures.read) (subst₂ (λ (us : Forms) (ps : List Part). IsFaultOf c.in_err-given.field-0.0 (called (function_in c.args.around.now.named.now.exprs c.in_ok-function.function.now) us (parts_in c.arguments.new.state ps))) (ap (forms_at (forms c.arguments.new.state)) c.deref.ensures.value ∙ (answering.given_types c.use_types.new.state c.arguments.new.state c.in_ok-types.types.items (types_in c.args.around.now.named.now.exprs.words c.args.called.types) c.in_ok-types.ensures.types c.in_ok-parts.ensures.met.advances.types c.in_ok-types.ensures.below)) c.deref-2.ensures.value c.in_err-given.ensures.read))

pub call-returns-clause-read : goal.call-returns-clause-read
call-returns-clause-read t c =
    walking.use_ok c.args.around.now.named.now c.args.around.now.variables.now (walking.call_of c.args.around.now.named.now c.args.around.now.variables.now c.args.called.name (types_in c.args.around.now.named.now.exprs.words c.args.called.types) (length c.args.ids.now) (λ n. infer_all (generic_globals c.args.around.now.named.now) (variable_numbers c.args.around.now.variables.now) opaque (in_scope c.args.state.now) n (arguments_from (generic_tree c.args.around.now.named.now) c.args.ids.now)) c.args.state.now.counts) (walking.fits c.args.around.now.named.now c.args.around.now.variables.now c.args.called.name (types_in c.args.around.now.named.now.exprs.words c.args.called.types) (length c.args.ids.now) (λ n. infer_all (generic_globals c.args.around.now.named.now) (variable_numbers c.args.around.now.variables.now) opaque (in_scope c.args.state.now) n (arguments_from (generic_tree c.args.around.now.named.now) c.args.ids.now)) (length (function_in c.args.around.now.named.now.exprs c.in_ok-function.function.now).variables) (length (function_in c.args.around.now.named.now.exprs c.in_ok-function.function.now).parameters)) (infer_all (generic_globals c.args.around.now.named.now) (variable_numbers c.args.around.now.variables.now) opaque (in_scope c.args.state.now) c.one_more.new.self.counts (arguments_from (generic_tree c.args.around.now.named.now) c.args.ids.now)) (called (function_in c.args.around.now.named.now.exprs c.in_ok-function.function.now) (formed_all opaque (types_in c.args.around.now.named.now.exprs.words c.args.called.types))) (walking.call_found c.args.around.now.named.now c.args.around.now.variables.now c.args.called.name (types_in c.args.around.now.named.now.exprs.words c.args.called.types) (length c.args.ids.now) (λ n. infer_all (generic_globals c.args.around.now.named.now) (variable_numbers c.args.around.now.variables.now) opaque (in_scope c.args.state.now) n (arguments_from (generic_tree c.args.around.now.named.now) c.args.ids.now)) c.args.state.now c.one_more.new.self (function_in c.args.around.now.named.now.exprs c.in_ok-function.function.now) (record { read = c.in_ok-one_more.ensures.counts; kept = c.one_more.ensures.scope; types = c.one_more.ensures.types }) c.in_ok-function.ensures) (parts_in c.arguments.new.state c.in_ok-parts.parts.items) c.arguments.new.state.counts (forms_given c.call_results.new.state c.in_ok-given.given) (answering.fits_as (λ z. z ≡ Rattle.std.proofs.Common.Ok (tt {0})) (generic_globals c.args.around.now.named.now) (variable_numbers c.args.around.now.variables.now) c.args.called.name (types_in c.args.around.now.named.now.exprs.words c.args.called.types) (length c.args.ids.now) c.len.result c.len-2.result (length (function_in c.args.around.now.named.now.exprs c.in_ok-function.function.now).variables) (length (function_in c.args.around.now.named.now.exprs c.in_ok-function.function.now).parameters) (omega (arith, c.len.ensures, c.in_ok-function.function.now.variables.ok)) (answering.mapped_length c.args.around.now.named.now.exprs.words c.len-2.result c.in_ok-function.function.now.parameters.items (omega (arith, c.len-2.ensures, c.in_ok-function.function.now.parameters.ok))) c.in_ok-types.ensures.read) ((answering.results_moved c.args.around.now.named.now c.args.around.now.variables.now c.args.state.now c.one_more.new.self c.use_types.new.state c.args.ids.now c.use_types.ensures.keeps c.one_more.ensures.scope) ∙ c.in_ok-parts.ensures.read)
    (subst₂ (λ (us : Forms) (ps : List Part). called (function_in c.args.around.now.named.now.exprs c.in_ok-function.function.now) us (parts_in c.arguments.new.state ps) ≡ Rattle.std.proofs.Common.Ok (forms_given c.call_results.new.state c.in_ok-given.given)) (ap (forms_at (forms c.arguments.new.state)) c.deref.ensures.value ∙ (answering.given_types c.use_types.new.state c.arguments.new.state c.in_ok-types.types.items (types_in c.args.around.now.named.now.exprs.words c.args.called.types) c.in_ok-types.ensures.types c.in_ok-parts.ensures.met.advances.types c.in_ok-types.ensures.below)) c.deref-2.ensures.value c.in_ok-given.ensures.read)
    ∙ ap (answering.answer_of (forms_given c.call_results.new.state c.in_ok-given.given)) (sym c.in_ok-given.ensures.counts)

pub call-returns-clause-met : goal.call-returns-clause-met
call-returns-clause-met t c =
    record { advances = (advances_on c.args.state.now c.arguments.new.state c.call_results.new.state (advances_on c.args.state.now c.use_types.new.state c.arguments.new.state (advances_on c.args.state.now c.one_more.new.self c.use_types.new.state (same_advance c.args.state.now c.one_more.new.self c.one_more.ensures.types c.one_more.ensures.parts) (keeps_advance c.one_more.new.self c.use_types.new.state c.use_types.ensures.keeps)) c.in_ok-parts.ensures.met.advances) c.in_ok-given.ensures.met.advances); here = c.in_ok-given.ensures.met.here }

pub call-returns-clause-kept : goal.call-returns-clause-kept
call-returns-clause-kept t c =
    c.in_ok-given.ensures.scope ∙ c.in_ok-parts.ensures.kept ∙ c.use_types.ensures.keeps.scope ∙ c.one_more.ensures.scope

pub call-call_results-requires-clause-types : goal.call-call_results-requires-clause-types
call-call_results-requires-clause-types t c =
    subst (AreBelow (length c.arguments.new.state.types)) (sym c.deref.ensures.value) (below_more (length c.use_types.new.state.types) (length c.arguments.new.state.types) c.in_ok-types.types.items c.in_ok-parts.ensures.met.advances.types.longer c.in_ok-types.ensures.below)

pub call-call_results-requires-clause-parts : goal.call-call_results-requires-clause-parts
call-call_results-requires-clause-parts t c =
    subst (ArePartsMet c.arguments.new.state) (sym c.deref-2.ensures.value) c.in_ok-parts.ensures.met.here

pub make-returns-in_err-row-clause-read : goal.make-returns-in_err-row-clause-read
make-returns-in_err-row-clause-read t c =
    let p = err_from_is_err_and c.from_residual-in_err-row.result c.from_residual-in_err-row.ensures.1 in
    rw (p.1, p.2) (walking.make_constructor c.args.around.now.named.now c.args.around.now.variables.now c.args.made.name (types_in c.args.around.now.named.now.exprs.words c.args.made.types) (length c.args.ids.now) (λ n. infer_all (generic_globals c.args.around.now.named.now) (variable_numbers c.args.around.now.variables.now) opaque (in_scope c.args.state.now) n (arguments_from (generic_tree c.args.around.now.named.now) c.args.ids.now)) c.in_err-row.field-0.0 c.args.state.now c.one_more.new.self (record { read = c.in_ok-one_more.ensures.counts; kept = c.one_more.ensures.scope; types = c.one_more.ensures.types }) c.in_err-row.ensures.row)

pub make-returns-in_err-types-clause-read : goal.make-returns-in_err-types-clause-read
make-returns-in_err-types-clause-read t c =
    let p = err_from_is_err_and c.from_residual-in_err-types.result c.from_residual-in_err-types.ensures.1 in
    rw (p.1, p.2) (walking.use_before c.args.around.now.named.now c.args.around.now.variables.now (walking.make_of c.args.around.now.named.now c.args.around.now.variables.now c.args.made.name (types_in c.args.around.now.named.now.exprs.words c.args.made.types) (length c.args.ids.now) (λ n. infer_all (generic_globals c.args.around.now.named.now) (variable_numbers c.args.around.now.variables.now) opaque (in_scope c.args.state.now) n (arguments_from (generic_tree c.args.around.now.named.now) c.args.ids.now)) c.args.state.now.counts) (walking.fits c.args.around.now.named.now c.args.around.now.variables.now c.args.made.name (types_in c.args.around.now.named.now.exprs.words c.args.made.types) (length c.args.ids.now) (λ n. infer_all (generic_globals c.args.around.now.named.now) (variable_numbers c.args.around.now.variables.now) opaque (in_scope c.args.state.now) n (arguments_from (generic_tree c.args.around.now.named.now) c.args.ids.now)) (length (row_in c.args.around.now.named.now c.in_ok-row.row).variables) (length (row_in c.args.around.now.named.now c.in_ok-row.row).fields)) (infer_all (generic_globals c.args.around.now.named.now) (variable_numbers c.args.around.now.variables.now) opaque (in_scope c.args.state.now) c.one_more.new.self.counts (arguments_from (generic_tree c.args.around.now.named.now) c.args.ids.now)) (made (row_in c.args.around.now.named.now c.in_ok-row.row) (formed_all opaque (types_in c.args.around.now.named.now.exprs.words c.args.made.types))) (walking.make_found c.args.around.now.named.now c.args.around.now.variables.now c.args.made.name (types_in c.args.around.now.named.now.exprs.words c.args.made.types) (length c.args.ids.now) (λ n. infer_all (generic_globals c.args.around.now.named.now) (variable_numbers c.args.around.now.variables.now) opaque (in_scope c.args.state.now) n (arguments_from (generic_tree c.args.around.now.named.now) c.args.ids.now)) c.args.state.now c.one_more.new.self (row_in c.args.around.now.named.now c.in_ok-row.row) (record { read = c.in_ok-one_more.ensures.counts; kept = c.one_more.ensures.scope; types = c.one_more.ensures.types }) c.in_ok-row.ensures.row) c.in_err-types.field-0.0 (answering.fits_as (IsFaultOf c.in_err-types.field-0.0) (generic_globals c.args.around.now.named.now) (variable_numbers c.args.around.now.variables.now) c.args.made.name (types_in c.args.around.now.named.now.exprs.words c.args.made.types) (length c.args.ids.now) (length c.variables.result.now) c.in_ok-row.row.count (length (row_in c.args.around.now.named.now c.in_ok-row.row).variables) (length (row_in c.args.around.now.named.now c.in_ok-row.row).fields) (ap length c.variables.ensures) c.in_ok-row.ensures.count c.in_err-types.ensures.read))

pub make-returns-in_err-parts-clause-read : goal.make-returns-in_err-parts-clause-read
make-returns-in_err-parts-clause-read t c =
    let p = err_from_is_err_and c.from_residual-in_err-parts.result c.from_residual-in_err-parts.ensures.1 in
    rw (p.1, p.2) (walking.use_arguments c.args.around.now.named.now c.args.around.now.variables.now (walking.make_of c.args.around.now.named.now c.args.around.now.variables.now c.args.made.name (types_in c.args.around.now.named.now.exprs.words c.args.made.types) (length c.args.ids.now) (λ n. infer_all (generic_globals c.args.around.now.named.now) (variable_numbers c.args.around.now.variables.now) opaque (in_scope c.args.state.now) n (arguments_from (generic_tree c.args.around.now.named.now) c.args.ids.now)) c.args.state.now.counts) (walking.fits c.args.around.now.named.now c.args.around.now.variables.now c.args.made.name (types_in c.args.around.now.named.now.exprs.words c.args.made.types) (length c.args.ids.now) (λ n. infer_all (generic_globals c.args.around.now.named.now) (variable_numbers c.args.around.now.variables.now) opaque (in_scope c.args.state.now) n (arguments_from (generic_tree c.args.around.now.named.now) c.args.ids.now)) (length (row_in c.args.around.now.named.now c.in_ok-row.row).variables) (length (row_in c.args.around.now.named.now c.in_ok-row.row).fields)) (infer_all (generic_globals c.args.around.now.named.now) (variable_numbers c.args.around.now.variables.now) opaque (in_scope c.args.state.now) c.one_more.new.self.counts (arguments_from (generic_tree c.args.around.now.named.now) c.args.ids.now)) (made (row_in c.args.around.now.named.now c.in_ok-row.row) (formed_all opaque (types_in c.args.around.now.named.now.exprs.words c.args.made.types))) (walking.make_found c.args.around.now.named.now c.args.around.now.variables.now c.args.made.name (types_in c.args.around.now.named.now.exprs.words c.args.made.types) (length c.args.ids.now) (λ n. infer_all (generic_globals c.args.around.now.named.now) (variable_numbers c.args.around.now.variables.now) opaque (in_scope c.args.state.now) n (arguments_from (generic_tree c.args.around.now.named.now) c.args.ids.now)) c.args.state.now c.one_more.new.self (row_in c.args.around.now.named.now c.in_ok-row.row) (record { read = c.in_ok-one_more.ensures.counts; kept = c.one_more.ensures.scope; types = c.one_more.ensures.types }) c.in_ok-row.ensures.row) c.in_err-parts.field-0.0 (answering.fits_as (λ z. z ≡ Rattle.std.proofs.Common.Ok (tt {0})) (generic_globals c.args.around.now.named.now) (variable_numbers c.args.around.now.variables.now) c.args.made.name (types_in c.args.around.now.named.now.exprs.words c.args.made.types) (length c.args.ids.now) (length c.variables.result.now) c.in_ok-row.row.count (length (row_in c.args.around.now.named.now c.in_ok-row.row).variables) (length (row_in c.args.around.now.named.now c.in_ok-row.row).fields) (ap length c.variables.ensures) c.in_ok-row.ensures.count c.in_ok-types.ensures.read) (along c.in_err-parts.field-0.0 _ _ (answering.results_moved c.args.around.now.named.now c.args.around.now.variables.now c.args.state.now c.one_more.new.self c.use_types.new.state c.args.ids.now c.use_types.ensures.keeps c.one_more.ensures.scope) c.in_err-parts.ensures.read))

pub make-returns-in_err-given-clause-read : goal.make-returns-in_err-given-clause-read
make-returns-in_err-given-clause-read t c =
    let p = err_from_is_err_and c.from_residual-in_err-given.result c.from_residual-in_err-given.ensures.1 in
    rw (p.1, p.2) (walking.use_given c.args.around.now.named.now c.args.around.now.variables.now (walking.make_of c.args.around.now.named.now c.args.around.now.variables.now c.args.made.name (types_in c.args.around.now.named.now.exprs.words c.args.made.types) (length c.args.ids.now) (λ n. infer_all (generic_globals c.args.around.now.named.now) (variable_numbers c.args.around.now.variables.now) opaque (in_scope c.args.state.now) n (arguments_from (generic_tree c.args.around.now.named.now) c.args.ids.now)) c.args.state.now.counts) (walking.fits c.args.around.now.named.now c.args.around.now.variables.now c.args.made.name (types_in c.args.around.now.named.now.exprs.words c.args.made.types) (length c.args.ids.now) (λ n. infer_all (generic_globals c.args.around.now.named.now) (variable_numbers c.args.around.now.variables.now) opaque (in_scope c.args.state.now) n (arguments_from (generic_tree c.args.around.now.named.now) c.args.ids.now)) (length (row_in c.args.around.now.named.now c.in_ok-row.row).variables) (length (row_in c.args.around.now.named.now c.in_ok-row.row).fields)) (infer_all (generic_globals c.args.around.now.named.now) (variable_numbers c.args.around.now.variables.now) opaque (in_scope c.args.state.now) c.one_more.new.self.counts (arguments_from (generic_tree c.args.around.now.named.now) c.args.ids.now)) (made (row_in c.args.around.now.named.now c.in_ok-row.row) (formed_all opaque (types_in c.args.around.now.named.now.exprs.words c.args.made.types))) (walking.make_found c.args.around.now.named.now c.args.around.now.variables.now c.args.made.name (types_in c.args.around.now.named.now.exprs.words c.args.made.types) (length c.args.ids.now) (λ n. infer_all (generic_globals c.args.around.now.named.now) (variable_numbers c.args.around.now.variables.now) opaque (in_scope c.args.state.now) n (arguments_from (generic_tree c.args.around.now.named.now) c.args.ids.now)) c.args.state.now c.one_more.new.self (row_in c.args.around.now.named.now c.in_ok-row.row) (record { read = c.in_ok-one_more.ensures.counts; kept = c.one_more.ensures.scope; types = c.one_more.ensures.types }) c.in_ok-row.ensures.row) c.in_err-given.field-0.0 (parts_in c.arguments.new.state c.in_ok-parts.parts.items) c.arguments.new.state.counts (answering.fits_as (λ z. z ≡ Rattle.std.proofs.Common.Ok (tt {0})) (generic_globals c.args.around.now.named.now) (variable_numbers c.args.around.now.variables.now) c.args.made.name (types_in c.args.around.now.named.now.exprs.words c.args.made.types) (length c.args.ids.now) (length c.variables.result.now) c.in_ok-row.row.count (length (row_in c.args.around.now.named.now c.in_ok-row.row).variables) (length (row_in c.args.around.now.named.now c.in_ok-row.row).fields) (ap length c.variables.ensures) c.in_ok-row.ensures.count c.in_ok-types.ensures.read) ((answering.results_moved c.args.around.now.named.now c.args.around.now.variables.now c.args.state.now c.one_more.new.self c.use_types.new.state c.args.ids.now c.use_types.ensures.keeps c.one_more.ensures.scope) ∙ c.in_ok-parts.ensures.read) (subst₂ (λ (us : Forms) (ps : List Part). IsFaultOf c.in_err-given.field-0.0 (made (row_in c.args.around.now.named.now c.in_ok-row.row) us (parts_in c.arguments.new.state ps))) (answering.given_types c.use_types.new.state c.arguments.new.state c.in_ok-types.types.items (types_in c.args.around.now.named.now.exprs.words c.args.made.types) c.in_ok-types.ensures.types c.in_ok-parts.ensures.met.advances.types c.in_ok-types.ensures.below) c.deref.ensures.value c.in_err-given.ensures.read))

pub make-returns-clause-read : goal.make-returns-clause-read
make-returns-clause-read t c =
    walking.use_ok c.args.around.now.named.now c.args.around.now.variables.now (walking.make_of c.args.around.now.named.now c.args.around.now.variables.now c.args.made.name (types_in c.args.around.now.named.now.exprs.words c.args.made.types) (length c.args.ids.now) (λ n. infer_all (generic_globals c.args.around.now.named.now) (variable_numbers c.args.around.now.variables.now) opaque (in_scope c.args.state.now) n (arguments_from (generic_tree c.args.around.now.named.now) c.args.ids.now)) c.args.state.now.counts) (walking.fits c.args.around.now.named.now c.args.around.now.variables.now c.args.made.name (types_in c.args.around.now.named.now.exprs.words c.args.made.types) (length c.args.ids.now) (λ n. infer_all (generic_globals c.args.around.now.named.now) (variable_numbers c.args.around.now.variables.now) opaque (in_scope c.args.state.now) n (arguments_from (generic_tree c.args.around.now.named.now) c.args.ids.now)) (length (row_in c.args.around.now.named.now c.in_ok-row.row).variables) (length (row_in c.args.around.now.named.now c.in_ok-row.row).fields)) (infer_all (generic_globals c.args.around.now.named.now) (variable_numbers c.args.around.now.variables.now) opaque (in_scope c.args.state.now) c.one_more.new.self.counts (arguments_from (generic_tree c.args.around.now.named.now) c.args.ids.now)) (made (row_in c.args.around.now.named.now c.in_ok-row.row) (formed_all opaque (types_in c.args.around.now.named.now.exprs.words c.args.made.types))) (walking.make_found c.args.around.now.named.now c.args.around.now.variables.now c.args.made.name (types_in c.args.around.now.named.now.exprs.words c.args.made.types) (length c.args.ids.now) (λ n. infer_all (generic_globals c.args.around.now.named.now) (variable_numbers c.args.around.now.variables.now) opaque (in_scope c.args.state.now) n (arguments_from (generic_tree c.args.around.now.named.now) c.args.ids.now)) c.args.state.now c.one_more.new.self (row_in c.args.around.now.named.now c.in_ok-row.row) (record { read = c.in_ok-one_more.ensures.counts; kept = c.one_more.ensures.scope; types = c.one_more.ensures.types }) c.in_ok-row.ensures.row) (parts_in c.arguments.new.state c.in_ok-parts.parts.items) c.arguments.new.state.counts (forms_given c.make_result.new.state c.in_ok-given.given) (answering.fits_as (λ z. z ≡ Rattle.std.proofs.Common.Ok (tt {0})) (generic_globals c.args.around.now.named.now) (variable_numbers c.args.around.now.variables.now) c.args.made.name (types_in c.args.around.now.named.now.exprs.words c.args.made.types) (length c.args.ids.now) (length c.variables.result.now) c.in_ok-row.row.count (length (row_in c.args.around.now.named.now c.in_ok-row.row).variables) (length (row_in c.args.around.now.named.now c.in_ok-row.row).fields) (ap length c.variables.ensures) c.in_ok-row.ensures.count c.in_ok-types.ensures.read) ((answering.results_moved c.args.around.now.named.now c.args.around.now.variables.now c.args.state.now c.one_more.new.self c.use_types.new.state c.args.ids.now c.use_types.ensures.keeps c.one_more.ensures.scope) ∙ c.in_ok-parts.ensures.read)
    (subst₂ (λ (us : Forms) (ps : List Part). made (row_in c.args.around.now.named.now c.in_ok-row.row) us (parts_in c.arguments.new.state ps) ≡ Rattle.std.proofs.Common.Ok (forms_given c.make_result.new.state c.in_ok-given.given)) (answering.given_types c.use_types.new.state c.arguments.new.state c.in_ok-types.types.items (types_in c.args.around.now.named.now.exprs.words c.args.made.types) c.in_ok-types.ensures.types c.in_ok-parts.ensures.met.advances.types c.in_ok-types.ensures.below) c.deref.ensures.value c.in_ok-given.ensures.read)
    ∙ ap (answering.answer_of (forms_given c.make_result.new.state c.in_ok-given.given)) (sym c.in_ok-given.ensures.counts)

pub make-returns-clause-met : goal.make-returns-clause-met
make-returns-clause-met t c =
    record { advances = (advances_on c.args.state.now c.arguments.new.state c.make_result.new.state (advances_on c.args.state.now c.use_types.new.state c.arguments.new.state (advances_on c.args.state.now c.one_more.new.self c.use_types.new.state (same_advance c.args.state.now c.one_more.new.self c.one_more.ensures.types c.one_more.ensures.parts) (keeps_advance c.one_more.new.self c.use_types.new.state c.use_types.ensures.keeps)) c.in_ok-parts.ensures.met.advances) c.in_ok-given.ensures.met.advances); here = c.in_ok-given.ensures.met.here }

pub make-returns-clause-kept : goal.make-returns-clause-kept
make-returns-clause-kept t c =
    c.in_ok-given.ensures.scope ∙ c.in_ok-parts.ensures.kept ∙ c.use_types.ensures.keeps.scope ∙ c.one_more.ensures.scope

pub make-make_result-requires-clause-types : goal.make-make_result-requires-clause-types
make-make_result-requires-clause-types t c =
    (below_more (length c.use_types.new.state.types) (length c.arguments.new.state.types) c.in_ok-types.types.items c.in_ok-parts.ensures.met.advances.types.longer c.in_ok-types.ensures.below)

pub make-make_result-requires-clause-parts : goal.make-make_result-requires-clause-parts
make-make_result-requires-clause-parts t c =
    subst (ArePartsMet c.arguments.new.state) (sym c.deref.ensures.value) c.in_ok-parts.ensures.met.here

pub arm_result-returns-in_err-bind_all-clause-read : goal.arm_result-returns-in_err-bind_all-clause-read
arm_result-returns-in_err-bind_all-clause-read t c =
    let p = err_from_is_err_and c.from_residual-in_err-bind_all.result c.from_residual-in_err-bind_all.ensures.1 in
    rw (p.1, p.2) (answering.arm_fails c.args.around.now.named.now c.args.around.now.variables.now c.args.at.standing (Rattle.gib_types.specs.Types.forms_at (forms c.args.state.now) c.args.types.now) c.args.arm.now.constructor c.args.arm.now.variables.items (generic_tree c.args.around.now.named.now c.args.arm.now.body.0) c.in_err-bind_all.field-0.0 c.args.state.now c.fields_named.new.state c.deref.result.now (Rattle.gib_check.specs.Judging.listed (forms c.fields_named.new.state) c.deref-2.result.now) c.fields_named.ensures.keeps c.deref.ensures.value (ap (Rattle.gib_check.specs.Judging.listed (forms c.fields_named.new.state)) c.deref-2.ensures.value ∙ c.in_ok-fields.ensures.types) c.in_err-bind_all.ensures.read)

pub arm_result-returns-in_err-given-clause-read : goal.arm_result-returns-in_err-given-clause-read
arm_result-returns-in_err-given-clause-read t c =
    let p = err_from_is_err_and c.from_residual-in_err-given.result c.from_residual-in_err-given.ensures.1 in
    rw (p.1, p.2) (Rattle.gib_check.proofs.Loops.along c.in_err-given.field-0.0 _ _ (answering.arm_is c.args.around.now.named.now c.args.around.now.variables.now c.args.at.standing (Rattle.gib_types.specs.Types.forms_at (forms c.args.state.now) c.args.types.now) c.args.arm.now.constructor c.args.arm.now.variables.items (generic_tree c.args.around.now.named.now c.args.arm.now.body.0) c.args.state.now c.fields_named.new.state c.bind_all.new.self c.deref.result.now (Rattle.gib_check.specs.Judging.listed (forms c.fields_named.new.state) c.deref-2.result.now) c.fields_named.ensures.keeps c.deref.ensures.value (ap (Rattle.gib_check.specs.Judging.listed (forms c.fields_named.new.state)) c.deref-2.ensures.value ∙ c.in_ok-fields.ensures.types) c.in_ok-bind_all.ensures.read) c.in_err-given.ensures.read)

pub arm_result-returns-clause-read : goal.arm_result-returns-clause-read
arm_result-returns-clause-read t c =
    answering.arm_is c.args.around.now.named.now c.args.around.now.variables.now c.args.at.standing (Rattle.gib_types.specs.Types.forms_at (forms c.args.state.now) c.args.types.now) c.args.arm.now.constructor c.args.arm.now.variables.items (generic_tree c.args.around.now.named.now c.args.arm.now.body.0) c.args.state.now c.fields_named.new.state c.bind_all.new.self c.deref.result.now (Rattle.gib_check.specs.Judging.listed (forms c.fields_named.new.state) c.deref-2.result.now) c.fields_named.ensures.keeps c.deref.ensures.value (ap (Rattle.gib_check.specs.Judging.listed (forms c.fields_named.new.state)) c.deref-2.ensures.value ∙ c.in_ok-fields.ensures.types) c.in_ok-bind_all.ensures.read
    ∙ c.in_ok-given.ensures.read
    ∙ answering.same_answer c.infer.new.state c.truncate.new.self c.in_ok-given.given (same_advance c.infer.new.state c.truncate.new.self c.truncate.ensures.types c.truncate.ensures.parts) c.in_ok-given.ensures.met.here c.truncate.ensures.counts

pub arm_result-returns-clause-kept : goal.arm_result-returns-clause-kept
arm_result-returns-clause-kept t c =
    answering.arm_dropped (in_scope c.fields_named.new.state) (in_scope c.infer.new.state) (in_scope c.truncate.new.self) c.len-len.result
    (subst (λ s. Rattle.std.proofs.Common.drop (length s - length (in_scope c.fields_named.new.state)) s ≡ in_scope c.fields_named.new.state) (sym c.in_ok-given.ensures.kept) c.in_ok-bind_all.ensures.kept) c.len-len.ensures c.in_ok-truncate.ensures.scope
    ∙ c.fields_named.ensures.keeps.scope

pub case-returns-in_err-ty-clause-read : goal.case-returns-in_err-ty-clause-read
case-returns-in_err-ty-clause-read t c =
    let p = err_from_is_err_and c.from_residual-in_err-ty.result c.from_residual-in_err-ty.ensures.1 in
    rw (p.1, p.2) (answering.case_unknown c.args.around.now.named.now c.args.around.now.variables.now (generic_globals c.args.around.now.named.now).rows c.args.at.span c.args.variable (Rattle.std.proofs.Common.map Rattle.gib_check.specs.Judging.arm_head c.args.arms.now) (λ ts n. Rattle.gib_check.specs.Judging.infer_each_arm (generic_globals c.args.around.now.named.now) (variable_numbers c.args.around.now.variables.now) c.args.at.standing ts (generic_tree c.args.around.now.named.now) (in_scope c.args.state.now) n c.args.arms.now) c.in_err-ty.field-0.0 c.args.state.now c.one_more.new.self (record { read = c.in_ok-one_more.ensures.counts; kept = c.one_more.ensures.scope; types = c.one_more.ensures.types }) c.in_err-ty.ensures.read)

pub case-returns-in_err-ty-2-clause-read : goal.case-returns-in_err-ty-2-clause-read
case-returns-in_err-ty-2-clause-read t c =
    let p = err_from_is_err_and c.from_residual-in_err-ty-2.result c.from_residual-in_err-ty-2.ensures.1 in
    rw (p.1, p.2) (answering.case_shape c.args.around.now.named.now c.args.around.now.variables.now (generic_globals c.args.around.now.named.now).rows c.args.at.span c.args.variable (Rattle.std.proofs.Common.map Rattle.gib_check.specs.Judging.arm_head c.args.arms.now) (λ ts n. Rattle.gib_check.specs.Judging.infer_each_arm (generic_globals c.args.around.now.named.now) (variable_numbers c.args.around.now.variables.now) c.args.at.standing ts (generic_tree c.args.around.now.named.now) (in_scope c.args.state.now) n c.args.arms.now) c.in_err-ty-2.field-0.0 c.args.state.now c.one_more.new.self (form_at (forms c.one_more.new.self) c.in_ok-ty.ty.0) (record { read = c.in_ok-one_more.ensures.counts; kept = c.one_more.ensures.scope; types = c.one_more.ensures.types }) c.in_ok-ty.ensures.read (subst (λ ns. IsFaultOf c.in_err-ty-2.field-0.0 (Rattle.gib_check.specs.Faults.declared_type (form_at (forms_of ns) c.in_ok-ty.ty.0) c.args.variable)) c.types.ensures c.in_err-ty-2.ensures.read))

pub case-returns-in_err-all_declared-clause-read : goal.case-returns-in_err-all_declared-clause-read
case-returns-in_err-all_declared-clause-read t c =
    let p = err_from_is_err_and c.from_residual-in_err-all_declared.result c.from_residual-in_err-all_declared.ensures.1 in
    rw (p.1, p.2) (answering.case_missing c.args.around.now.named.now c.args.around.now.variables.now (generic_globals c.args.around.now.named.now).rows c.args.at.span c.args.variable (Rattle.std.proofs.Common.map Rattle.gib_check.specs.Judging.arm_head c.args.arms.now) (λ ts n. Rattle.gib_check.specs.Judging.infer_each_arm (generic_globals c.args.around.now.named.now) (variable_numbers c.args.around.now.variables.now) c.args.at.standing ts (generic_tree c.args.around.now.named.now) (in_scope c.args.state.now) n c.args.arms.now) c.in_err-all_declared.field-0.0 c.args.state.now c.one_more.new.self (form_at (forms c.one_more.new.self) c.in_ok-ty.ty.0) (c.in_ok-ty-2.ty.name, Rattle.gib_types.specs.Types.forms_at (forms c.one_more.new.self) c.in_ok-ty-2.ty.arguments.items) (record { read = c.in_ok-one_more.ensures.counts; kept = c.one_more.ensures.scope; types = c.one_more.ensures.types }) c.in_ok-ty.ensures.read (subst (λ ns. Rattle.gib_check.specs.Faults.declared_type (form_at (forms_of ns) c.in_ok-ty.ty.0) c.args.variable ≡ Rattle.std.proofs.Common.Ok (c.in_ok-ty-2.ty.name, Rattle.gib_types.specs.Types.forms_at (forms_of ns) c.in_ok-ty-2.ty.arguments.items)) c.types.ensures c.in_ok-ty-2.ensures.read) c.in_err-all_declared.ensures)

pub case-returns-in_err-covered-clause-read : goal.case-returns-in_err-covered-clause-read
case-returns-in_err-covered-clause-read t c =
    let p = err_from_is_err_and c.from_residual-in_err-covered.result c.from_residual-in_err-covered.ensures.1 in
    rw (p.1, p.2) (answering.case_uncovered c.args.around.now.named.now c.args.around.now.variables.now (generic_globals c.args.around.now.named.now).rows c.args.at.span c.args.variable (Rattle.std.proofs.Common.map Rattle.gib_check.specs.Judging.arm_head c.args.arms.now) (λ ts n. Rattle.gib_check.specs.Judging.infer_each_arm (generic_globals c.args.around.now.named.now) (variable_numbers c.args.around.now.variables.now) c.args.at.standing ts (generic_tree c.args.around.now.named.now) (in_scope c.args.state.now) n c.args.arms.now) c.in_err-covered.field-0.0 c.args.state.now c.one_more.new.self (form_at (forms c.one_more.new.self) c.in_ok-ty.ty.0) (c.in_ok-ty-2.ty.name, Rattle.gib_types.specs.Types.forms_at (forms c.one_more.new.self) c.in_ok-ty-2.ty.arguments.items) (record { read = c.in_ok-one_more.ensures.counts; kept = c.one_more.ensures.scope; types = c.one_more.ensures.types }) c.in_ok-ty.ensures.read (subst (λ ns. Rattle.gib_check.specs.Faults.declared_type (form_at (forms_of ns) c.in_ok-ty.ty.0) c.args.variable ≡ Rattle.std.proofs.Common.Ok (c.in_ok-ty-2.ty.name, Rattle.gib_types.specs.Types.forms_at (forms_of ns) c.in_ok-ty-2.ty.arguments.items)) c.types.ensures c.in_ok-ty-2.ensures.read) c.in_ok-all_declared.ensures c.in_err-covered.ensures)

pub case-returns-in_err-all_counted-clause-read : goal.case-returns-in_err-all_counted-clause-read
case-returns-in_err-all_counted-clause-read t c =
    let p = err_from_is_err_and c.from_residual-in_err-all_counted.result c.from_residual-in_err-all_counted.ensures.1 in
    rw (p.1, p.2) (answering.case_count c.args.around.now.named.now c.args.around.now.variables.now (generic_globals c.args.around.now.named.now).rows c.args.at.span c.args.variable (Rattle.std.proofs.Common.map Rattle.gib_check.specs.Judging.arm_head c.args.arms.now) (λ ts n. Rattle.gib_check.specs.Judging.infer_each_arm (generic_globals c.args.around.now.named.now) (variable_numbers c.args.around.now.variables.now) c.args.at.standing ts (generic_tree c.args.around.now.named.now) (in_scope c.args.state.now) n c.args.arms.now) c.in_err-all_counted.field-0.0 c.args.state.now c.one_more.new.self (form_at (forms c.one_more.new.self) c.in_ok-ty.ty.0) (c.in_ok-ty-2.ty.name, Rattle.gib_types.specs.Types.forms_at (forms c.one_more.new.self) c.in_ok-ty-2.ty.arguments.items) (record { read = c.in_ok-one_more.ensures.counts; kept = c.one_more.ensures.scope; types = c.one_more.ensures.types }) c.in_ok-ty.ensures.read (subst (λ ns. Rattle.gib_check.specs.Faults.declared_type (form_at (forms_of ns) c.in_ok-ty.ty.0) c.args.variable ≡ Rattle.std.proofs.Common.Ok (c.in_ok-ty-2.ty.name, Rattle.gib_types.specs.Types.forms_at (forms_of ns) c.in_ok-ty-2.ty.arguments.items)) c.types.ensures c.in_ok-ty-2.ensures.read) c.in_ok-all_declared.ensures c.in_ok-covered.ensures c.in_err-all_counted.ensures)

pub case-returns-in_err-parts-clause-read : goal.case-returns-in_err-parts-clause-read
case-returns-in_err-parts-clause-read t c =
    let p = err_from_is_err_and c.from_residual-in_err-parts.result c.from_residual-in_err-parts.ensures.1 in
    rw (p.1, p.2) (answering.case_parts c.args.around.now.named.now c.args.around.now.variables.now (generic_globals c.args.around.now.named.now).rows c.args.at.span c.args.variable (Rattle.std.proofs.Common.map Rattle.gib_check.specs.Judging.arm_head c.args.arms.now) (λ ts n. Rattle.gib_check.specs.Judging.infer_each_arm (generic_globals c.args.around.now.named.now) (variable_numbers c.args.around.now.variables.now) c.args.at.standing ts (generic_tree c.args.around.now.named.now) (in_scope c.args.state.now) n c.args.arms.now) c.in_err-parts.field-0.0 c.args.state.now c.one_more.new.self (form_at (forms c.one_more.new.self) c.in_ok-ty.ty.0) (c.in_ok-ty-2.ty.name, Rattle.gib_types.specs.Types.forms_at (forms c.one_more.new.self) c.in_ok-ty-2.ty.arguments.items) (record { read = c.in_ok-one_more.ensures.counts; kept = c.one_more.ensures.scope; types = c.one_more.ensures.types }) c.in_ok-ty.ensures.read (subst (λ ns. Rattle.gib_check.specs.Faults.declared_type (form_at (forms_of ns) c.in_ok-ty.ty.0) c.args.variable ≡ Rattle.std.proofs.Common.Ok (c.in_ok-ty-2.ty.name, Rattle.gib_types.specs.Types.forms_at (forms_of ns) c.in_ok-ty-2.ty.arguments.items)) c.types.ensures c.in_ok-ty-2.ensures.read) c.in_ok-all_declared.ensures c.in_ok-covered.ensures c.in_ok-all_counted.ensures (Rattle.gib_check.proofs.Loops.along c.in_err-parts.field-0.0 _ _ (λ i. Rattle.gib_check.specs.Judging.infer_each_arm (generic_globals c.args.around.now.named.now) (variable_numbers c.args.around.now.variables.now) c.args.at.standing (Rattle.gib_types.specs.Types.forms_at (forms c.one_more.new.self) (sym c.deref.ensures.value i)) (generic_tree c.args.around.now.named.now) (sym c.one_more.ensures.scope i) c.one_more.new.self.counts c.args.arms.now) c.in_err-parts.ensures.read))

pub case-returns-in_err-common-clause-read : goal.case-returns-in_err-common-clause-read
case-returns-in_err-common-clause-read t c =
    let p = err_from_is_err_and c.from_residual-in_err-common.result c.from_residual-in_err-common.ensures.1 in
    rw (p.1, p.2) (Rattle.gib_check.proofs.Loops.along c.in_err-common.field-0.0 _ _ (answering.case_ends c.args.around.now.named.now c.args.around.now.variables.now (generic_globals c.args.around.now.named.now).rows c.args.at.span c.args.variable (Rattle.std.proofs.Common.map Rattle.gib_check.specs.Judging.arm_head c.args.arms.now) (λ ts n. Rattle.gib_check.specs.Judging.infer_each_arm (generic_globals c.args.around.now.named.now) (variable_numbers c.args.around.now.variables.now) c.args.at.standing ts (generic_tree c.args.around.now.named.now) (in_scope c.args.state.now) n c.args.arms.now) c.args.state.now c.one_more.new.self (form_at (forms c.one_more.new.self) c.in_ok-ty.ty.0) (c.in_ok-ty-2.ty.name, Rattle.gib_types.specs.Types.forms_at (forms c.one_more.new.self) c.in_ok-ty-2.ty.arguments.items) (parts_in c.arm_results.new.state c.in_ok-parts.parts.items) c.arm_results.new.state.counts (record { read = c.in_ok-one_more.ensures.counts; kept = c.one_more.ensures.scope; types = c.one_more.ensures.types }) c.in_ok-ty.ensures.read (subst (λ ns. Rattle.gib_check.specs.Faults.declared_type (form_at (forms_of ns) c.in_ok-ty.ty.0) c.args.variable ≡ Rattle.std.proofs.Common.Ok (c.in_ok-ty-2.ty.name, Rattle.gib_types.specs.Types.forms_at (forms_of ns) c.in_ok-ty-2.ty.arguments.items)) c.types.ensures c.in_ok-ty-2.ensures.read) c.in_ok-all_declared.ensures c.in_ok-covered.ensures c.in_ok-all_counted.ensures ((λ i. Rattle.gib_check.specs.Judging.infer_each_arm (generic_globals c.args.around.now.named.now) (variable_numbers c.args.around.now.variables.now) c.args.at.standing (Rattle.gib_types.specs.Types.forms_at (forms c.one_more.new.self) (sym c.deref.ensures.value i)) (generic_tree c.args.around.now.named.now) (sym c.one_more.ensures.scope i) c.one_more.new.self.counts c.args.arms.now) ∙ c.in_ok-parts.ensures.read))
    (subst (λ ps. IsFaultOf {B = Results Form × Counts} c.in_err-common.field-0.0 (Rattle.gib_check.specs.Faults.and_then {B = Results Form × Counts} (Rattle.gib_check.specs.Faults.all_of (Rattle.gib_check.specs.Faults.first_type ps) ps) (λ _. Rattle.std.proofs.Common.Ok (Rattle.gib_check.specs.Faults.first_type ps, c.arm_results.new.state.counts)))) (ap (parts_in c.arm_results.new.state) c.deref-2.ensures.value) (answering.fault_with c.in_err-common.field-0.0 (Rattle.gib_check.specs.Faults.all_of (Rattle.gib_check.specs.Faults.first_type (parts_in c.arm_results.new.state c.deref-2.result.now)) (parts_in c.arm_results.new.state c.deref-2.result.now)) (Rattle.gib_check.specs.Faults.first_type (parts_in c.arm_results.new.state c.deref-2.result.now)) c.arm_results.new.state.counts c.in_err-common.ensures.read)))

pub case-returns-clause-read : goal.case-returns-clause-read
case-returns-clause-read t c =
    answering.case_ends c.args.around.now.named.now c.args.around.now.variables.now (generic_globals c.args.around.now.named.now).rows c.args.at.span c.args.variable (Rattle.std.proofs.Common.map Rattle.gib_check.specs.Judging.arm_head c.args.arms.now) (λ ts n. Rattle.gib_check.specs.Judging.infer_each_arm (generic_globals c.args.around.now.named.now) (variable_numbers c.args.around.now.variables.now) c.args.at.standing ts (generic_tree c.args.around.now.named.now) (in_scope c.args.state.now) n c.args.arms.now) c.args.state.now c.one_more.new.self (form_at (forms c.one_more.new.self) c.in_ok-ty.ty.0) (c.in_ok-ty-2.ty.name, Rattle.gib_types.specs.Types.forms_at (forms c.one_more.new.self) c.in_ok-ty-2.ty.arguments.items) (parts_in c.arm_results.new.state c.in_ok-parts.parts.items) c.arm_results.new.state.counts (record { read = c.in_ok-one_more.ensures.counts; kept = c.one_more.ensures.scope; types = c.one_more.ensures.types }) c.in_ok-ty.ensures.read (subst (λ ns. Rattle.gib_check.specs.Faults.declared_type (form_at (forms_of ns) c.in_ok-ty.ty.0) c.args.variable ≡ Rattle.std.proofs.Common.Ok (c.in_ok-ty-2.ty.name, Rattle.gib_types.specs.Types.forms_at (forms_of ns) c.in_ok-ty-2.ty.arguments.items)) c.types.ensures c.in_ok-ty-2.ensures.read) c.in_ok-all_declared.ensures c.in_ok-covered.ensures c.in_ok-all_counted.ensures ((λ i. Rattle.gib_check.specs.Judging.infer_each_arm (generic_globals c.args.around.now.named.now) (variable_numbers c.args.around.now.variables.now) c.args.at.standing (Rattle.gib_types.specs.Types.forms_at (forms c.one_more.new.self) (sym c.deref.ensures.value i)) (generic_tree c.args.around.now.named.now) (sym c.one_more.ensures.scope i) c.one_more.new.self.counts c.args.arms.now) ∙ c.in_ok-parts.ensures.read)
    ∙ subst (λ ps. Rattle.gib_check.specs.Faults.and_then {B = Results Form × Counts} (Rattle.gib_check.specs.Faults.all_of (Rattle.gib_check.specs.Faults.first_type ps) ps) (λ _. Rattle.std.proofs.Common.Ok (Rattle.gib_check.specs.Faults.first_type ps, c.arm_results.new.state.counts)) ≡ Rattle.std.proofs.Common.Ok (forms_given c.common_type.new.state c.in_ok-common.common, c.arm_results.new.state.counts)) (ap (parts_in c.arm_results.new.state) c.deref-2.ensures.value) (answering.ok_with (Rattle.gib_check.specs.Faults.all_of (Rattle.gib_check.specs.Faults.first_type (parts_in c.arm_results.new.state c.deref-2.result.now)) (parts_in c.arm_results.new.state c.deref-2.result.now)) (Rattle.gib_check.specs.Faults.first_type (parts_in c.arm_results.new.state c.deref-2.result.now)) (forms_given c.common_type.new.state c.in_ok-common.common) c.arm_results.new.state.counts c.in_ok-common.ensures.read)
    ∙ ap (λ (n : Rattle.gib_check.specs.declared.counts.Counts.Counts). Rattle.std.proofs.Common.Ok (forms_given c.common_type.new.state c.in_ok-common.common, n)) (sym c.common_type.ensures.counts)

pub arm_result-returns-clause-met : goal.arm_result-returns-clause-met
arm_result-returns-clause-met t c =
    record { advances = (advances_on c.args.state.now c.infer.new.state c.truncate.new.self (advances_on c.args.state.now c.bind_all.new.self c.infer.new.state (advances_on c.args.state.now c.fields_named.new.state c.bind_all.new.self (keeps_advance c.args.state.now c.fields_named.new.state c.fields_named.ensures.keeps) (same_advance c.fields_named.new.state c.bind_all.new.self c.bind_all.ensures.types c.bind_all.ensures.parts)) c.in_ok-given.ensures.met.advances) (same_advance c.infer.new.state c.truncate.new.self c.truncate.ensures.types c.truncate.ensures.parts)); here = met_stays c.infer.new.state c.truncate.new.self c.in_ok-given.given (same_advance c.infer.new.state c.truncate.new.self c.truncate.ensures.types c.truncate.ensures.parts) c.in_ok-given.ensures.met.here }

pub case-returns-clause-met : goal.case-returns-clause-met
case-returns-clause-met t c =
    record { advances = (advances_on c.args.state.now c.arm_results.new.state c.common_type.new.state (advances_on c.args.state.now c.one_more.new.self c.arm_results.new.state (same_advance c.args.state.now c.one_more.new.self c.one_more.ensures.types c.one_more.ensures.parts) c.in_ok-parts.ensures.met.advances) c.in_ok-common.ensures.met.advances); here = c.in_ok-common.ensures.met.here }

pub case-returns-clause-kept : goal.case-returns-clause-kept
case-returns-clause-kept t c = c.common_type.ensures.scope ∙ c.in_ok-parts.ensures.kept ∙ c.one_more.ensures.scope

pub operation-returns-clause-met : goal.operation-returns-clause-met
operation-returns-clause-met t c =
    record { advances = (advances_on c.args.state.now c.infer-2.new.state c.put.new.self (advances_on c.args.state.now c.infer.new.state c.infer-2.new.state (advances_on c.args.state.now c.one_more.new.self c.infer.new.state (same_advance c.args.state.now c.one_more.new.self c.one_more.ensures.types c.one_more.ensures.parts) c.in_ok-left_ty.ensures.met.advances) c.in_ok-right_ty.ensures.met.advances) (keeps_advance c.infer-2.new.state c.put.new.self c.put.ensures.keeps)); here = c.in_ok-id.ensures.met.below }

pub operation-returns-clause-kept : goal.operation-returns-clause-kept
operation-returns-clause-kept t c = c.put.ensures.keeps.scope ∙ c.in_ok-right_ty.ensures.kept ∙ c.in_ok-left_ty.ensures.kept ∙ c.one_more.ensures.scope

pub if_else-returns-clause-met : goal.if_else-returns-clause-met
if_else-returns-clause-met t c =
    record { advances = (advances_on c.args.state.now c.infer-2.new.state c.infer-3.new.state (advances_on c.args.state.now c.infer.new.state c.infer-2.new.state (advances_on c.args.state.now c.one_more.new.self c.infer.new.state (same_advance c.args.state.now c.one_more.new.self c.one_more.ensures.types c.one_more.ensures.parts) c.in_ok-condition_ty.ensures.met.advances) c.in_ok-then_ty.ensures.met.advances) c.in_ok-else_ty.ensures.met.advances); here = met_stays c.infer-2.new.state c.infer-3.new.state c.in_ok-then_ty.then_ty c.in_ok-else_ty.ensures.met.advances c.in_ok-then_ty.ensures.met.here }

pub if_else-returns-clause-kept : goal.if_else-returns-clause-kept
if_else-returns-clause-kept t c = c.in_ok-else_ty.ensures.kept ∙ c.in_ok-then_ty.ensures.kept ∙ c.in_ok-condition_ty.ensures.kept ∙ c.one_more.ensures.scope

pub arguments-returns-clause-met : goal.arguments-returns-clause-met
arguments-returns-clause-met t c = c.arguments.invariant.met

pub arguments-returns-clause-kept : goal.arguments-returns-clause-kept
arguments-returns-clause-kept t c = c.arguments.invariant.scope

pub arm_results-returns-clause-met : goal.arm_results-returns-clause-met
arm_results-returns-clause-met t c = c.arms.invariant.met

pub arm_results-returns-clause-kept : goal.arm_results-returns-clause-kept
arm_results-returns-clause-kept t c = c.arms.invariant.scope

pub infer_let-returns-in_err-value-clause-read : goal.infer_let-returns-in_err-value-clause-read
infer_let-returns-in_err-value-clause-read t c =
    let p = err_from_is_err_and c.from_residual-in_err-value.result c.from_residual-in_err-value.ensures.1 in
    rw (p.1, p.2) (walking.let_fails c.args.around.now.named.now c.args.around.now.variables.now c.args.at.standing c.args.at.span c.args.names.now (generic_tree c.args.around.now.named.now c.args.sides.left.0) (generic_tree c.args.around.now.named.now c.args.sides.right.0) c.in_err-value.field-0.0 c.args.state.now c.one_more.new.self (record { read = c.in_ok-one_more.ensures.counts; kept = c.one_more.ensures.scope; types = c.one_more.ensures.types }) (subst (λ st. IsFaultOf c.in_err-value.field-0.0 (infer (generic_globals c.args.around.now.named.now) (variable_numbers c.args.around.now.variables.now) opaque st (in_scope c.one_more.new.self) c.one_more.new.self.counts (generic_tree c.args.around.now.named.now c.args.sides.left.0))) c.standing_for.ensures c.in_err-value.ensures.read))

pub infer_let-returns-in_err-bind_given-clause-read : goal.infer_let-returns-in_err-bind_given-clause-read
infer_let-returns-in_err-bind_given-clause-read t c =
    let p = err_from_is_err_and c.from_residual-in_err-bind_given.result c.from_residual-in_err-bind_given.ensures.1 in
    rw (p.1, p.2) (walking.let_bind c.args.around.now.named.now c.args.around.now.variables.now c.args.at.standing c.args.at.span c.args.names.now (generic_tree c.args.around.now.named.now c.args.sides.left.0) (generic_tree c.args.around.now.named.now c.args.sides.right.0) c.in_err-bind_given.field-0.0 c.args.state.now c.one_more.new.self c.infer.new.state c.in_ok-value.value (record { read = c.in_ok-one_more.ensures.counts; kept = c.one_more.ensures.scope; types = c.one_more.ensures.types }) (record { read = (subst (λ st. infer (generic_globals c.args.around.now.named.now) (variable_numbers c.args.around.now.variables.now) opaque st (in_scope c.one_more.new.self) c.one_more.new.self.counts (generic_tree c.args.around.now.named.now c.args.sides.left.0) ≡ Rattle.std.proofs.Common.Ok (forms_given c.infer.new.state c.in_ok-value.value, c.infer.new.state.counts)) c.standing_for.ensures c.in_ok-value.ensures.read); kept = c.in_ok-value.ensures.kept; met = c.in_ok-value.ensures.met }) (walking.seen (λ z. IsFaultOf c.in_err-bind_given.field-0.0 (bind_given (in_scope c.infer.new.state) c.infer.new.state.counts c.args.names.now z)) c.infer.new.state c.part.result (record { ty = c.in_ok-value.value; place = place (generic_tree c.args.around.now.named.now c.args.sides.left.0) }) c.part.ensures c.in_err-bind_given.ensures.read))

pub infer_let-returns-in_err-given-clause-read : goal.infer_let-returns-in_err-given-clause-read
infer_let-returns-in_err-given-clause-read t c =
    let p = err_from_is_err_and c.from_residual-in_err-given.result c.from_residual-in_err-given.ensures.1 in
    rw (p.1, p.2) (along c.in_err-given.field-0.0 _ _ (walking.let_is c.args.around.now.named.now c.args.around.now.variables.now c.args.at.standing c.args.at.span c.args.names.now (generic_tree c.args.around.now.named.now c.args.sides.left.0) (generic_tree c.args.around.now.named.now c.args.sides.right.0) c.args.state.now c.one_more.new.self c.infer.new.state c.bind_given.new.state c.in_ok-value.value (record { read = c.in_ok-one_more.ensures.counts; kept = c.one_more.ensures.scope; types = c.one_more.ensures.types }) (record { read = (subst (λ st. infer (generic_globals c.args.around.now.named.now) (variable_numbers c.args.around.now.variables.now) opaque st (in_scope c.one_more.new.self) c.one_more.new.self.counts (generic_tree c.args.around.now.named.now c.args.sides.left.0) ≡ Rattle.std.proofs.Common.Ok (forms_given c.infer.new.state c.in_ok-value.value, c.infer.new.state.counts)) c.standing_for.ensures c.in_ok-value.ensures.read); kept = c.in_ok-value.ensures.kept; met = c.in_ok-value.ensures.met }) (walking.seen (λ z. bind_given (in_scope c.infer.new.state) c.infer.new.state.counts c.args.names.now z ≡ Rattle.std.proofs.Common.Ok (in_scope c.bind_given.new.state, c.bind_given.new.state.counts)) c.infer.new.state c.part.result (record { ty = c.in_ok-value.value; place = place (generic_tree c.args.around.now.named.now c.args.sides.left.0) }) c.part.ensures c.in_ok-bind_given.ensures.read)) c.in_err-given.ensures.read)

pub infer_let-returns-clause-read : goal.infer_let-returns-clause-read
infer_let-returns-clause-read t c =
    walking.let_is c.args.around.now.named.now c.args.around.now.variables.now c.args.at.standing c.args.at.span c.args.names.now (generic_tree c.args.around.now.named.now c.args.sides.left.0) (generic_tree c.args.around.now.named.now c.args.sides.right.0) c.args.state.now c.one_more.new.self c.infer.new.state c.bind_given.new.state c.in_ok-value.value (record { read = c.in_ok-one_more.ensures.counts; kept = c.one_more.ensures.scope; types = c.one_more.ensures.types }) (record { read = (subst (λ st. infer (generic_globals c.args.around.now.named.now) (variable_numbers c.args.around.now.variables.now) opaque st (in_scope c.one_more.new.self) c.one_more.new.self.counts (generic_tree c.args.around.now.named.now c.args.sides.left.0) ≡ Rattle.std.proofs.Common.Ok (forms_given c.infer.new.state c.in_ok-value.value, c.infer.new.state.counts)) c.standing_for.ensures c.in_ok-value.ensures.read); kept = c.in_ok-value.ensures.kept; met = c.in_ok-value.ensures.met }) (walking.seen (λ z. bind_given (in_scope c.infer.new.state) c.infer.new.state.counts c.args.names.now z ≡ Rattle.std.proofs.Common.Ok (in_scope c.bind_given.new.state, c.bind_given.new.state.counts)) c.infer.new.state c.part.result (record { ty = c.in_ok-value.value; place = place (generic_tree c.args.around.now.named.now c.args.sides.left.0) }) c.part.ensures c.in_ok-bind_given.ensures.read)
    ∙ c.in_ok-given.ensures.read
    ∙ answering.same_answer c.infer-2.new.state c.truncate.new.self c.in_ok-given.given (same_advance c.infer-2.new.state c.truncate.new.self c.truncate.ensures.types c.truncate.ensures.parts) c.in_ok-given.ensures.met.here c.truncate.ensures.counts

pub infer_let-returns-clause-kept : goal.infer_let-returns-clause-kept
infer_let-returns-clause-kept t c =
    answering.parts_dropped (in_scope c.infer.new.state) (in_scope c.infer-2.new.state) (in_scope c.truncate.new.self) c.in_ok-bind_given.ensures.kept.0 c.len-len.result
    (c.in_ok-given.ensures.kept ∙ c.in_ok-bind_given.ensures.kept.1) c.len-len.ensures c.in_ok-truncate.ensures.scope
    ∙ c.in_ok-value.ensures.kept ∙ c.one_more.ensures.scope

pub infer_let-returns-clause-met : goal.infer_let-returns-clause-met
infer_let-returns-clause-met t c =
    record { advances = (advances_on c.args.state.now c.infer-2.new.state c.truncate.new.self (advances_on c.args.state.now c.bind_given.new.state c.infer-2.new.state (advances_on c.args.state.now c.infer.new.state c.bind_given.new.state (advances_on c.args.state.now c.one_more.new.self c.infer.new.state (same_advance c.args.state.now c.one_more.new.self c.one_more.ensures.types c.one_more.ensures.parts) c.in_ok-value.ensures.met.advances) (same_advance c.infer.new.state c.bind_given.new.state c.bind_given.ensures.types c.bind_given.ensures.parts)) c.in_ok-given.ensures.met.advances) (same_advance c.infer-2.new.state c.truncate.new.self c.truncate.ensures.types c.truncate.ensures.parts)); here = met_stays c.infer-2.new.state c.truncate.new.self c.in_ok-given.given (same_advance c.infer-2.new.state c.truncate.new.self c.truncate.ensures.types c.truncate.ensures.parts) c.in_ok-given.ensures.met.here }

pub infer_let-bind_given-requires : goal.infer_let-bind_given-requires
infer_let-bind_given-requires t c =
    subst (λ (q : Part). AreMet c.infer.new.state q.ty) (sym c.part.ensures) c.in_ok-value.ensures.met.here

pub infer_par-returns-in_err-left-clause-read : goal.infer_par-returns-in_err-left-clause-read
infer_par-returns-in_err-left-clause-read t c =
    let p = err_from_is_err_and c.from_residual-in_err-left.result c.from_residual-in_err-left.ensures.1 in
    rw (p.1, p.2) (walking.par_fails_left c.args.around.now.named.now c.args.around.now.variables.now c.args.at.standing c.args.at.span c.args.names.now.left.now (generic_tree c.args.around.now.named.now c.args.parts.left.0) c.args.names.now.right.now (generic_tree c.args.around.now.named.now c.args.parts.right.0) (generic_tree c.args.around.now.named.now c.args.parts.body.0) c.in_err-left.field-0.0 c.args.state.now c.one_more.new.self (record { read = c.in_ok-one_more.ensures.counts; kept = c.one_more.ensures.scope; types = c.one_more.ensures.types }) (subst (λ st. IsFaultOf c.in_err-left.field-0.0 (infer (generic_globals c.args.around.now.named.now) (variable_numbers c.args.around.now.variables.now) opaque st (in_scope c.one_more.new.self) c.one_more.new.self.counts (generic_tree c.args.around.now.named.now c.args.parts.left.0))) c.standing_for.ensures c.in_err-left.ensures.read))

pub infer_par-returns-in_err-right-clause-read : goal.infer_par-returns-in_err-right-clause-read
infer_par-returns-in_err-right-clause-read t c =
    let p = err_from_is_err_and c.from_residual-in_err-right.result c.from_residual-in_err-right.ensures.1 in
    rw (p.1, p.2) (walking.par_fails_right c.args.around.now.named.now c.args.around.now.variables.now c.args.at.standing c.args.at.span c.args.names.now.left.now (generic_tree c.args.around.now.named.now c.args.parts.left.0) c.args.names.now.right.now (generic_tree c.args.around.now.named.now c.args.parts.right.0) (generic_tree c.args.around.now.named.now c.args.parts.body.0) c.in_err-right.field-0.0 c.args.state.now c.one_more.new.self c.infer.new.state c.in_ok-left.left (record { read = c.in_ok-one_more.ensures.counts; kept = c.one_more.ensures.scope; types = c.one_more.ensures.types }) (record { read = (subst (λ st. infer (generic_globals c.args.around.now.named.now) (variable_numbers c.args.around.now.variables.now) opaque st (in_scope c.one_more.new.self) c.one_more.new.self.counts (generic_tree c.args.around.now.named.now c.args.parts.left.0) ≡ Rattle.std.proofs.Common.Ok (forms_given c.infer.new.state c.in_ok-left.left, c.infer.new.state.counts)) c.standing_for.ensures c.in_ok-left.ensures.read); kept = c.in_ok-left.ensures.kept; met = c.in_ok-left.ensures.met }) (subst (λ st. IsFaultOf c.in_err-right.field-0.0 (infer (generic_globals c.args.around.now.named.now) (variable_numbers c.args.around.now.variables.now) opaque st (in_scope c.infer.new.state) c.infer.new.state.counts (generic_tree c.args.around.now.named.now c.args.parts.right.0))) c.standing_for-2.ensures c.in_err-right.ensures.read))

pub infer_par-returns-in_err-bind_sides-clause-read : goal.infer_par-returns-in_err-bind_sides-clause-read
infer_par-returns-in_err-bind_sides-clause-read t c =
    let p = err_from_is_err_and c.from_residual-in_err-bind_sides.result c.from_residual-in_err-bind_sides.ensures.1 in
    rw (p.1, p.2) (walking.par_bind c.args.around.now.named.now c.args.around.now.variables.now c.args.at.standing c.args.at.span c.args.names.now.left.now (generic_tree c.args.around.now.named.now c.args.parts.left.0) c.args.names.now.right.now (generic_tree c.args.around.now.named.now c.args.parts.right.0) (generic_tree c.args.around.now.named.now c.args.parts.body.0) c.in_err-bind_sides.field-0.0 c.args.state.now c.one_more.new.self c.infer.new.state c.infer-2.new.state c.in_ok-left.left c.in_ok-right.right (record { read = c.in_ok-one_more.ensures.counts; kept = c.one_more.ensures.scope; types = c.one_more.ensures.types }) (record { read = (subst (λ st. infer (generic_globals c.args.around.now.named.now) (variable_numbers c.args.around.now.variables.now) opaque st (in_scope c.one_more.new.self) c.one_more.new.self.counts (generic_tree c.args.around.now.named.now c.args.parts.left.0) ≡ Rattle.std.proofs.Common.Ok (forms_given c.infer.new.state c.in_ok-left.left, c.infer.new.state.counts)) c.standing_for.ensures c.in_ok-left.ensures.read); kept = c.in_ok-left.ensures.kept; met = c.in_ok-left.ensures.met }) (record { read = (subst (λ st. infer (generic_globals c.args.around.now.named.now) (variable_numbers c.args.around.now.variables.now) opaque st (in_scope c.infer.new.state) c.infer.new.state.counts (generic_tree c.args.around.now.named.now c.args.parts.right.0) ≡ Rattle.std.proofs.Common.Ok (forms_given c.infer-2.new.state c.in_ok-right.right, c.infer-2.new.state.counts)) c.standing_for-2.ensures c.in_ok-right.ensures.read); kept = c.in_ok-right.ensures.kept; met = c.in_ok-right.ensures.met }) (subst₂ (λ x y. IsFaultOf c.in_err-bind_sides.field-0.0 (bind_sides (in_scope c.infer-2.new.state) c.infer-2.new.state.counts c.args.names.now.left.now (part_in c.infer-2.new.state x) c.args.names.now.right.now (part_in c.infer-2.new.state y))) c.part-left.ensures c.part-right.ensures c.in_err-bind_sides.ensures.read))

pub infer_par-returns-in_err-given-clause-read : goal.infer_par-returns-in_err-given-clause-read
infer_par-returns-in_err-given-clause-read t c =
    let p = err_from_is_err_and c.from_residual-in_err-given.result c.from_residual-in_err-given.ensures.1 in
    rw (p.1, p.2) (along c.in_err-given.field-0.0 _ _ (walking.par_is c.args.around.now.named.now c.args.around.now.variables.now c.args.at.standing c.args.at.span c.args.names.now.left.now (generic_tree c.args.around.now.named.now c.args.parts.left.0) c.args.names.now.right.now (generic_tree c.args.around.now.named.now c.args.parts.right.0) (generic_tree c.args.around.now.named.now c.args.parts.body.0) c.args.state.now c.one_more.new.self c.infer.new.state c.infer-2.new.state c.bind_sides.new.state c.in_ok-left.left c.in_ok-right.right (record { read = c.in_ok-one_more.ensures.counts; kept = c.one_more.ensures.scope; types = c.one_more.ensures.types }) (record { read = (subst (λ st. infer (generic_globals c.args.around.now.named.now) (variable_numbers c.args.around.now.variables.now) opaque st (in_scope c.one_more.new.self) c.one_more.new.self.counts (generic_tree c.args.around.now.named.now c.args.parts.left.0) ≡ Rattle.std.proofs.Common.Ok (forms_given c.infer.new.state c.in_ok-left.left, c.infer.new.state.counts)) c.standing_for.ensures c.in_ok-left.ensures.read); kept = c.in_ok-left.ensures.kept; met = c.in_ok-left.ensures.met }) (record { read = (subst (λ st. infer (generic_globals c.args.around.now.named.now) (variable_numbers c.args.around.now.variables.now) opaque st (in_scope c.infer.new.state) c.infer.new.state.counts (generic_tree c.args.around.now.named.now c.args.parts.right.0) ≡ Rattle.std.proofs.Common.Ok (forms_given c.infer-2.new.state c.in_ok-right.right, c.infer-2.new.state.counts)) c.standing_for-2.ensures c.in_ok-right.ensures.read); kept = c.in_ok-right.ensures.kept; met = c.in_ok-right.ensures.met }) (subst₂ (λ x y. bind_sides (in_scope c.infer-2.new.state) c.infer-2.new.state.counts c.args.names.now.left.now (part_in c.infer-2.new.state x) c.args.names.now.right.now (part_in c.infer-2.new.state y) ≡ Rattle.std.proofs.Common.Ok (in_scope c.bind_sides.new.state, c.bind_sides.new.state.counts)) c.part-left.ensures c.part-right.ensures c.in_ok-bind_sides.ensures.read)) c.in_err-given.ensures.read)

pub infer_par-returns-clause-read : goal.infer_par-returns-clause-read
infer_par-returns-clause-read t c =
    walking.par_is c.args.around.now.named.now c.args.around.now.variables.now c.args.at.standing c.args.at.span c.args.names.now.left.now (generic_tree c.args.around.now.named.now c.args.parts.left.0) c.args.names.now.right.now (generic_tree c.args.around.now.named.now c.args.parts.right.0) (generic_tree c.args.around.now.named.now c.args.parts.body.0) c.args.state.now c.one_more.new.self c.infer.new.state c.infer-2.new.state c.bind_sides.new.state c.in_ok-left.left c.in_ok-right.right (record { read = c.in_ok-one_more.ensures.counts; kept = c.one_more.ensures.scope; types = c.one_more.ensures.types }) (record { read = (subst (λ st. infer (generic_globals c.args.around.now.named.now) (variable_numbers c.args.around.now.variables.now) opaque st (in_scope c.one_more.new.self) c.one_more.new.self.counts (generic_tree c.args.around.now.named.now c.args.parts.left.0) ≡ Rattle.std.proofs.Common.Ok (forms_given c.infer.new.state c.in_ok-left.left, c.infer.new.state.counts)) c.standing_for.ensures c.in_ok-left.ensures.read); kept = c.in_ok-left.ensures.kept; met = c.in_ok-left.ensures.met }) (record { read = (subst (λ st. infer (generic_globals c.args.around.now.named.now) (variable_numbers c.args.around.now.variables.now) opaque st (in_scope c.infer.new.state) c.infer.new.state.counts (generic_tree c.args.around.now.named.now c.args.parts.right.0) ≡ Rattle.std.proofs.Common.Ok (forms_given c.infer-2.new.state c.in_ok-right.right, c.infer-2.new.state.counts)) c.standing_for-2.ensures c.in_ok-right.ensures.read); kept = c.in_ok-right.ensures.kept; met = c.in_ok-right.ensures.met }) (subst₂ (λ x y. bind_sides (in_scope c.infer-2.new.state) c.infer-2.new.state.counts c.args.names.now.left.now (part_in c.infer-2.new.state x) c.args.names.now.right.now (part_in c.infer-2.new.state y) ≡ Rattle.std.proofs.Common.Ok (in_scope c.bind_sides.new.state, c.bind_sides.new.state.counts)) c.part-left.ensures c.part-right.ensures c.in_ok-bind_sides.ensures.read)
    ∙ c.in_ok-given.ensures.read
    ∙ answering.same_answer c.infer-3.new.state c.truncate.new.self c.in_ok-given.given (same_advance c.infer-3.new.state c.truncate.new.self c.truncate.ensures.types c.truncate.ensures.parts) c.in_ok-given.ensures.met.here c.truncate.ensures.counts

pub infer_par-returns-clause-kept : goal.infer_par-returns-clause-kept
infer_par-returns-clause-kept t c =
    answering.parts_dropped (in_scope c.infer-2.new.state) (in_scope c.infer-3.new.state) (in_scope c.truncate.new.self) c.in_ok-bind_sides.ensures.kept.0 c.len-len.result
    (c.in_ok-given.ensures.kept ∙ c.in_ok-bind_sides.ensures.kept.1) c.len-len.ensures c.in_ok-truncate.ensures.scope
    ∙ c.in_ok-right.ensures.kept ∙ c.in_ok-left.ensures.kept ∙ c.one_more.ensures.scope

pub infer_par-returns-clause-met : goal.infer_par-returns-clause-met
infer_par-returns-clause-met t c =
    record { advances = (advances_on c.args.state.now c.infer-3.new.state c.truncate.new.self (advances_on c.args.state.now c.bind_sides.new.state c.infer-3.new.state (advances_on c.args.state.now c.infer-2.new.state c.bind_sides.new.state (advances_on c.args.state.now c.infer.new.state c.infer-2.new.state (advances_on c.args.state.now c.one_more.new.self c.infer.new.state (same_advance c.args.state.now c.one_more.new.self c.one_more.ensures.types c.one_more.ensures.parts) c.in_ok-left.ensures.met.advances) c.in_ok-right.ensures.met.advances) (same_advance c.infer-2.new.state c.bind_sides.new.state c.bind_sides.ensures.types c.bind_sides.ensures.parts)) c.in_ok-given.ensures.met.advances) (same_advance c.infer-3.new.state c.truncate.new.self c.truncate.ensures.types c.truncate.ensures.parts)); here = met_stays c.infer-3.new.state c.truncate.new.self c.in_ok-given.given (same_advance c.infer-3.new.state c.truncate.new.self c.truncate.ensures.types c.truncate.ensures.parts) c.in_ok-given.ensures.met.here }

pub infer_par-bind_sides-requires-clause-left : goal.infer_par-bind_sides-requires-clause-left
infer_par-bind_sides-requires-clause-left t c =
    subst (λ (q : Part). AreMet c.infer-2.new.state q.ty) (sym c.part-left.ensures) (met_stays c.infer.new.state c.infer-2.new.state c.in_ok-left.left c.in_ok-right.ensures.met.advances c.in_ok-left.ensures.met.here)

pub infer_par-bind_sides-requires-clause-right : goal.infer_par-bind_sides-requires-clause-right
infer_par-bind_sides-requires-clause-right t c =
    subst (λ (q : Part). AreMet c.infer-2.new.state q.ty) (sym c.part-right.ensures) c.in_ok-right.ensures.met.here

pub infer_binding-returns-in-Let-clause-read : goal.infer_binding-returns-in-Let-clause-read
infer_binding-returns-in-Let-clause-read t c =
    gives_same (λ ty. (forms_given c.infer_let.new.state ty, c.infer_let.new.state.counts)) c.infer_let.result _ _
    (ap (infer (generic_globals c.args.around.now.named.now) (variable_numbers c.args.around.now.variables.now) opaque c.args.standing (in_scope c.args.state.now) c.args.state.now.counts)
    (c.requires.opens.0 ∙ ap (λ z. layer c.args.around.now.named.now.exprs.words (tree_of c.args.around.now.named.now.exprs) (Some z)) c.in-Let.is
    ∙ ap (λ xs. GenericLet c.in-Let.span xs (generic_tree c.args.around.now.named.now c.in-Let.bound.0) (generic_tree c.args.around.now.named.now c.in-Let.body.0)) (sym c.as_slice.ensures))
    ∙ ap₂ (λ (a : At) (u : Sides). infer (generic_globals c.args.around.now.named.now) (variable_numbers c.args.around.now.variables.now) opaque a.standing (in_scope c.args.state.now) c.args.state.now.counts (GenericLet a.span c.as_slice.result.now (generic_tree c.args.around.now.named.now u.left.0) (generic_tree c.args.around.now.named.now u.right.0))) (sym c.new-at.ensures) (sym c.new-sides.ensures))
    c.infer_let.ensures.read

pub infer_binding-returns-in-LetPar-clause-read : goal.infer_binding-returns-in-LetPar-clause-read
infer_binding-returns-in-LetPar-clause-read t c =
    gives_same (λ ty. (forms_given c.infer_par.new.state ty, c.infer_par.new.state.counts)) c.infer_par.result _ _
    (ap (infer (generic_globals c.args.around.now.named.now) (variable_numbers c.args.around.now.variables.now) opaque c.args.standing (in_scope c.args.state.now) c.args.state.now.counts)
    (c.requires.opens.0 ∙ ap (λ z. layer c.args.around.now.named.now.exprs.words (tree_of c.args.around.now.named.now.exprs) (Some z)) c.in-LetPar.is
    ∙ ap₂ (λ xs ys. GenericPar c.in-LetPar.span xs (generic_tree c.args.around.now.named.now c.in-LetPar.left.value.0) ys (generic_tree c.args.around.now.named.now c.in-LetPar.right.value.0) (generic_tree c.args.around.now.named.now c.in-LetPar.body.0)) (sym c.as_slice-in-LetPar.ensures) (sym c.as_slice-in-LetPar-2.ensures))
    ∙ ap (λ (a : At). infer (generic_globals c.args.around.now.named.now) (variable_numbers c.args.around.now.variables.now) opaque a.standing (in_scope c.args.state.now) c.args.state.now.counts (GenericPar a.span c.as_slice-in-LetPar.result.now (generic_tree c.args.around.now.named.now c.in-LetPar.left.value.0) c.as_slice-in-LetPar-2.result.now (generic_tree c.args.around.now.named.now c.in-LetPar.right.value.0) (generic_tree c.args.around.now.named.now c.in-LetPar.body.0))) (sym c.new-at-in-LetPar.ensures))
    c.infer_par.ensures.read
