use Rattle.std.proofs.Common.{refl, sym, ap, ◌∙◌, subst, Some, true, false, length, map, rules}
use Rattle.gib_types.specs.Table.{at_fields}
use Rattle.gib_core.specs.PartTypes.{types_in}
use Rattle.gib_core.specs.Inferring.{atom_at, bound_side as of_names}
use Rattle.gib_syntax.specs.Declarations.{type_of_name}
use Rattle.gib_syntax.specs.Typing.{names_of, types_of}
use Rattle.gib_syntax.specs.Arena.{tree_of, layer, PartsBelow}
use Rattle.gib_infer.specs.Made.{code_at, globals_in, scope_of, AreBindingsBelow, Enters}
use Rattle.gib_infer.proofs.Making.{boxed_made, operation_made, let_made, if_made}
use Rattle.gib_infer.proofs.Calls.{call_line_made, call_side_made, scalar_call_made, region_call_made, make_made, selected_below}
use Rattle.gib_infer.proofs.Parting.{parts_next, parts_end, tuple_made, tuple_opened, several_let, several_par, one_named, not_one_named, several_named}
use Rattle.gib_infer.proofs.Cases.{case_next, case_end, one_branch, case_opened, lines_same}
use Rattle.gib_infer.proofs.walk.+infer.Goals as goal

pub bound_line-returns : goal.bound_line-returns
bound_line-returns t c =
    boxed_made c.args.work.now c.new_variable.new.work c.line.new.work c.args.bindings.now.items c.push_bound.new.bindings.items c.in_ok-variable.variable c.in_ok-term.term c.in_ok-term.ty (code_at c.args.typed.now c.args.typed.now.exprs c.args.id.0).line c.in_ok-variable.ensures.variable c.in_ok-variable.ensures.new c.requires.bindings c.in_ok-term.ensures c.in_ok-push_bound.ensures

pub operation-returns : goal.operation-returns
operation-returns t c =
    operation_made c.args.work.now c.atom.new.work c.atom-2.new.work c.new_variable.new.work c.args.bindings.now.items c.atom.new.bindings.items c.atom-2.new.bindings.items c.push.new.self.items c.args.operator c.in_ok-left.left c.in_ok-right.right c.in_ok-left.field-0-1 c.in_ok-right.field-0-1 c.result-ty.result c.in_ok-variable.variable (code_at c.args.typed.now c.args.typed.now.exprs c.args.left.0).atom (code_at c.args.typed.now c.args.typed.now.exprs c.args.right.0).atom c.in_ok-left.ensures c.in_ok-right.ensures c.in_ok-variable.ensures.variable c.in_ok-variable.ensures.new c.in_ok-push.ensures.items c.result-ty.ensures

pub call_line-returns : goal.call_line-returns
call_line-returns t c =
    call_line_made c.args.typed.now c.args.typed.now.exprs c.args.f c.args.ids.now c.result_of-given.result c.unwrap_or.result c.args.work.now c.arguments.new.work c.end_call.new.work c.new-bindings.result.items c.arguments.new.bindings.items c.in_ok-atoms.atoms.items c.in_ok-term.term c.result_of-given.ensures c.unwrap_or.ensures c.new-bindings.ensures.items c.in_ok-atoms.ensures c.in_ok-term.ensures

pub call_side-returns : goal.call_side-returns
call_side-returns t c =
    call_side_made c.args.typed.now c.args.typed.now.exprs c.args.f c.args.ids.now c.result_of-given.result c.unwrap_or.result c.args.work.now c.arguments.new.work c.end_side.new.work c.new-bindings.result.items c.arguments.new.bindings.items c.in_ok-atoms.atoms.items c.in_ok-term.term c.result_of-given.ensures c.unwrap_or.ensures c.new-bindings.ensures.items c.in_ok-atoms.ensures c.in_ok-term.ensures

pub call_atom-returns-in_ok-atom-in-Some : goal.call_atom-returns-in_ok-atom-in-Some
call_atom-returns-in_ok-atom-in-Some t c =
    scalar_call_made c.args.typed.now c.args.typed.now.exprs c.args.f c.args.ids.now c.in-Some.ty c.result_of.result c.args.work.now c.arguments.new.work c.bind_call.new.work c.args.bindings.now.items c.arguments.new.bindings.items c.bind_call.new.bindings.items c.in_ok-atoms-in-Some.atoms.items c.in_ok-atom-in-Some.atom c.result_of.ensures (sym c.scalar_of.ensures ∙ c.in-Some.is) c.in_ok-atoms-in-Some.ensures c.in_ok-atom-in-Some.ensures

pub call_atom-returns-in_ok-push_bound-in-None : goal.call_atom-returns-in_ok-push_bound-in-None
call_atom-returns-in_ok-push_bound-in-None t c =
    region_call_made c.args.typed.now c.args.typed.now.exprs c.args.f c.args.ids.now c.result_of.result c.in_ok-term-in-None.ty c.args.work.now c.new_variable.new.work c.call_line.new.work c.args.bindings.now.items c.push_bound.new.bindings.items c.in_ok-variable-in-None.variable c.in_ok-term-in-None.term c.result_of.ensures (sym c.scalar_of.ensures ∙ c.in-None.is) c.in_ok-variable-in-None.ensures.variable c.in_ok-variable-in-None.ensures.new c.requires.bindings c.in_ok-term-in-None.ensures c.in_ok-push_bound-in-None.ensures

pub tuple-arguments-requires : goal.tuple-arguments-requires
tuple-arguments-requires t c =
    (search rules, (c.requires.inside, (selected_below c.args.id.0 true c.deref.result.now c.args.ids.now c.deref-2.result.now (c.deref-2.ensures.value ∙ c.in_ok-scalars.ensures) c.requires.below, subst (λ z. AreBindingsBelow (length c.args.work.now.terms) z) (sym c.new-bindings.ensures.items) tt)))

pub tuple-part_terms-requires : goal.tuple-part_terms-requires
tuple-part_terms-requires t c =
    (search rules, (c.requires.inside, selected_below c.args.id.0 false c.deref-3.result.now c.args.ids.now c.deref-4.result.now (c.deref-4.ensures.value ∙ c.in_ok-packed.ensures) c.requires.below))

pub tuple-returns : goal.tuple-returns
tuple-returns t c =
    let ids = c.args.ids.now in
    let named = map (type_of_name (globals_in c.args.typed.now).table.types) c.args.types.now in
    tuple_made c.args.typed.now c.args.typed.now.exprs named (types_in c.in_ok-types-2.types) ids c.deref-2.result.now c.deref-4.result.now c.args.work.now c.arguments.new.work c.part_terms.new.work (record c.part_terms.new.work { terms = c.put_line.new.self })
    c.new-bindings.result.items c.arguments.new.bindings.items c.in_ok-scalars-2.scalars.items c.in_ok-parts.parts.items c.in_ok-term.term
    (c.deref-2.ensures.value ∙ c.in_ok-scalars.ensures ∙ ap (λ z. at_fields true z ids) (c.deref.ensures.value ∙ c.in_ok-types.ensures))
    (c.deref-4.ensures.value ∙ c.in_ok-packed.ensures ∙ ap (λ z. at_fields false z ids) (c.deref-3.ensures.value ∙ c.in_ok-types.ensures))
    (c.in_ok-types-2.ensures ∙ c.deref-5.ensures.value ∙ c.in_ok-types.ensures) c.new-bindings.ensures.items c.in_ok-scalars-2.ensures c.in_ok-parts.ensures refl refl c.in_ok-term.ensures.grows c.in_ok-term.ensures.inside c.in_ok-term.ensures.term

pub part_terms-parts-preserved : goal.part_terms-parts-preserved
part_terms-parts-preserved t c =
    parts_next c.args.typed.now c.args.typed.now.exprs c.args.id.0 c.args.work.now c.parts.work c.line.new.work c.args.ids.now c.parts.left.now _ c.parts.terms.items c.push.new.self.items c.in_ok-term.term c.in_ok-term.field-0-1 c.in-len1-up.len_at_least c.parts.invariant c.in_ok-term.ensures c.in_ok-push.ensures.items

pub part_terms-returns : goal.part_terms-returns
part_terms-returns t c =
    parts_end c.args.typed.now c.args.typed.now.exprs c.args.id.0 c.args.work.now c.parts.work c.args.ids.now c.parts.left.now c.parts.terms.items c.in_default.len_below c.parts.invariant

pub let_several-returns : goal.let_several-returns
let_several-returns t c =
    several_let c.args.work.now c.bound_names.new.work c.enter.new.work c.line.new.work (record c.line.new.work { terms = c.put.new.self; scope = c.truncate.new.self }) c.len-outer.result c.in_ok-bound.bound
    (of_names (names_of c.args.bound.now.names.now) (types_of (globals_in c.args.typed.now).table.types c.args.bound.now.names.now) (code_at c.args.typed.now c.args.typed.now.exprs c.args.bound.now.value.0) (scope_of c.args.work.now.scope.items) c.args.work.now.fresh)
    c.in_ok-rest.ty (code_at c.args.typed.now c.args.typed.now.exprs c.args.body.0).line c.in_ok-rest.rest c.in_ok-term.term c.in_ok-bound.ensures (c.len-outer.ensures ∙ c.bound_names.new.work.scope.ok.0)
    (subst (λ z. Enters c.bound_names.new.work c.enter.new.work z) c.deref.ensures.value c.in_ok-enter.ensures) c.in_ok-rest.ensures c.truncate.ensures.items refl c.in_ok-term.ensures.made

pub par_several-returns : goal.par_several-returns
par_several-returns t c =
    several_par c.args.work.now c.bound_names.new.work c.bound_names-2.new.work c.enter.new.work c.enter-2.new.work c.line.new.work (record c.line.new.work { terms = c.put.new.self; scope = c.truncate.new.self }) c.len-outer.result c.in_ok-first.first c.in_ok-second.second
    (of_names (names_of c.args.left.now.names.now) (types_of (globals_in c.args.typed.now).table.types c.args.left.now.names.now) (code_at c.args.typed.now c.args.typed.now.exprs c.args.left.now.value.0) (scope_of c.args.work.now.scope.items) c.args.work.now.fresh)
    (of_names (names_of c.args.right.now.names.now) (types_of (globals_in c.args.typed.now).table.types c.args.right.now.names.now) (code_at c.args.typed.now c.args.typed.now.exprs c.args.right.now.value.0))
    c.in_ok-rest.ty (code_at c.args.typed.now c.args.typed.now.exprs c.args.body.0).line c.in_ok-rest.rest c.in_ok-term.term c.in_ok-first.ensures c.in_ok-second.ensures (c.len-outer.ensures ∙ c.bound_names-2.new.work.scope.ok.0)
    (subst (λ z. Enters c.bound_names-2.new.work c.enter.new.work z) c.deref.ensures.value c.in_ok-enter.ensures) (subst (λ z. Enters c.enter.new.work c.enter-2.new.work z) c.deref-2.ensures.value c.in_ok-enter-2.ensures)
    c.in_ok-rest.ensures c.truncate.ensures.items refl c.in_ok-term.ensures.made

pub line-returns-in-Tuple : goal.line-returns-in-Tuple
line-returns-in-Tuple t c =
    lines_same c.args.work.now c.tuple.new.work c.tuple.result _ _
    (tuple_opened c.args.typed.now c.args.typed.now.exprs (tree_of c.args.typed.now.exprs c.args.id.0) c.in-Tuple.span c.in-Tuple.types.items c.deref-in-Tuple.result.now c.in-Tuple.parts.items c.deref-in-Tuple-2.result.now (scope_of c.args.work.now.scope.items) c.args.work.now.fresh (c.node_at.ensures.0 ∙ ap (λ z. layer (tree_of c.args.typed.now.exprs) (Some z)) c.in-Tuple.is) c.deref-in-Tuple.ensures.value c.deref-in-Tuple-2.ensures.value)
    c.tuple.ensures

pub bound_names-returns-in_ok-slots-in-Some : goal.bound_names-returns-in_ok-slots-in-Some
bound_names-returns-in_ok-slots-in-Some t c =
    one_named c.args.work.now c.bound_side.new.work c.in-Some.name (names_of c.args.bound.now.names.now) (types_of (globals_in c.args.typed.now).table.types c.args.bound.now.names.now) c.in_ok-side-in-Some.side c.in_ok-slots-in-Some.slots.items _
    (code_at c.args.typed.now c.args.typed.now.exprs c.args.bound.now.value.0) (scope_of c.args.work.now.scope.items) c.in-Some.ensures c.in_ok-side-in-Some.ensures c.in_ok-slots-in-Some.ensures refl refl

pub bound_names-returns-in-None : goal.bound_names-returns-in-None
bound_names-returns-in-None t c =
    not_one_named c.args.work.now c.several_names.new.work c.several_names.result (names_of c.args.bound.now.names.now) (types_of (globals_in c.args.typed.now).table.types c.args.bound.now.names.now) (code_at c.args.typed.now c.args.typed.now.exprs c.args.bound.now.value.0)
    (scope_of c.args.work.now.scope.items) c.args.work.now.fresh c.in-None.ensures c.several_names.ensures

pub several_names-returns : goal.several_names-returns
several_names-returns t c =
    several_named (globals_in c.args.typed.now).table.types c.args.work.now c.new_slots.new.work c.line.new.work c.args.bound.now.names.now c.in_ok-slots.slots.items _ _ c.in_ok-types-2.types c.in_ok-term.term c.in_ok-term.field-0-1
    (code_at c.args.typed.now c.args.typed.now.exprs c.args.bound.now.value.0).line c.in_ok-slots.ensures (c.in_ok-types-2.ensures ∙ c.deref.ensures.value ∙ c.in_ok-types.ensures) refl c.in_ok-term.ensures refl refl

pub if_else-returns : goal.if_else-returns
if_else-returns t c =
    if_made c.args.work.now c.atom.new.work c.line.new.work c.line-2.new.work (record c.line-2.new.work { terms = c.put_line.new.self }) c.new-bindings.result.items c.atom.new.bindings.items c.in_ok-condition.condition c.in_ok-condition.field-0-1 c.in_ok-else_part.field-0-1 c.in_ok-then_part.ty (code_at c.args.typed.now c.args.typed.now.exprs c.args.condition.0).atom (code_at c.args.typed.now c.args.typed.now.exprs c.args.then_part.0).line (code_at c.args.typed.now c.args.typed.now.exprs c.args.else_part.0).line c.in_ok-then_part.then_part c.in_ok-else_part.else_part c.in_ok-term.term c.new-bindings.ensures.items c.in_ok-condition.ensures c.in_ok-then_part.ensures c.in_ok-else_part.ensures refl refl c.in_ok-term.ensures.grows c.in_ok-term.ensures.inside c.in_ok-term.ensures.term

pub case-constructors-preserved : goal.case-constructors-preserved
case-constructors-preserved t c =
    case_next c.args.typed.now c.args.typed.now.exprs c.args.arms.now c.args.work.now c.constructors.work c.put_branch.new.work c.constructors.branches.items c.put_branch.new.branches.items c.constructors.ty c.in_ok-made.made c.or-ty.result c.constructors.next c.constructors.left c.constructors-test.true c.or-ty.ensures c.constructors.invariant c.in_ok-made.ensures

pub case-returns : goal.case-returns
case-returns t c =
    case_end c.args.typed.now c.args.typed.now.exprs c.args.arms.now c.args.variable c.args.work.now c.constructors.work (record c.constructors.work { terms = c.put.new.self }) c.constructors.branches.items _ c.constructors.ty c.unwrap_or.result c.constructors.next c.constructors.left c.in_ok-term.term c.constructors-test.false c.unwrap_or.ensures c.constructors.invariant (c.find-subject.ensures.atom ∙ ap (λ z. atom_at (scope_of z) c.args.variable.name.0) c.deref.ensures.value) refl refl c.in_ok-term.ensures.made.grows c.in_ok-term.ensures.made.inside c.in_ok-term.ensures.made.term

pub let_in-returns : goal.let_in-returns
let_in-returns t c =
    let_made c.args.work.now c.right_side.new.work c.bind.new.work c.line.new.work (record c.line.new.work { terms = c.put_before.new.self; scope = c.truncate.new.self }) c.new-bindings.result.items c.right_side.new.bindings.items c.args.bound.name c.len-outer.result c.in_ok-atom.atom c.in_ok-atom.ty c.in_ok-rest.ty (code_at c.args.typed.now c.args.typed.now.exprs c.args.bound.value.0).bound (code_at c.args.typed.now c.args.typed.now.exprs c.args.body.0).line c.in_ok-rest.rest c.in_ok-term.term c.new-bindings.ensures.items c.in_ok-atom.ensures (c.len-outer.ensures ∙ c.right_side.new.work.scope.ok.0) c.in_ok-bind.ensures c.in_ok-rest.ensures c.truncate.ensures.items refl c.in_ok-term.ensures.grows c.in_ok-term.ensures.inside c.in_ok-term.ensures.term

pub line-returns-in-Case : goal.line-returns-in-Case
line-returns-in-Case t c =
    lines_same c.args.work.now c.case.new.work c.case.result _ _
    (case_opened c.args.typed.now c.args.typed.now.exprs (tree_of c.args.typed.now.exprs c.args.id.0) c.in-Case.span c.in-Case.variable c.in-Case.arms.items c.deref-in-Case.result.now c.args.id.0 (scope_of c.args.work.now.scope.items) c.args.work.now.fresh (c.node_at.ensures.0 ∙ ap (λ z. layer (tree_of c.args.typed.now.exprs) (Some z)) c.in-Case.is) (subst (λ z. PartsBelow z c.args.id.0) c.in-Case.is c.node_at.ensures.1) c.deref-in-Case.ensures.value)
    c.case.ensures

pub make-arguments-requires : goal.make-arguments-requires
make-arguments-requires t c =
    (search rules, (c.requires.inside, (selected_below c.args.id.0 true c.fields_of-types.result.now c.args.ids.now c.deref.result.now (c.deref.ensures.value ∙ c.in_ok-scalars.ensures) c.requires.below, subst (λ z. AreBindingsBelow (length c.args.work.now.terms) z) (sym c.new-bindings.ensures.items) tt)))

pub make-arguments-requires-2 : goal.make-arguments-requires-2
make-arguments-requires-2 t c =
    (search rules, (c.requires.inside, (selected_below c.args.id.0 false c.fields_of-types.result.now c.args.ids.now c.deref-2.result.now (c.deref-2.ensures.value ∙ c.in_ok-packed.ensures) c.requires.below, c.in_ok-scalars-2.ensures.inside)))

pub make-returns : goal.make-returns
make-returns t c =
    make_made c.args.typed.now c.args.typed.now.exprs c.args.k c.args.ids.now c.deref.result.now c.deref-2.result.now c.constructor-constructor.result c.fields_of-types.result.now c.in_ok-packed_types.packed_types.items c.owner_of.result.0 c.args.work.now c.arguments.new.work c.arguments-2.new.work c.end_make.new.work c.new-bindings.result.items c.arguments.new.bindings.items c.arguments-2.new.bindings.items c.in_ok-scalars-2.scalars.items c.in_ok-packed-2.packed.items c.in_ok-packed-2.packed.items c.in_ok-term.term c.constructor-constructor.ensures c.fields_of-types.ensures c.owner_of.ensures (c.deref.ensures.value ∙ c.in_ok-scalars.ensures) (c.deref-2.ensures.value ∙ c.in_ok-packed.ensures) c.in_ok-packed_types.ensures c.new-bindings.ensures.items refl c.in_ok-scalars-2.ensures c.in_ok-packed-2.ensures c.in_ok-term.ensures

pub put_branch-returns-in_ok-push-in-Some : goal.put_branch-returns-in_ok-push-in-Some
put_branch-returns-in_ok-push-in-Some t c =
    λ start of ks all h. one_branch c.args.typed.now c.args.typed.now.exprs c.args.arms.now c.in-Some.arm.now start c.args.work.now c.branch-typed.new.work c.args.branches.now.items c.push.new.self.items c.in_ok-branch-in-Some.branch of c.in_ok-branch-in-Some.ty c.args.constructor ks all (c.in-Some.ensures.first c.args.typed.now.exprs) c.in_ok-branch-in-Some.ensures c.in_ok-push-in-Some.ensures.items h
