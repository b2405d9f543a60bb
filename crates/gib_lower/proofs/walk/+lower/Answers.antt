use Rattle.std.proofs.Common.{◌≡◌, ◌-◌, Some, arith, ap, ◌∙◌, subst, length, drop, List, OnOk}
use Rattle.gib_core.specs.declared.node.Node.{Node}
use Rattle.gib_core.specs.Arena.{IsLine, layer, parts_from, term_of}
use Rattle.gib_core.specs.Tree.{Tuple}
use Rattle.gib_core.specs.PartTypes.{types_in}
use Rattle.gib_code.specs.Instruction.{Instruction}
use Rattle.gib_core.specs.Parts.{core_of}
use Rattle.gib_core.specs.Low.{with_fields}
use Rattle.gib_lower.specs.Ends.{end_of, within_of}
use Rattle.gib_lower.proofs.Along.{lowered_line, arm_left, arm_longer}
use Rattle.gib_lower.proofs.PartMoves.{tuple_code}
use Rattle.gib_lower.proofs.walk.+lower.Goals as goal

pub lower_branch-leave-requires-2 : goal.lower_branch-leave-requires-2
lower_branch-leave-requires-2 t c =
    let e = c.in_ok-lower_term.ensures.fields ∙ c.in_ok-enter.ensures in
    let long = ap length e in
    let h = arm_longer c.args.tree c.fields.result.now c.deref.result.now c.args.out.now.fields in
    omega (arith, h, long, c.len-outer.ensures)

pub lower_branch-returns-clause-fields : goal.lower_branch-returns-clause-fields
lower_branch-returns-clause-fields t c =
    let e = c.in_ok-lower_term.ensures.fields ∙ c.in_ok-enter.ensures in
    c.leave-2.ensures
    ∙ ap (λ l. drop (length l - c.len-outer.result) l) e
    ∙ ap (λ n. drop (length (with_fields c.args.tree c.fields.result.now c.deref.result.now c.args.out.now.fields) - n) (with_fields c.args.tree c.fields.result.now c.deref.result.now c.args.out.now.fields)) c.len-outer.ensures
    ∙ arm_left c.args.tree c.fields.result.now c.deref.result.now c.args.out.now.fields

pub lower_term-returns-clause-code : goal.lower_term-returns-clause-code
lower_term-returns-clause-code t c =
    let line = subst (λ (ns : List Node). IsLine ns c.args.id.0 c.in_ok-bindings.bindings.items c.in_ok-bindings.last.0) c.terms.ensures.value c.in_ok-bindings.ensures in
    lowered_line (core_of c.args.source.now) (within_of c.args.at.around) c.args.out.now.fields c.args.source.now.terms c.args.id.0 c.in_ok-bindings.last.0 c.bindings.i c.in_ok-bindings.bindings.items (end_of c.args.at.ending c.args.out.now.overs) c.args.out.now.code c.lower_end.new.out.code c.bindings.out.code
    line (omega (arith, c.bindings-test.false)) c.in_ok-lower_end.ensures.code c.bindings.invariant.code

pub lower_end-returns-in_ok-give_parts-in-Tuple-clause-code : goal.lower_end-returns-in_ok-give_parts-in-Tuple-clause-code
lower_end-returns-in_ok-give_parts-in-Tuple-clause-code t c =
    let nodes = c.args.source.now.terms in
    let f = term_of nodes in
    let opened : term_of nodes c.args.id.0 ≡ layer f (Some c.node.result.now) =
    subst (λ (ns : List Node). term_of ns c.args.id.0 ≡ layer (term_of ns) (Some c.node.result.now)) c.terms.ensures.value c.node.ensures.0 in
    let is : term_of nodes c.args.id.0 ≡ Tuple (types_in c.in-Tuple.types) c.in-Tuple.scalars.items (parts_from f c.in-Tuple.parts.items) = opened ∙ ap (λ (n : Node). layer f (Some n)) c.in-Tuple.is in
    let code =
    tuple_code (core_of c.args.source.now) (within_of c.args.at.around) c.args.out.now.fields f (types_in c.in-Tuple.types) c.deref-in-Tuple.result.now c.in-Tuple.scalars.items c.deref-in-Tuple-2.result.now c.in-Tuple.parts.items
    (end_of c.args.at.ending c.args.out.now.overs) c.args.out.now.code c.give_parts.new.code (f c.args.id.0) is c.deref-in-Tuple.ensures.value c.deref-in-Tuple-2.ensures.value c.in_ok-give_parts-in-Tuple.ensures in
    subst (λ (l : List Instruction). OnOk c.lower_parts.result (c.lower_parts.new.out.code ≡ l)) code c.lower_parts.ensures.code
