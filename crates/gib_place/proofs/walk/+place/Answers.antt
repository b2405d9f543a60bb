use Rattle.std.proofs.Common.{◌-◌, List, map, arith, ap, refl, ◌∙◌, subst}
use Rattle.gib_core.specs.declared.node.Binding.{Binding}
use Rattle.gib_core.specs.declared.node.Node.TheVariants as n
use Rattle.gib_core.specs.Arena.{term_of, binds_from, branches_from}
use Rattle.gib_core.specs.Tree.{CallTerm, CaseTerm}
use Rattle.gib_place.specs.Made.{MakesBindings}
use Rattle.gib_place.specs.Placing.{inner_bind, inner_branches}
use Rattle.gib_place.specs.Filled.{once_by}
use Rattle.gib_place.proofs.Making.{bindings_next, parts_next, branches_next, made_passed, end_passed, branching_passed, line_placed}
use Rattle.gib_core.proofs.Fronting.{grows_none, grows_more}
use Rattle.gib_place.proofs.walk.+place.Goals as goal

pub place_bindings-bindings-preserved : goal.place_bindings-bindings-preserved
place_bindings-bindings-preserved t c =
    bindings_next (once_by c.args.placing.now.once.now) (term_of c.args.placing.now.terms.now) c.args.bindings.now c.bindings.i c.args.scratch.now.terms c.bindings.scratch.terms c.place_binding.new.scratch.terms c.bindings.placed.items c.push.new.self.items _ _ c.in_ok-binding.binding c.bindings.invariant (omega arith) refl c.in_ok-binding.ensures c.in_ok-push.ensures.items

pub place_branches-branches-preserved : goal.place_branches-branches-preserved
place_branches-branches-preserved t c =
    (omega arith, branches_next (once_by c.args.placing.now.once.now) (term_of c.args.placing.now.terms.now) c.args.scratch.now.terms c.branches.scratch.terms c.place_branch.new.scratch.terms c.in_ok-branch.branch c.index-branches-i.result c.index-branches-i.result c.branches.reversed.items c.push.new.self.items c.args.branches.now (c.branches.i - 1) c.branches.i (omega arith) c.branches.invariant.0 c.index-branches-i.is c.in_ok-push.ensures.items c.branches.invariant.1 c.in_ok-branch.ensures)

pub place_end-returns-in-Point : goal.place_end-returns-in-Point
place_end-returns-in-Point t c =
    end_passed (once_by c.args.placing.now.once.now) c.args.placing.now.terms.now c.args.scratch.now.terms c.args.scratch.now.terms c.put_other_line.new.scratch.terms c.args.id.0 c.args.bindings.items (n.Point c.in-Point.atom) (n.Point c.in-Point.atom) c.node-node.result.now c.put_other_line.result (grows_none c.args.scratch.now.terms) c.requires.below c.node-node.ensures.0 c.in-Point.is refl c.put_other_line.ensures

pub place_end-returns-in_ok-arguments-in-Call : goal.place_end-returns-in_ok-arguments-in-Call
place_end-returns-in_ok-arguments-in-Call t c =
    end_passed (once_by c.args.placing.now.once.now) c.args.placing.now.terms.now c.args.scratch.now.terms c.args.scratch.now.terms c.put_other_line-in-Call.new.scratch.terms c.args.id.0 c.args.bindings.items (n.Call c.in-Call.name c.in_ok-arguments-in-Call.arguments) (n.Call c.in-Call.name c.in-Call.arguments) c.node-node.result.now c.put_other_line-in-Call.result (grows_none c.args.scratch.now.terms) c.requires.below c.node-node.ensures.0 c.in-Call.is
    (ap (CallTerm c.in-Call.name) (c.in_ok-arguments-in-Call.ensures.items ∙ c.deref-in-Call.ensures.value)) c.put_other_line-in-Call.ensures

pub place_end-returns-in-Give : goal.place_end-returns-in-Give
place_end-returns-in-Give t c =
    end_passed (once_by c.args.placing.now.once.now) c.args.placing.now.terms.now c.args.scratch.now.terms c.args.scratch.now.terms c.put_other_line-in-Give.new.scratch.terms c.args.id.0 c.args.bindings.items (n.Give c.in-Give.atom) (n.Give c.in-Give.atom) c.node-node.result.now c.put_other_line-in-Give.result (grows_none c.args.scratch.now.terms) c.requires.below c.node-node.ensures.0 c.in-Give.is refl c.put_other_line-in-Give.ensures

pub place_end-returns-in_ok-end-in-Case : goal.place_end-returns-in_ok-end-in-Case
place_end-returns-in_ok-end-in-Case t c =
    branching_passed (once_by c.args.placing.now.once.now) c.args.placing.now.terms.now c.args.scratch.now.terms c.place_branching.new.scratch.terms c.put_other_line-in-Case.new.scratch.terms c.args.id.0 c.args.bindings.items c.in_ok-end-in-Case.end c.node-node.result.now c.put_other_line-in-Case.result c.requires.below c.node-node.ensures.0 c.in_ok-end-in-Case.ensures c.put_other_line-in-Case.ensures

pub place_parts-parts-preserved : goal.place_parts-parts-preserved
place_parts-parts-preserved t c =
    (omega arith, parts_next (once_by c.args.placing.now.once.now) (term_of c.args.placing.now.terms.now) c.args.scratch.now.terms c.parts.scratch.terms c.place_term.new.scratch.terms c.in_ok-part.part _ _ c.parts.reversed.items c.push.new.self.items c.args.parts.now (c.parts.i - 1) c.parts.i (omega arith) c.parts.invariant.0 refl c.in_ok-push.ensures.items c.parts.invariant.1 c.in_ok-part.ensures)

pub place_term-returns : goal.place_term-returns
place_term-returns t c =
    made_passed c.place_end.result _ _ (λ made. line_placed (once_by c.args.placing.now.once.now) c.args.placing.now.terms.now c.args.scratch.now.terms c.place_bindings.new.scratch.terms c.place_end.new.scratch.terms c.args.id.0 c.in_ok-bindings.last.0 c.in_ok-bindings.bindings.items c.in_ok-bindings-2.bindings.items made c.in_ok-bindings.ensures
    (subst (λ (z : List Binding). MakesBindings c.args.scratch.now.terms c.place_bindings.new.scratch.terms c.in_ok-bindings-2.bindings.items (map (inner_bind (once_by c.args.placing.now.once.now)) (binds_from (term_of c.args.placing.now.terms.now) z))) c.deref.ensures.value c.in_ok-bindings-2.ensures)) c.place_end.ensures
