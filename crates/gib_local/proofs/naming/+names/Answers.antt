use Rattle.std.proofs.Common.{Some, ap, sym, ◌∙◌, subst}
use Rattle.std.proofs.lemmas.Result.{err_from_is_err_and}
use Rattle.gib_check.proofs.Opening.{gives_same}
use Rattle.gib_local.specs.Knowing.{declared_of, IsKept}
use Rattle.gib_local_parse.specs.LineArena.{PartsBelow, tree_of, layer}
use Rattle.gib_local.proofs.ArmNames.{arms_start, arms_fail, arms_next, arm_below, arms_stop}
use Rattle.gib_local.proofs.LineNames.{call_opened, make_opened, case_opened, par_right_fails, par_whole}
use Rattle.gib_local.specs.Naming.{with_variable}
use Rattle.gib_local.proofs.NamesKept.{left}
use Rattle.gib_local.proofs.naming.+names.Goals as goal

pub line-returns-in-Call-clause-read : goal.line-returns-in-Call-clause-read
line-returns-in-Call-clause-read t c =
    gives_same (λ _. c.call.new.scopes.counts) c.call.result _ _
    (call_opened (declared_of c.args.known.now) c.args.scopes.now.names c.args.scopes.now.counts (tree_of c.args.known.now.lines c.args.id.0) c.in-Call.f c.deref.result.now c.in-Call.values.items _
    (c.node-node.ensures.0 ∙ ap (λ z. layer (tree_of c.args.known.now.lines) (Some z)) c.in-Call.is) c.deref.ensures.value)
    c.call.ensures.read

pub line-returns-in-Make-clause-read : goal.line-returns-in-Make-clause-read
line-returns-in-Make-clause-read t c =
    gives_same (λ _. c.make.new.scopes.counts) c.make.result _ _
    (make_opened (declared_of c.args.known.now) c.args.scopes.now.names c.args.scopes.now.counts (tree_of c.args.known.now.lines c.args.id.0) c.in-Make.k c.deref-in-Make.result.now c.in-Make.values.items _
    (c.node-node.ensures.0 ∙ ap (λ z. layer (tree_of c.args.known.now.lines) (Some z)) c.in-Make.is) c.deref-in-Make.ensures.value)
    c.make.ensures.read

pub line-returns-in-Case-clause-read : goal.line-returns-in-Case-clause-read
line-returns-in-Case-clause-read t c =
    gives_same (λ _. c.case_of.new.scopes.counts) c.case_of.result _ _
    (case_opened (declared_of c.args.known.now) (tree_of c.args.known.now.lines) c.args.scopes.now.names c.args.scopes.now.counts (tree_of c.args.known.now.lines c.args.id.0) c.in-Case.span c.in-Case.x c.deref-in-Case.result.now c.in-Case.cases.items c.args.id.0
    (c.node-node.ensures.0 ∙ ap (λ z. layer (tree_of c.args.known.now.lines) (Some z)) c.in-Case.is) c.deref-in-Case.ensures.value (subst (λ z. PartsBelow z c.args.id.0) c.in-Case.is c.node-node.ensures.1))
    c.case_of.ensures.read

pub arms-arms-init : goal.arms-arms-init
arms-arms-init t c = arms_start (declared_of c.args.known.now) (tree_of c.args.known.now.lines) c.args.below.0 c.args.scopes.now c.args.arms.now c.requires.arms

pub arms-arms-preserved : goal.arms-arms-preserved
arms-arms-preserved t c =
    arms_next (declared_of c.args.known.now) (tree_of c.args.known.now.lines) c.args.below.0 c.args.scopes.now c.arms.scopes c.args.arms.now c.arm.new.scopes c.arms.rest.now c.first-item.result c.in-len1-up.len_at_least c.first-item.is c.arms.invariant c.in_ok-arm.ensures.read c.in_ok-arm.ensures.kept

pub arms-returns-clause-read : goal.arms-returns-clause-read
arms-returns-clause-read t c =
    arms_stop (declared_of c.args.known.now) (tree_of c.args.known.now.lines) c.args.below.0 c.args.scopes.now c.arms.scopes c.args.arms.now c.arms.rest.now c.in_default.len_below c.arms.invariant

pub arms-returns-in_err-arm-clause-read : goal.arms-returns-in_err-arm-clause-read
arms-returns-in_err-arm-clause-read t c =
    let p = err_from_is_err_and c.from_residual.result c.from_residual.ensures.1 in
    rw (p.1, p.2)
    (arms_fail (declared_of c.args.known.now) (tree_of c.args.known.now.lines) c.args.below.0 c.args.scopes.now c.arms.scopes c.args.arms.now c.arms.rest.now c.first-item.result c.in_err-arm.field-0.0 c.in-len1-up.len_at_least c.first-item.is c.arms.invariant c.in_err-arm.ensures.read)

pub sides-returns-in_err-behind-2-clause-read : goal.sides-returns-in_err-behind-2-clause-read
sides-returns-in_err-behind-2-clause-read t c =
    let p = err_from_is_err_and c.from_residual-in_err-behind-2.result c.from_residual-in_err-behind-2.ensures.1 in
    rw (p.1, p.2)
    (par_right_fails (declared_of c.args.known.now) c.args.left.now.name c.args.left.now.ty c.args.left.now.mark (tree_of c.args.known.now.lines c.args.left.now.line.0) c.args.place
    c.args.right.now.name c.args.right.now.ty c.args.right.now.mark (tree_of c.args.known.now.lines c.args.right.now.line.0) c.args.scopes.now c.bound.new.self c.in_ok-bound.ensures.counts c.in_ok-bound.ensures.names
    c.behind.new.scopes c.in_ok-behind.ensures.read c.in_ok-behind.ensures.kept c.between.new.scopes c.in_ok-between.ensures.read c.in_ok-between.ensures.counts c.bound_beside.new.self c.in_ok-bound_beside.ensures.counts c.in_ok-bound_beside.ensures.names c.in_err-behind-2.field-0.0 c.in_err-behind-2.ensures.read)

pub sides-returns-clause-read : goal.sides-returns-clause-read
sides-returns-clause-read t c =
    let kept = subst (IsKept c.behind.new.scopes.names) (sym (c.in_ok-behind-2.ensures.kept ∙ c.in_ok-bound_beside.ensures.names)) c.in_ok-between.ensures.kept in
    let back = left c.behind.new.scopes.names c.behind-2.new.scopes.names c.leave.new.self.names c.depth-depth.result.variables c.depth-depth.result.places kept c.depth-depth.ensures.variables c.depth-depth.ensures.places c.in_ok-leave.ensures.variables c.in_ok-leave.ensures.places in
    par_whole (declared_of c.args.known.now) c.args.left.now.name c.args.left.now.ty c.args.left.now.mark (tree_of c.args.known.now.lines c.args.left.now.line.0) c.args.place
    c.args.right.now.name c.args.right.now.ty c.args.right.now.mark (tree_of c.args.known.now.lines c.args.right.now.line.0) c.args.scopes.now c.bound.new.self c.in_ok-bound.ensures.counts c.in_ok-bound.ensures.names
    c.behind.new.scopes c.in_ok-behind.ensures.read c.in_ok-behind.ensures.kept c.between.new.scopes c.in_ok-between.ensures.read c.in_ok-between.ensures.counts c.bound_beside.new.self c.in_ok-bound_beside.ensures.counts c.in_ok-bound_beside.ensures.names c.behind-2.new.scopes c.enter-2.new.self c.in_ok-behind-2.ensures.read
    (c.in_ok-enter-2.ensures.names ∙ ap (with_variable c.args.right.now.name) (c.in_ok-enter.ensures.names ∙ ap (with_variable c.args.left.now.name) back))
    (c.enter-2.ensures.counts ∙ c.enter.ensures.counts ∙ c.leave.ensures.counts)
