use Rattle.std.proofs.Common.{◌≤◌, ◌∙◌, ap, refl, arith, length, pos}
use Rattle.gib_types.specs.Tree.{whole}
use Rattle.gib_syntax.specs.Arena.{tree_of, nothing, arguments_from}
use Rattle.gib_syntax.specs.Parts.{Parts}
use Rattle.gib_plain.specs.Running.{code_of}
use Rattle.gib_syntax.proofs.Layers.{tree-past}
use Rattle.gib_plain.proofs.Names.{opened}
use Rattle.gib_plain.proofs.Steps.{came_value, on_ok}
use Rattle.gib_plain.proofs.machine.Machine.finish.Goals as goal

pub returns-then-id-len : goal.returns-then-id-len
returns-then-id-len c = λ fs f r e.
    let s = c.args.self.now in
    let nodes = c.args.typed.now.exprs in
    let le : length nodes ≤ c.args.id.0 = omega (arith, c.len.ensures, ap length c.exprs-exprs.ensures.value, ap (λ (p : Parts). length p.exprs) c.program.ensures.value) in
    came_value (code_of c.args.typed.now) c.give_up.new.self fs f nothing s.left s.env (whole (pos 0)) (c.give_up.ensures fs f r.frames) (ap (tree_of nodes) e ∙ tree-past nodes c.args.id.0 le) refl

pub returns-in-Call : goal.returns-in-Call
returns-in-Call c =
    let nodes = c.args.typed.now.exprs in
    let tree = opened nodes c.exprs-exprs.result.now c.args.id.0 _ _ (c.exprs-exprs.ensures.value ∙ ap (λ (p : Parts). p.exprs) c.program.ensures.value) c.node.ensures.0 c.in-Call.is in
    on_ok c.finish_call.result (λ h. λ fs f r e. h fs f (arguments_from (tree_of nodes) c.in-Call.field-1.items) c.in-Call.name r (ap (tree_of nodes) e ∙ tree) refl) c.finish_call.ensures

pub returns-in-Make : goal.returns-in-Make
returns-in-Make c =
    let nodes = c.args.typed.now.exprs in
    let tree = opened nodes c.exprs-exprs.result.now c.args.id.0 _ _ (c.exprs-exprs.ensures.value ∙ ap (λ (p : Parts). p.exprs) c.program.ensures.value) c.node.ensures.0 c.in-Make.is in
    on_ok c.finish_make.result (λ h. λ fs f r e. h fs f (arguments_from (tree_of nodes) c.in-Make.field-1.items) c.in-Make.name r (ap (tree_of nodes) e ∙ tree) refl) c.finish_make.ensures
