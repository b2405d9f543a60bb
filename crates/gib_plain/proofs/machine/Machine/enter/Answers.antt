use Rattle.std.proofs.Common.{◌≤◌, ◌∙◌, ap, refl, arith, length, false}
use Rattle.gib_types.specs.Tree.{truth}
use Rattle.gib_syntax.specs.Tree.{Call}
use Rattle.gib_syntax.specs.Arena.{tree_of, nothing, arguments_from}
use Rattle.gib_syntax.specs.Parts.{Parts}
use Rattle.gib_plain.specs.Running.{code_of}
use Rattle.gib_syntax.proofs.Layers.{tree-past}
use Rattle.gib_plain.proofs.Names.{opened}
use Rattle.gib_plain.proofs.Steps.{goes_value, goes_begin, on_ok}
use Rattle.gib_plain.proofs.machine.Machine.enter.Goals as goal

pub returns-then-id-len : goal.returns-then-id-len
returns-then-id-len c =
    let nodes = c.args.typed.now.exprs in
    let le : length nodes ≤ c.args.id.0 = omega (arith, c.len.ensures, ap length c.exprs-exprs.ensures.value, ap (λ (p : Parts). length p.exprs) c.program.ensures.value) in
    goes_value (code_of c.args.typed.now) c.args.self.now c.leave_truth.new.self c.args.id.0 nothing (truth false) c.requires (tree-past nodes c.args.id.0 le) refl (omega arith) c.leave_truth.ensures

pub returns-in-Call : goal.returns-in-Call
returns-in-Call c =
    let nodes = c.args.typed.now.exprs in
    let tree = opened nodes c.exprs-exprs.result.now c.args.id.0 _ _ (c.exprs-exprs.ensures.value ∙ ap (λ (p : Parts). p.exprs) c.program.ensures.value) c.node.ensures.0 c.in-Call.is in
    on_ok c.begin-in-Call.result (λ h. goes_begin (code_of c.args.typed.now) c.args.self.now c.begin-in-Call.new.self c.args.id.0 (Call c.in-Call.field-0 (arguments_from (tree_of nodes) c.in-Call.field-1.items)) c.requires tree tt h) c.begin-in-Call.ensures

pub returns-in-Tuple : goal.returns-in-Tuple
returns-in-Tuple c =
    let nodes = c.args.typed.now.exprs in
    let tree = opened nodes c.exprs-exprs.result.now c.args.id.0 _ _ (c.exprs-exprs.ensures.value ∙ ap (λ (p : Parts). p.exprs) c.program.ensures.value) c.node.ensures.0 c.in-Tuple.is in
    on_ok c.begin-in-Tuple.result (λ h. goes_begin (code_of c.args.typed.now) c.args.self.now c.begin-in-Tuple.new.self c.args.id.0 _ c.requires tree tt h) c.begin-in-Tuple.ensures
