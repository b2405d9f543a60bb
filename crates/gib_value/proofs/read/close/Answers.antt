use Rattle.std.proofs.Common.{List, ap, subst, sym, ◌∙◌, ◌++◌, [], ◌∷◌, ◌-◌, length, drop, arith}
use Rattle.std.specs.List.{AllByRecursion}
use Rattle.gib_value.specs.declared.node.Node.{Node}
use Rattle.gib_value.specs.Heap.{IsWithin}
use Rattle.gib_value.proofs.ReadClose.{close_values, close_held, closed_items}
use Rattle.gib_value.proofs.read.close.Goals as goal

pub returns-clause-values : goal.returns-clause-values
returns-clause-values c =
    let m = c.in_ok-node.ensures in
    closed_items c.make.new.self _ _ _ c.in_ok-node.node c.in_ok-push.ensures.items c.truncate.ensures.items
    ∙ close_values c.args.heap.now c.make.new.self c.args.done.now.items c.split_at.result.1.now c.args.con.0 (c.len.result - c.args.count) c.args.count c.in_ok-node.node m.kept c.requires.held
    (c.split_at.ensures.back ∙ ap (λ (l : List Node). drop (c.len.result - c.args.count) l) c.as_slice.ensures.value) (omega (arith, c.args.done.now.ok)) m.made

pub returns-clause-held : goal.returns-clause-held
returns-clause-held c =
    let m = c.in_ok-node.ensures in
    subst (λ (l : List Node). AllByRecursion (IsWithin (length c.make.new.self)) l) (sym (c.in_ok-push.ensures.items ∙ ap (λ (l : List Node). l ++ c.in_ok-node.node ∷ []) c.truncate.ensures.items))
    (close_held c.args.heap.now c.make.new.self c.args.done.now.items (c.len.result - c.args.count) c.in_ok-node.node m.kept c.requires.held m.within)
