use Rattle.gib_value.specs.declared.node.Node.{Node}
use Rattle.gib_types.specs.declared.table.TyId.{TyId}
use Rattle.gib_value.specs.Reading.{IsLeaf, Opens}
use Rattle.gib_value.proofs.ReadTakes.{leaf_steps, opening_steps, value_refused, some_of, none_of}
use Rattle.gib_value.proofs.read.Reader.take_value.Goals as goal

pub returns-in-Some-clause-yes : goal.returns-in-Some-clause-yes
returns-in-Some-clause-yes c = λ e.
    leaf_steps c.args.context.now.types.now c.args.context.now.names.now.short c.args.ty c.args.token.now c.args.self.now.heap c.args.self.now.done.items c.push.new.self.items c.in-Some.node c.args.self.now.wanted
    (some_of _ c.in-Some.node _ (λ (n : Node). IsLeaf c.args.context.now.types.now c.args.context.now.names.now.short c.args.ty c.args.token.now n) c.in_ok-node.ensures c.in-Some.is)
    c.in_ok-push.ensures.items c.requires.held

pub returns-clause-yes : goal.returns-clause-yes
returns-clause-yes c = λ e.
    opening_steps c.args.context.now.types.now c.args.context.now.names.now.short c.args.ty c.args.token.now c.in-Some-find_opened.opened c.args.self.now.heap c.args.self.now.done.items c.args.self.now.wanted c.put.new.self
    (some_of _ c.in-Some-find_opened.opened _ (λ (t : TyId). Opens c.args.context.now.types.now c.args.ty c.args.token.now t) c.find_opened.ensures c.in-Some-find_opened.is) c.in_ok-put.ensures c.requires.held

pub returns-in_default-find_opened-clause-no : goal.returns-in_default-find_opened-clause-no
returns-in_default-find_opened-clause-no c = λ e.
    value_refused c.args.context.now.types.now c.args.context.now.names.now.short c.args.ty c.args.token.now
    (none_of _ ((n : Node) → IsLeaf c.args.context.now.types.now c.args.context.now.names.now.short c.args.ty c.args.token.now n → ⊥) (λ (n : Node). IsLeaf c.args.context.now.types.now c.args.context.now.names.now.short c.args.ty c.args.token.now n) c.in_ok-node.ensures c.in_default.is)
    c.in_default-find_opened.ensures
