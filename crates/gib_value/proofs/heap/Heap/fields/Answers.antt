use Rattle.std.proofs.Common.{◌∙◌, List, ap, length, take, drop, arith}
use Rattle.gib_value.specs.declared.node.Node.{Node}
use Rattle.gib_value.proofs.HeapLemmas.{length-heap_of}
use Rattle.gib_value.proofs.HeapMakes.{fields_seen}
use Rattle.gib_value.proofs.heap.Heap.fields.Goals as goal

pub nodes_at-requires : goal.nodes_at-requires
nodes_at-requires c = omega (arith, ap length c.deref.ensures.value, length-heap_of c.self.inside.nodes.items, ap length c.self.view_is, c.requires)

pub returns-clause-values : goal.returns-clause-values
returns-clause-values c =
    (fields_seen _ _ _ c.args.first c.args.count c.self.view_is c.self.invariant (c.nodes_at.ensures.found ∙ ap (λ (l : List Node). take c.args.count (drop c.args.first l)) c.deref.ensures.value)).0

pub returns-clause-within : goal.returns-clause-within
returns-clause-within c =
    (fields_seen _ _ _ c.args.first c.args.count c.self.view_is c.self.invariant (c.nodes_at.ensures.found ∙ ap (λ (l : List Node). take c.args.count (drop c.args.first l)) c.deref.ensures.value)).1
