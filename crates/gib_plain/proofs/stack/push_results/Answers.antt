use Rattle.gib_plain.proofs.Moves.{adds_bindings, adds_same, one_bound, parts_bound}
use Rattle.gib_syntax.specs.Meaning.{names_of}
use Rattle.gib_value.specs.Heap.{value_of}
use Rattle.gib_plain.proofs.stack.push_results.Goals as goal

pub returns-then-parameters-eq1 : goal.returns-then-parameters-eq1
returns-then-parameters-eq1 c =
    adds_bindings c.push_parameters.result c.args.heap.now _ _ (names_of c.args.parameters.now) _ _ c.push_parameters.ensures (c.requires, tt)
    (λ env. one_bound c.args.parameters.now (value_of c.args.heap.now c.args.value) env c.if-parameters-eq1.true)

pub returns-else-parameters-eq1 : goal.returns-else-parameters-eq1
returns-else-parameters-eq1 c =
    adds_same c.push_parts.result c.args.heap.now _ _ _ _ (λ env. parts_bound c.args.parameters.now (value_of c.args.heap.now c.args.value) env c.if-parameters-eq1.false) c.push_parts.ensures
