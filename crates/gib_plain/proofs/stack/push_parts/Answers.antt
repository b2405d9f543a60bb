use Rattle.std.proofs.Common.{◌∙◌, ap, sym, List}
use Rattle.gib_value.specs.declared.node.Node.{Node}
use Rattle.gib_value.specs.Heap.{value_of}
use Rattle.gib_syntax.specs.Meaning.{bind, names_of, parts}
use Rattle.gib_types.specs.Tree.{Datum}
use Rattle.gib_plain.proofs.Moves.{adds_none, adds_bindings, bind-none, list-data}
use Rattle.gib_plain.proofs.stack.push_parts.Goals as goal

pub returns-in-Whole : goal.returns-in-Whole
returns-in-Whole c =
    let xs = names_of c.args.parameters.now in
    adds_none c.args.heap.now _ _ (λ env. sym (bind-none xs env) ∙ ap (λ (w : Node). bind xs (parts (value_of c.args.heap.now w)) env) (sym c.in-Whole.is))

pub returns-in-Truth : goal.returns-in-Truth
returns-in-Truth c =
    let xs = names_of c.args.parameters.now in
    adds_none c.args.heap.now _ _ (λ env. sym (bind-none xs env) ∙ ap (λ (w : Node). bind xs (parts (value_of c.args.heap.now w)) env) (sym c.in-Truth.is))

pub returns-in-Con : goal.returns-in-Con
returns-in-Con c =
    let xs = names_of c.args.parameters.now in
    let h = c.args.heap.now in
    adds_bindings c.push_parameters.result h _ _ xs c.fields.result.now _ c.push_parameters.ensures c.fields.ensures.within
    (λ env. ap (λ (vs : List Datum). bind xs vs env) (c.fields.ensures.values ∙ sym (list-data _)) ∙ ap (λ (w : Node). bind xs (parts (value_of h w)) env) (sym c.in-Con.is))
