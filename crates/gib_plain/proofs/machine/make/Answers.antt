use Rattle.std.proofs.Common.{◌∙◌, ap, length, map, List}
use Rattle.gib_types.specs.Tree.{Datum, con, data_of}
use Rattle.gib_value.specs.Heap.{value_of, IsWithin}
use Rattle.gib_plain.proofs.InTurn.{place_all, place_map}
use Rattle.gib_plain.proofs.Steps.{if_ok}
use Rattle.gib_plain.proofs.machine.make.Goals as goal

pub make-requires-clause-within : goal.make-requires-clause-within
make-requires-clause-within c =
    rw (c.deref.ensures.value, c.in_ok-put_in_place.ensures) (place_all (IsWithin (length c.args.heap.now)) c.args.types.now c.args.values.now c.requires)

pub returns-clause-made : goal.returns-clause-made
returns-clause-made c =
    let value = value_of c.args.heap.now in
    let fields = ap (map value) (c.deref.ensures.value ∙ c.in_ok-put_in_place.ensures) ∙ place_map value c.args.types.now c.args.values.now in
    if_ok c.make.result (λ node e. e ∙ ap (λ (vs : List Datum). con c.args.con.0 (data_of vs)) fields) c.make.ensures.made
