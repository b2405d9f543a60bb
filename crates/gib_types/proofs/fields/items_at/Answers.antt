use Rattle.gib_types.proofs.FieldLemmas.{selected}
use Rattle.gib_types.proofs.fields.items_at.Goals as goal

pub returns : goal.returns
returns g c = selected c.args.scalars c.items.rest_types.now c.items.rest.now c.items.selected.items _ c.in_default.len_below c.items.invariant
