use Rattle.std.proofs.Common.{◌∙◌}
use Rattle.gib_mono.proofs.Declarations.{types_written}
use Rattle.gib_mono.proofs.Seeking.{if_ok}
use Rattle.gib_mono.proofs.declaring.copy_types.Goals as goal

pub returns : goal.returns
returns c =
    if_ok _ _ c.type_names.result (λ names h. types_written c.args.copier.now c.read.new.self c.args.words.now c.in_ok-reading.reading c.deref.result.now c.deref-2.result.now names.items c.in_ok-reading.ensures (c.deref.ensures.value ∙ c.into_vec-places.ensures) (c.deref-2.ensures.value ∙ c.into_vec-types.ensures) h)
    c.type_names.ensures
