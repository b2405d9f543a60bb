use Rattle.std.proofs.Common.{subst, sym, length}
use Rattle.gib_types.specs.Tree.{Datum}
use Rattle.gib_value.specs.Tags.{HasTags}
use Rattle.gib_value.proofs.WriteLemmas.{HasTags-typed}
use Rattle.gib_value.proofs.write.write_text.Goals as goal

pub write_node-requires-clause-tags : goal.write_node-requires-clause-tags
write_node-requires-clause-tags c =
    subst (λ (v : Datum). HasTags (length c.args.types.now.rows) v) (sym c.parts-root.ensures.value)
    (HasTags-typed c.args.types.now c.args.value.now c.requires.typed.0 c.requires.typed.1)
