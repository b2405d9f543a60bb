use Rattle.std.proofs.Common.{length, ap, ◌∙◌}
use Rattle.gib_core.specs.Inferring.{as_atoms}
use Rattle.gib_core.specs.Arena.{term_of}
use Rattle.gib_place.specs.Filled.{once_by}
use Rattle.gib_place.proofs.Making.{made_passed, laid_made}
use Rattle.gib_place.proofs.filling.fill_line.Goals as goal

pub put_write-requires : goal.put_write-requires
put_write-requires c = (c.in_ok-laid.ensures (term_of c.args.scratch.now.terms) (length c.args.scratch.now.terms) c.requires).below

pub returns : goal.returns
returns c =
    made_passed c.put_write.result _ _ (λ t. laid_made (once_by c.args.placing.now.once.now) c.args.scratch.now.terms c.put_write.new.terms t c.args.line c.args.head c.in_ok-laid.laid c.in_ok-packed.packed.items (c.in_ok-laid.ensures (term_of c.args.scratch.now.terms) (length c.args.scratch.now.terms) c.requires)
    (c.in_ok-packed.ensures ∙ ap as_atoms c.deref.ensures.value)) c.put_write.ensures
