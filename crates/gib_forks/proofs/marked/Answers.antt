use Rattle.gib_core.specs.Marking.{mark}
use Rattle.gib_core.proofs.Remade.{parts_made}
use Rattle.gib_forks.proofs.marked.Goals as goal

-- src/lib.rt
pub returns : goal.returns
returns c =
    let parts = c.into_parts-types.ensures in
    parts_made mark c.args.core c.new.result _ _ _ _ _ _ _ parts.types parts.terms parts.functions parts.main parts.offsets parts.marked parts.inside c.mark_pars.ensures.marked c.new.ensures
