use Rattle.gib_mono.proofs.Declarations.{constructors_next}
use Rattle.gib_mono.proofs.Walking.{split_is}
use Rattle.gib_mono.proofs.declaring.copy_constructors.Goals as goal

pub constructors-preserved : goal.constructors-preserved
constructors-preserved c =
    constructors_next c.args.source.now.exprs.words c.args.copier.now c.constructors.copier c.copy_constructor.new.copier c.args.types.now c.constructors.copied.items c.push.new.self.items c.constructors.rest.now _ c.args.constructors.now _ c.in_ok-copy.copy
    (split_is c.constructors.rest.now _ c.in-len1-up.len_at_least) c.constructors.invariant c.in_ok-copy.ensures c.in_ok-push.ensures.items
