use Rattle.gib_mono.proofs.Declarations.{parameters_next}
use Rattle.gib_mono.proofs.Walking.{split_is}
use Rattle.gib_mono.proofs.declaring.copy_parameters.Goals as goal

pub parameters-preserved : goal.parameters-preserved
parameters-preserved c =
    parameters_next c.args.source.now.exprs.words c.args.copier.now c.parameters.copier c.copy_type.new.copier c.bind.new.self c.parameters.copied.items c.push.new.self.items c.parameters.rest.now _ c.args.parameters.now _ c.words.result.now c.in_ok-written.written
    (split_is c.parameters.rest.now _ c.in-len1-up.len_at_least) c.words.ensures c.parameters.invariant c.in_ok-written.ensures c.in_ok-bind.ensures.scope c.in_ok-push.ensures.items
