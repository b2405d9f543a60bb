use Rattle.gib_mono.proofs.Finding.{parameters_start, parameters_next, parameters_end}
use Rattle.gib_mono.proofs.find.ask_parameters.Goals as goal

pub parameters-preserved : goal.parameters-preserved
parameters-preserved c =
    parameters_next c.args.source.now c.args.search.now c.parameters.search c.ask_types.new.search c.args.parameters.now c.parameters.rest.now _ c.words.result.now c.in-len1-up.len_at_least c.words.ensures
    c.parameters.invariant c.in_ok-ask_types.ensures

pub returns : goal.returns
returns c = parameters_end c.args.source.now c.args.search.now c.parameters.search c.args.parameters.now c.parameters.rest.now c.in_default.len_below c.parameters.invariant

pub parameters-init : goal.parameters-init
parameters-init c = parameters_start c.args.source.now c.args.search.now c.args.parameters.now c.requires
