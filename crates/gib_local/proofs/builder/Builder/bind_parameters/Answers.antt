use Rattle.std.proofs.Common.{map}
use Rattle.gib_local.specs.Bodied.{name_of}
use Rattle.gib_local.proofs.Binding.{parameters_next, parameters_end}
use Rattle.gib_local.proofs.builder.Builder.bind_parameters.Goals as goal

pub parameters-preserved : goal.parameters-preserved
parameters-preserved c =
    parameters_next c.args.self.now c.parameters.self c.bind_new.new.self (map name_of c.args.parameters.now) c.parameters.rest.now _ c.in-len1-up.len_at_least c.parameters.invariant c.in_ok-bind_new.ensures.new

pub returns : goal.returns
returns c = parameters_end c.args.self.now c.parameters.self (map name_of c.args.parameters.now) c.parameters.rest.now c.in_default.len_below c.parameters.invariant
