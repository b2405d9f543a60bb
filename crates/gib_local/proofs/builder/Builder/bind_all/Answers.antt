use Rattle.gib_local.proofs.Binding.{binds_begin, binds_next, binds_end}
use Rattle.gib_local.proofs.builder.Builder.bind_all.Goals as goal

pub names-init : goal.names-init
names-init c = binds_begin c.args.self.now c.args.names.now c.new-variables.result.items c.new-variables.ensures.items

pub names-preserved : goal.names-preserved
names-preserved c =
    binds_next c.args.self.now c.names.self c.bind_new.new.self c.args.names.now c.names.rest.now _ c.names.variables.items c.push.new.self.items c.in_ok-variable.variable c.in-len1-up.len_at_least c.names.invariant
    c.in_ok-variable.ensures.variable c.in_ok-variable.ensures.new c.in_ok-push.ensures.items

pub returns : goal.returns
returns c = binds_end c.args.self.now c.names.self c.args.names.now c.names.rest.now c.names.variables.items c.in_default.len_below c.names.invariant
