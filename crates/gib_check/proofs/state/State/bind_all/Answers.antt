use Rattle.gib_check.proofs.Loops.{binds_next}
use Rattle.gib_check.proofs.state.State.bind_all.Goals as goal

pub variables-preserved : goal.variables-preserved
variables-preserved c =
    binds_next c.args.self.now c.variables.self c.bind.new.self c.args.variables.now c.variables.names.now c.args.fields.now c.variables.ids.now _ _ c.in-len1-up.len_at_least c.in-len1-up-ids.len_at_least c.variables.invariant
    c.in_ok-bind-in-len1-up-ids.ensures.counts c.in_ok-bind-in-len1-up-ids.ensures.scope c.in_ok-bind-in-len1-up-ids.ensures.types c.in_ok-bind-in-len1-up-ids.ensures.parts
