use Rattle.gib_check.proofs.Loops.{parts_next}
use Rattle.gib_check.proofs.state.State.bind_parts.Goals as goal

pub variables-preserved : goal.variables-preserved
variables-preserved c =
    parts_next c.args.self.now c.variables.self c.bind_part.new.self c.args.names.now c.variables.rest.now c.args.types.now c.variables.ids.now c.variables.behind _ _ c.in-len1-up.len_at_least c.in-len1-up-ids.len_at_least c.variables.invariant
    c.in_ok-bind_part-in-len1-up-ids.ensures.counts c.in_ok-bind_part-in-len1-up-ids.ensures.scope c.in_ok-bind_part-in-len1-up-ids.ensures.types c.in_ok-bind_part-in-len1-up-ids.ensures.parts
