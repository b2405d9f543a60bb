use Rattle.gib_machine.proofs.Steps.{small_ask}
use Rattle.gib_machine.proofs.state.Machine.step.Goals as goal

pub goes_on-requires-clause-small : goal.goes_on-requires-clause-small
goes_on-requires-clause-small g c = small_ask _ (g.M.Mem.view c.args.mem.now) c.requires.can (g.met.M.Mem.bounded c.args.mem.now)
