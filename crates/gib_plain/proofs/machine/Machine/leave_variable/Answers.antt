use Rattle.gib_plain.proofs.machine.Machine.leave_variable.Goals as goal

pub invariant_of-self : goal.invariant_of-self
invariant_of-self c = record { held = c.self.invariant.held; next = c.newest-value.ensures.within _ (rw c.deref.ensures.value c.self.invariant.held.vars_within) }
