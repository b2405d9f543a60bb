use Rattle.std.proofs.Common.{◌≡◌}
use Rattle.gib_plain.specs.Running.{code_of, owes, work}
use Rattle.gib_plain.proofs.machine.plain.Given as goal

abbrev pub invariant-steps : goal.invariant-steps
invariant-steps l = owes (code_of l.typed) l.machine ≡ owes (code_of l.initial.typed) l.initial.machine

abbrev pub decreases-steps : goal.decreases-steps
decreases-steps l = work (code_of l.typed) l.machine
