use Rattle.std.proofs.Common.{◌∙◌, ap, sym}
use Rattle.gib_plain.specs.Machines.{doing_of}
use Rattle.gib_plain.specs.Running.{State}
use Rattle.gib_plain.proofs.Steps.{owes_ended}
use Rattle.gib_plain.proofs.machine.Machine.into_outcome.Goals as goal

pub returns-in-Stop : goal.returns-in-Stop
returns-in-Stop c = λ code. owes_ended code c.args.self c.in-Stop.why (sym (ap (λ (t : State). t.doing) c.self.view_is) ∙ ap (doing_of c.self.inside.heap) c.in-Stop.is)
