use Rattle.std.proofs.Common.{length, ◌-◌}
use Rattle.gib_value.proofs.ReadLoop.{Reads}
use Rattle.gib_value.proofs.read.read_tokens.Given as goal

abbrev pub invariant-wanted : goal.invariant-wanted
invariant-wanted l = Reads l.context.types.now l.context.names.now.short l.fn.ty l.text l.at l.reader.heap l.reader.done.items l.reader.wanted

abbrev pub decreases-wanted : goal.decreases-wanted
decreases-wanted l = length l.text - l.at
