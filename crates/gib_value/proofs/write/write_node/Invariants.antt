use Rattle.std.proofs.Common.{reverse}
use Rattle.gib_value.specs.Heap.{value_of}
use Rattle.gib_value.specs.Text.{text}
use Rattle.gib_value.specs.Writing.{due_size}
use Rattle.gib_value.proofs.WriteLemmas.{Writes}
use Rattle.gib_value.proofs.write.write_node.Given as goal

abbrev pub invariant-due : goal.invariant-due
invariant-due l = Writes l.context.types.now l.context.names.now.short l.heap (text l.context.types.now l.context.names.now.short (value_of l.heap l.fn.root)) (reverse l.writer.due.items) l.writer.out.items

abbrev pub decreases-due : goal.decreases-due
decreases-due l = due_size l.heap (reverse l.writer.due.items)
