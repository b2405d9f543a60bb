use Rattle.gib_mem.specs.Memory.{Memory}
use Rattle.gib_mem.specs.Plain.{plain_memory}
use Rattle.gib_mem.specs.declared.plain.PlainMem.{PlainMem}
use Rattle.gib_packed.proofs.Examples.{drawn_first}
use Rattle.gib_unit_tests.proofs.packed.filled.Goals as goal

abbrev view : PlainMem → Memory
view m = plain_memory m.bytes.items m.drawn m.limit

pub fill-requires-clause-owned : goal.fill-requires-clause-owned
fill-requires-clause-owned c = drawn_first c.draw.result (view c.in_ok-mem.mem) (view c.draw.new.self) c.in_ok-mem.ensures (cc (c.if-is_none.ensures, c.if-is_none.false)) c.draw.ensures.some c.draw.ensures.alone
