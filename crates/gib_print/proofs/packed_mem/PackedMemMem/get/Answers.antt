use Rattle.std.proofs.Common.{arith}
use Rattle.gib_print.proofs.InPlaceLemmas.{there_until, byte_there, byte_read}
use Rattle.gib_print.proofs.packed_mem.PackedMemMem.get.Goals as goal

pub byte_in-requires : goal.byte_in-requires
byte_in-requires c = byte_there _ c.requires.0 c.requires.1

pub returns-clause-value : goal.returns-clause-value
returns-clause-value c = byte_read _ c.requires.0 _ c.requires.1 c.byte_in.ensures

pub returns-clause-below : goal.returns-clause-below
returns-clause-below c =
    let m = c.args.self.now in
    let until = there_until m.behind m.bytes.now c.args.at (byte_there _ c.requires.0 c.requires.1) in
    omega (arith, until, m.long, m.small)
