use Rattle.gib_print.proofs.InPlaceLemmas.{put_behind}
use Rattle.gib_print.proofs.packed_mem.PackedMemMem.put.Goals as goal

pub returns : goal.returns
returns c = let m = c.args.self.now in put_behind m.behind m.bytes.now m.chunks c.args.at c.args.byte c.requires
