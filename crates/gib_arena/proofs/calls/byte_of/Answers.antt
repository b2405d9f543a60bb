use Rattle.std.proofs.Common.{arith}
use Rattle.gib_arena.proofs.Eight.{byte_is}
use Rattle.gib_arena.proofs.calls.byte_of.Goals as goal

pub returns : goal.returns
returns c = byte_is c.args.place c.args.word (omega arith) c.requires
