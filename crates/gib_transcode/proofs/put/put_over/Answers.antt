use Rattle.std.proofs.Common.{arith}
use Rattle.gib_transcode.proofs.Overs.{written_back}
use Rattle.gib_transcode.proofs.put.put_over.Goals as goal

pub returns : goal.returns
returns c = written_back c.args.place c.args.bytes.now c.args.out.now.items c.deref_mut.result.now c.write_over.new.out c.args.out.now.len c.write_over.ensures c.deref_mut.ensures.value (omega (arith, c.args.out.now.ok))
