use Rattle.std.proofs.Common.{sym, arith}
use Rattle.gib_region.specs.Stream.{streamed}
use Rattle.gib_load.proofs.Carrying.{none_taken}
use Rattle.gib_load.proofs.run.Run.take_all.Goals as goal

pub returns-then-self-clause-put : goal.returns-then-self-clause-put
returns-then-self-clause-put g c =
    let r = c.args.self.now in
    sym (none_taken (streamed (g.M.Mem.view c.args.mem.now) r.stream) r.stream.at r.from r.to c.args.payload.now (omega (arith, c.if-self.true)))
