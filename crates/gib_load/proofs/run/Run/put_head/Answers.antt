use Rattle.std.proofs.Common.{◌*◌, arith}
use Rattle.gib_region.specs.Stream.{streamed}
use Rattle.gib_load.proofs.Carrying.{put_more, owned_more}
use Rattle.gib_load.proofs.run.Run.put_head.Goals as goal

pub returns-then-gaps-eq0-clause-put : goal.returns-then-gaps-eq0-clause-put
returns-then-gaps-eq0-clause-put g c =
    let r = c.args.self.now in
    put_more (streamed (g.M.Mem.view c.args.mem.now) r.stream) c.args.payload.now r.stream.at r.at r.from r.to c.args.bytes c.args.gaps r.order c.requires.within r.behind c.requires.some (omega (arith, c.if-gaps-eq0.true))

pub returns-then-gaps-eq0-clause-carries : goal.returns-then-gaps-eq0-clause-carries
returns-then-gaps-eq0-clause-carries g c =
    let r = c.args.self.now in
    record {
      within = c.requires.within;
      may = c.requires.carries.may;
      owned = owned_more (streamed (g.M.Mem.view c.args.mem.now) r.stream) c.args.payload.now r.stream.at r.at r.from r.to c.args.bytes (8 * c.args.gaps) c.requires.carries.within r.order r.behind c.requires.carries.owned c.requires.owned;
    }
