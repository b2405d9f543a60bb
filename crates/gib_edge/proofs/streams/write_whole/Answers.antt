use Rattle.gib_edge.proofs.Pieces.{appends_next, next_within}
use Rattle.gib_edge.proofs.streams.write_whole.Goals as goal

pub loop-at-preserved : goal.loop-at-preserved
loop-at-preserved g c = record {
  within = next_within c.args.bytes.now c.loop-at.at c.in-Ok.count c.loop-at.invariant.within c.in-Ok.ensures.bound;
  taken = appends_next (g.W.Write.contents c.args.writer.now) (g.W.Write.contents c.loop-at.writer) (g.W.Write.contents c.write.new.self) c.args.bytes.now c.loop-at.at c.in-Ok.count c.loop-at.invariant.taken c.in-Ok.ensures.bytes;
}
