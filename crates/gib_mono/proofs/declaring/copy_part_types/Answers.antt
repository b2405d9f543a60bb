use Rattle.gib_mono.proofs.Declarations.{written_next}
use Rattle.gib_mono.proofs.Walking.{split_is}
use Rattle.gib_mono.proofs.declaring.copy_part_types.Goals as goal

pub runs-preserved : goal.runs-preserved
runs-preserved c =
    written_next c.args.source.now.exprs.words c.args.copier.now c.runs.copier c.copy_type.new.copier c.runs.names.items c.push.new.self.items c.runs.rest.now _ c.args.runs.now _ c.words.result.now c.in_ok-written.written
    (split_is c.runs.rest.now _ c.in-len1-up.len_at_least) c.words.ensures c.runs.invariant c.in_ok-written.ensures c.in_ok-push.ensures.items
