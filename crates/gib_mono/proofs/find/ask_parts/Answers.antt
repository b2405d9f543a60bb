use Rattle.gib_mono.proofs.Finding.{runs_start, runs_next, runs_end}
use Rattle.gib_mono.proofs.find.ask_parts.Goals as goal

pub runs-preserved : goal.runs-preserved
runs-preserved c =
    runs_next c.args.source.now c.args.search.now c.runs.search c.ask_types.new.search c.args.runs.now c.runs.rest.now _ c.words.result.now c.in-len1-up.len_at_least c.words.ensures
    c.runs.invariant c.in_ok-ask_types.ensures

pub returns : goal.returns
returns c = runs_end c.args.source.now c.args.search.now c.runs.search c.args.runs.now c.runs.rest.now c.in_default.len_below c.runs.invariant

pub runs-init : goal.runs-init
runs-init c = runs_start c.args.source.now c.args.search.now c.args.runs.now c.requires
