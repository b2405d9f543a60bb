use Rattle.gib_mono.specs.Sources.{globals_in}
use Rattle.gib_mono.proofs.Seeking.{asked_start}
use Rattle.gib_mono.proofs.Finding.{fields_asks, fields_next, fields_end}
use Rattle.gib_mono.proofs.find.ask_fields.Goals as goal

pub constructors-preserved : goal.constructors-preserved
constructors-preserved c =
    fields_next c.args.source.now c.args.search.now c.constructors.search c.ask_types.new.search c.args.constructors.now c.constructors.rest.now _ c.words.result.now c.in-len1-up.len_at_least c.words.ensures
    c.constructors.invariant c.in_ok-ask_types.ensures

pub returns : goal.returns
returns c = fields_end c.args.source.now c.args.search.now c.constructors.search c.args.constructors.now c.constructors.rest.now c.in_default.len_below c.constructors.invariant

pub constructors-init : goal.constructors-init
constructors-init c = asked_start (globals_in c.args.source.now) c.args.search.now (fields_asks c.args.source.now c.args.constructors.now)
