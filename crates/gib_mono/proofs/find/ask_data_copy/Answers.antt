use Rattle.std.proofs.Common.{◌∙◌, subst}
use Rattle.gib_mono.specs.Sources.{globals_in}
use Rattle.gib_mono.specs.Searching.{Asks}
use Rattle.gib_mono.proofs.Finding.{data_copied, fields_asks}
use Rattle.gib_mono.proofs.find.ask_data_copy.Goals as goal

pub returns : goal.returns
returns c = λ d there.
    data_copied c.args.source.now c.args.search.now c.ask_fields.new.search c.args.place c.data_decl-data.result.now d c.in_ok-variables.variables.items c.deref-2.result.now c.args.types.items there c.data_decl-data.ensures
    (c.in_ok-variables.ensures.items ∙ c.deref.ensures.value) c.deref-2.ensures.value
    (subst (λ k. Asks (globals_in c.args.source.now) (record { alloc = c.args.search.now.alloc; context = k; found = c.args.search.now.found; limit = c.args.search.now.limit }) c.ask_fields.new.search (fields_asks c.args.source.now c.deref-2.result.now)) c.enter.ensures c.in_ok-ask_fields.ensures)
