use Rattle.gib_mono.proofs.Finding.{one_asked, parts_asked}
use Rattle.gib_mono.proofs.Seeking.{if_ok}
use Rattle.gib_mono.proofs.find.ask_results.Goals as goal

pub returns-in-One : goal.returns-in-One
returns-in-One c =
    if_ok _ _ c.ask_types.result
    (λ _ a. one_asked c.args.source.now c.args.search.now c.ask_types.new.search c.args.gives.now c.in-One.run' c.words.result.now c.in-One.is c.requires c.words.ensures a)
    c.ask_types.ensures

pub returns-in-Several : goal.returns-in-Several
returns-in-Several c =
    if_ok _ _ c.ask_parts.result
    (λ _ a. parts_asked c.args.source.now c.args.search.now c.ask_parts.new.search c.args.gives.now c.in-Several.runs c.deref.result.now c.in-Several.is c.deref.ensures.value a)
    c.ask_parts.ensures
