use Rattle.std.proofs.Common.{◌∙◌, Err, sym, subst}
use Rattle.gib_locked.specs.declared.journal_fault.JournalFault.{JournalFault}
use Rattle.gib_locked.specs.JournalReading.{ReadsTo}
use Rattle.gib_app.specs.declared.stop.Stop.{Stop}
use Rattle.gib_app.specs.Workers.{IsNoJournal}
use Rattle.gib_app.proofs.JournalEnds.{line_is_told}
use Rattle.gib_app.proofs.replaying.journal_of.Goals as goal

pub returns-in-Err-Line-clause-none : goal.returns-in-Err-Line-clause-none
returns-in-Err-Line-clause-none c =
    let bytes = c.args.bytes.now in
    let refused = subst (λ (f : JournalFault). ReadsTo bytes (Err f)) c.in-Err-Line.field-0-is c.in-Err-Line.ensures.exact in
    let P : Stop → Type 0 = IsNoJournal bytes in
    subst P (sym c.of_journal.ensures) (refused, λ s ls are is. line_is_told c.in-Err-Line.line (sym c.in-Err-Line.field-0-is ∙ c.in-Err-Line.ensures.complete s ls are is))
