use Rattle.std.proofs.Common.{Ok, Err}
use Rattle.gib_locked.proofs.ReadJournal.{read_whole}
use Rattle.gib_locked.proofs.read.read_journal.Goals as goal

pub returns-in-Ok-clause-complete : goal.returns-in-Ok-clause-complete
returns-in-Ok-clause-complete c = λ s ls are is. read_whole c.args.text.now (Ok c.in-Ok.journal) c.in-Ok.ensures s ls are is

pub returns-in-Err-clause-complete : goal.returns-in-Err-clause-complete
returns-in-Err-clause-complete c = λ s ls are is. read_whole c.args.text.now (Err c.in-Err.fault) c.in-Err.ensures s ls are is
