use Rattle.std.proofs.Common.{replicate}
use Rattle.gib_print.proofs.SentLemmas.{err_then, broke_any}
use Rattle.gib_print.proofs.printed.put_close.Goals as goal

pub returns-clause-failed : goal.returns-clause-failed
returns-clause-failed g c = err_then c.put_byte.result (λ b. broke_any (replicate c.args.count 41) b) c.put_byte.ensures.failed
