use Rattle.gib_local_print.proofs.SingleTexts.{text_single}
use Rattle.gib_local_print.proofs.law.printed_core_is_single.Goals as goal

pub returns : goal.returns
returns c names core text e = text_single names core text e
