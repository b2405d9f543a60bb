use Rattle.gib_access.proofs.StoredWhereRead.{stored_where_read}
use Rattle.gib_access.proofs.law.offsets_are_stored_where_read.Goals as goal

-- src/law.rt
pub returns : goal.returns
returns c = stored_where_read
