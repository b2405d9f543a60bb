use Rattle.gib_file.proofs.ToldAlike.{alike_same, same_alike, other_refused}
use Rattle.gib_file.proofs.law.files_agree.Goals as goal

pub returns : goal.returns
returns c = record { same = alike_same; only = same_alike; refused = other_refused }
