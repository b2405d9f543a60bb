use Rattle.gib_file.proofs.SameTypes.{packed_law, files_law}
use Rattle.gib_file.proofs.law.described_alike.Goals as goal

pub returns : goal.returns
returns c = record { bytes = packed_law; files = files_law }
