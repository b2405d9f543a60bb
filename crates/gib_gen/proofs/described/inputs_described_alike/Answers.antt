use Rattle.gib_gen.proofs.DescribedAlike.{same_bytes, same_files}
use Rattle.gib_gen.proofs.described.inputs_described_alike.Goals as goal

pub returns : goal.returns
returns c = record { bytes = same_bytes; files = same_files }
