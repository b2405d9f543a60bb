use Rattle.gib_packed.proofs.SpanLemmas.{Dec-known}
use Rattle.gib_packed.proofs.read.tag_at.Goals as goal

pub get-requires : goal.get-requires
get-requires g c = Dec-known c.requires.1.3
