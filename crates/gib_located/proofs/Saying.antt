-- What is put on a sink where nothing is said.
use Rattle.std.proofs.Common.{[], refl, arith}
use Rattle.gib_edge.specs.Views.{SinkView}
use Rattle.gib_app.specs.Lines.{IsPut}
use Rattle.gib_app.proofs.Calling.{added_none, added_whole}

-- Nothing was said.
pub nothing_put : (now : SinkView) → IsPut now now []
nothing_put now = record { later = omega arith; none = λ said. refl; whole = λ quiet. added_none now.taken; part = added_whole now.taken now.taken [] (added_none now.taken) }
