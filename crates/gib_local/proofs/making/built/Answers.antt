use Rattle.std.proofs.Common.{ap}
use Rattle.gib_core.specs.Parts.{core_of}
use Rattle.gib_local.specs.Building.{build_core}
use Rattle.gib_local.specs.Counting.{broken_text}
use Rattle.gib_local.specs.Local.{judged, placed}
use Rattle.gib_local_parse.specs.TextParts.{text_of}
use Rattle.gib_local.proofs.Telling.{judges_for}
use Rattle.gib_local.proofs.making.built.Goals as goal

pub returns-in-Ok : goal.returns-in-Ok
returns-in-Ok c =
    let t = text_of c.args.source.now in
    judges_for c.judged.result (placed t (build_core t)) (judged (core_of c.in-Ok.core) (broken_text t (core_of c.in-Ok.core))) (ap (placed t) c.in-Ok.ensures) c.judged.ensures
