use Rattle.std.proofs.Common.{ap, sym}
use Rattle.gib_local.specs.Building.{build_core}
use Rattle.gib_local.specs.Local.{placed}
use Rattle.gib_local_parse.specs.TextParts.{TextParts, text_of}
use Rattle.gib_local.proofs.Telling.{judges_for}
use Rattle.gib_local.proofs.making.placed.Goals as goal

pub returns-in-Ok : goal.returns-in-Ok
returns-in-Ok c =
    let made = λ (p : TextParts). placed (text_of p) (build_core (text_of p)) in
    judges_for c.built.result (made c.args.known) (made c.in-Ok.source) (ap made (sym c.in-Ok.ensures)) c.built.ensures
