use Rattle.std.proofs.Common.{sym, subst}
use Rattle.gib_local_parse.specs.LineArena.{tree_of}
use Rattle.gib_local.specs.Builds.{program_in}
use Rattle.gib_local.specs.Bodied.{BuildsBody, packed_body}
use Rattle.gib_local.proofs.Bodying.{packed_built}
use Rattle.gib_local.proofs.bodies.packed_body.Goals as goal

pub returns : goal.returns
returns c =
    let p = program_in c.args.source.now in
    let u = tree_of c.args.source.now.lines c.args.id.0 in
    subst (λ o. BuildsBody c.args.builder.now c.line.new.builder c.line.result (packed_body p c.args.builder.now c.args.ty o u)) (sym c.in-Some.is)
    (packed_built p c.args.builder.now c.name.new.self c.line.new.builder c.line.result c.args.ty c.in-Some.mark u c.in_ok-name.ensures c.line.ensures)
