use Rattle.std.proofs.Common.{rules}
use Rattle.gib_local_parse.specs.LineArena.{tree_of}
use Rattle.gib_local.specs.Builds.{program_in}
use Rattle.gib_local.proofs.Bodying.{scalar_built, scalar_refused}
use Rattle.gib_local.proofs.bodies.scalar_body.Goals as goal

pub returns : goal.returns
returns c = scalar_built (program_in c.args.source.now) c.args.builder.now c.line.new.builder c.line.result c.args.place (tree_of c.args.source.now.lines c.args.id.0) c.in_ok-no_mark.ensures c.line.ensures

pub returns-in_err-no_mark : goal.returns-in_err-no_mark
returns-in_err-no_mark c =
    let h = scalar_refused (program_in c.args.source.now) c.in_err-no_mark.field-0.0 c.args.builder.now c.args.place (tree_of c.args.source.now.lines c.args.id.0) c.in_err-no_mark.ensures in
    search rules
