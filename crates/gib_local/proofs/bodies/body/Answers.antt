use Rattle.std.proofs.Common.{sym, ◌∙◌}
use Rattle.gib_local_parse.specs.LineArena.{tree_of}
use Rattle.gib_local.specs.Builds.{program_in}
use Rattle.gib_local.proofs.Bodying.{begun, packed_begun, scalar_begun}
use Rattle.gib_local.proofs.bodies.body.Goals as goal

pub returns-then-is_scalar : goal.returns-then-is_scalar
returns-then-is_scalar c =
    scalar_begun (program_in c.args.source.now) c.args.builder.now c.bind_parameters.new.self c.scalar_body.new.builder c.args.parameters.now c.args.ty c.type_named.result c.args.place (tree_of c.args.source.now.lines c.args.id.0) c.scalar_body.result c.type_named.ensures (sym c.is_scalar.ensures ∙ c.if-is_scalar.true)
    (begun c.args.builder.now c.begin.new.self c.bind_parameters.new.self c.args.parameters.now c.in_ok-begin.ensures c.in_ok-bind_parameters.ensures) c.scalar_body.ensures

pub returns-else-is_scalar : goal.returns-else-is_scalar
returns-else-is_scalar c =
    packed_begun (program_in c.args.source.now) c.args.builder.now c.bind_parameters.new.self c.packed_body.new.builder c.args.parameters.now c.args.ty c.type_named.result c.args.place (tree_of c.args.source.now.lines c.args.id.0) c.packed_body.result c.type_named.ensures (sym c.is_scalar.ensures ∙ c.if-is_scalar.false)
    (begun c.args.builder.now c.begin.new.self c.bind_parameters.new.self c.args.parameters.now c.in_ok-begin.ensures c.in_ok-bind_parameters.ensures) c.packed_body.ensures
