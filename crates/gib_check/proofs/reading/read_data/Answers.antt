use Rattle.gib_check.proofs.Read.{data_read, arguments_below}
use Rattle.std.proofs.Common.{length}
use Rattle.gib_check.proofs.reading.read_data.Goals as goal

pub put_type-requires : goal.put_type-requires
put_type-requires c = arguments_below (length c.args.types.now) c.args.count c.args.stack.now c.in_ok-arguments.arguments.items c.in_ok-arguments.ensures.taken c.requires

pub returns-clause-read : goal.returns-clause-read
returns-clause-read c =
    data_read c.args.types.now c.put_type.new.types c.args.stack.now c.take.new.self c.put.new.self c.args.name c.args.count c.in_ok-arguments.arguments.items c.in_ok-id.id
    c.requires c.in_ok-arguments.ensures.taken c.in_ok-arguments.ensures.left c.in_ok-id.ensures.met c.in_ok-put.ensures
