use Rattle.gib_types.specs.Types.{forms_of, form_from}
use Rattle.gib_mono.proofs.Read.{plain_read}
use Rattle.gib_mono.proofs.reading.read_plain.Goals as goal

pub returns-clause-read : goal.returns-clause-read
returns-clause-read c = plain_read c.args.types.now c.put_type.new.types c.args.reading.now c.put.new.self c.put-2.new.self c.in_ok-id.id (form_from (forms_of c.args.types.now) c.args.node) c.args.span c.requires.below c.in_ok-id.ensures.met c.in_ok-put.ensures c.in_ok-put-2.ensures
