use Rattle.gib_types.specs.Types.{forms_of, forms_at}
use Rattle.gib_syntax.specs.Declarations.{number_of}
use Rattle.gib_syntax.specs.Forms.{assign}
use Rattle.gib_mono.proofs.Read.{plain_read}
use Rattle.gib_mono.proofs.reading.read_variable.Goals as goal

pub returns-clause-read : goal.returns-clause-read
returns-clause-read c =
    plain_read c.args.types.now c.given_type.new.types c.args.reading.now c.put.new.self c.put-2.new.self c.in_ok-id.id (assign c.args.variables.now (forms_at (forms_of c.args.types.now) c.args.meant.now) (number_of c.args.x)) c.args.x.span c.requires.below c.in_ok-id.ensures.met
    c.in_ok-put.ensures c.in_ok-put-2.ensures
