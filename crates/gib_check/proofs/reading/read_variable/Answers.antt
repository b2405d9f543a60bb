use Rattle.gib_types.specs.Types.{forms_of}
use Rattle.gib_syntax.specs.Declarations.{number_of}
use Rattle.gib_check.specs.Judging.{meant_by}
use Rattle.gib_check.proofs.Read.{plain_read}
use Rattle.gib_check.proofs.reading.read_variable.Goals as goal

pub returns-clause-read : goal.returns-clause-read
returns-clause-read c = plain_read c.args.types.now c.variable_type.new.types c.args.stack.now c.put.new.self c.in_ok-id.id (meant_by (forms_of c.args.types.now) c.args.meaning.now (number_of c.args.x)) c.requires.below c.in_ok-id.ensures.met c.in_ok-put.ensures
