use Rattle.std.proofs.Common.{ap, ◌∙◌}
use Rattle.gib_local.specs.Local.{named, read}
use Rattle.gib_local.specs.Naming.{check_text}
use Rattle.gib_local_parse.specs.TextParts.{text_of}
use Rattle.gib_local.proofs.Telling.{answers_of}
use Rattle.gib_local.proofs.making.answered.Goals as goal

pub returns-in-Ok : goal.returns-in-Ok
returns-in-Ok c = answers_of c.args.tokens.now c.named.result (named (text_of c.in-Ok.text) (check_text (text_of c.in-Ok.text))) (ap read c.in-Ok.ensures.read) c.named.ensures

pub returns-in-Err : goal.returns-in-Err
returns-in-Err c = c.of_reading.ensures c.args.tokens.now c.in-Err.ensures.refused.0 c.in-Err.ensures.refused.1 c.in-Err.ensures.refused.2
