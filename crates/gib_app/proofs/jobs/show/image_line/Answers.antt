use Rattle.std.proofs.Common.{inr}
use Rattle.gib_syntax.specs.Parts.{program_of}
use Rattle.gib_app.proofs.Signs.{shown_typed}
use Rattle.gib_app.proofs.jobs.show.image_line.Goals as goal

pub value_line-requires-clause-typed : goal.value_line-requires-clause-typed
value_line-requires-clause-typed c = shown_typed {names = c.args.request.compiled.now.names} (program_of c.args.request.compiled.now.typed) c.args.request.options c.in-Ok.value c.args.request.input.now (inr c.in-Ok.ensures.read)

pub returns-in-Err-clause-stop : goal.returns-in-Err-clause-stop
returns-in-Err-clause-stop c = c.in-Err.ensures.stop c.args.request.compiled.now.names

pub returns-in-Ok-value_line-clause-output : goal.returns-in-Ok-value_line-clause-output
returns-in-Ok-value_line-clause-output c = record { value = c.in-Ok.value; is_value = inr c.in-Ok.ensures.read; is_text = c.in-Ok-value_line.ensures }
