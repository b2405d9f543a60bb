use Rattle.std.proofs.Common.{inl}
use Rattle.gib_app.proofs.jobs.show.show_file.Goals as goal

pub returns-in-Ok-clause-output : goal.returns-in-Ok-clause-output
returns-in-Ok-clause-output c = let o = c.in-Ok.ensures.output in record { value = o.0; is_value = inl o.1; is_text = o.2 }
