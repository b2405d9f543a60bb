use Rattle.gib_app.proofs.jobs.trace.with_journal.Goals as goal

pub returns-in-Ok-clause-made : goal.returns-in-Ok-clause-made
returns-in-Ok-clause-made c = λ p o input trace s.
    (trace, record { value = s.value; result = s.result; is_input = s.is_input; means = s.means; is_text = c.in-Ok.ensures p o.depth input s })
