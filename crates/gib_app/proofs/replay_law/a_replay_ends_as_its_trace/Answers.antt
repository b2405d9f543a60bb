use Rattle.gib_app.proofs.OneProgram.{Laws}
use Rattle.gib_app.proofs.Repeating.{repeats_done, repeats_valueless}
use Rattle.gib_app.proofs.replay_law.a_replay_ends_as_its_trace.Goals as goal

pub returns-clause-done : goal.returns-clause-done
returns-clause-done c =
    let laws : Laws = record { lexed = c.one_reading.ensures; parsed = c.one_program.ensures; located = c.one_reading_in.ensures; texts = c.one_text.ensures; filed = c.one_file.ensures.value } in
    λ tells words again before left later now out out_left out_later out_now front front_later said said_later end' r quiet begins begins_later h k.
    repeats_done laws tells words again before left later now out out_left out_later out_now r front front_later said said_later end' quiet begins begins_later h k

pub returns-clause-valueless : goal.returns-clause-valueless
returns-clause-valueless c =
    let laws : Laws = record { lexed = c.one_reading.ensures; parsed = c.one_program.ensures; located = c.one_reading_in.ensures; texts = c.one_text.ensures; filed = c.one_file.ensures.value } in
    λ tells words again before left later now out out_left out_later out_now said said_later x end' r quiet h k.
    repeats_valueless laws tells words again before left later now out out_left out_later out_now r said said_later x end' quiet h k
