use Rattle.gib_app.proofs.OneProgram.{Laws}
use Rattle.gib_app.proofs.Headlines.{run_done, run_image, run_valueless, run_full, run_ends_done, run_ends_valueless, run_fits}
use Rattle.gib_app.proofs.Results.{one_result, no_result, one_reason}
use Rattle.gib_app.proofs.headline.run_prints_what_is_meant.Goals as goal

pub returns-clause-done : goal.returns-clause-done
returns-clause-done c = run_done

pub returns-clause-image : goal.returns-clause-image
returns-clause-image c = run_image

pub returns-clause-valueless : goal.returns-clause-valueless
returns-clause-valueless c = run_valueless

pub returns-clause-full : goal.returns-clause-full
returns-clause-full c = run_full

pub returns-clause-ends_done : goal.returns-clause-ends_done
returns-clause-ends_done c =
    let laws : Laws = record { lexed = c.one_reading.ensures; parsed = c.one_program.ensures; located = c.one_reading_in.ensures; texts = c.one_text.ensures; filed = c.one_file.ensures.value } in run_ends_done laws

pub returns-clause-ends_valueless : goal.returns-clause-ends_valueless
returns-clause-ends_valueless c =
    let laws : Laws = record { lexed = c.one_reading.ensures; parsed = c.one_program.ensures; located = c.one_reading_in.ensures; texts = c.one_text.ensures; filed = c.one_file.ensures.value } in run_ends_valueless laws

pub returns-clause-fits : goal.returns-clause-fits
returns-clause-fits c =
    let laws : Laws = record { lexed = c.one_reading.ensures; parsed = c.one_program.ensures; located = c.one_reading_in.ensures; texts = c.one_text.ensures; filed = c.one_file.ensures.value } in run_fits laws

pub returns-clause-one : goal.returns-clause-one
returns-clause-one c =
    let laws : Laws = record { lexed = c.one_reading.ensures; parsed = c.one_program.ensures; located = c.one_reading_in.ensures; texts = c.one_text.ensures; filed = c.one_file.ensures.value } in one_result laws

pub returns-clause-none : goal.returns-clause-none
returns-clause-none c =
    let laws : Laws = record { lexed = c.one_reading.ensures; parsed = c.one_program.ensures; located = c.one_reading_in.ensures; texts = c.one_text.ensures; filed = c.one_file.ensures.value } in no_result laws

pub returns-clause-reason : goal.returns-clause-reason
returns-clause-reason c =
    let laws : Laws = record { lexed = c.one_reading.ensures; parsed = c.one_program.ensures; located = c.one_reading_in.ensures; texts = c.one_text.ensures; filed = c.one_file.ensures.value } in one_reason laws
