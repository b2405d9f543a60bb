use Rattle.gib_app.proofs.OneProgram.{Laws}
use Rattle.gib_app.proofs.LocalHeadlines.{ends_done, ends_refused, ends_valueless, local_done, local_fits, local_full, local_refused, local_valueless, no_result, one_reason, one_result}
use Rattle.gib_app.proofs.local_law.local_prints_what_is_meant.Goals as goal

pub returns-clause-done : goal.returns-clause-done
returns-clause-done c = λ tells words before now' out out_now source input options front said r h. local_done tells words before now' out out_now source input options front r said h

pub returns-clause-valueless : goal.returns-clause-valueless
returns-clause-valueless c = λ tells words before now' out out_now source input options front said x r h. local_valueless tells words before now' out out_now source input options front r said x h

pub returns-clause-full : goal.returns-clause-full
returns-clause-full c = λ tells words before now' out out_now source input options front said r h. local_full tells words before now' out out_now source input options front r said h

pub returns-clause-refused : goal.returns-clause-refused
returns-clause-refused c = λ tells words before now' out out_now source input options front said r h made. local_refused tells words before now' out out_now source input options front r said h made

pub returns-clause-ends_done : goal.returns-clause-ends_done
returns-clause-ends_done c =
    let laws : Laws = record { lexed = c.one_reading.ensures; parsed = c.one_program.ensures; located = c.one_reading_in.ensures; texts = c.one_text.ensures; filed = c.one_file.ensures.value } in
    λ tells words before now' out out_now source input options front output said end' r quiet h ends. ends_done tells words before now' out out_now source input options front r laws quiet output said end' h ends

pub returns-clause-ends_valueless : goal.returns-clause-ends_valueless
returns-clause-ends_valueless c =
    let laws : Laws = record { lexed = c.one_reading.ensures; parsed = c.one_program.ensures; located = c.one_reading_in.ensures; texts = c.one_text.ensures; filed = c.one_file.ensures.value } in
    λ tells words before now' out out_now source input options front said x end' r quiet h ends. ends_valueless tells words before now' out out_now source input options front r laws quiet said x end' h ends

pub returns-clause-ends_refused : goal.returns-clause-ends_refused
returns-clause-ends_refused c =
    let laws : Laws = record { lexed = c.one_reading.ensures; parsed = c.one_program.ensures; located = c.one_reading_in.ensures; texts = c.one_text.ensures; filed = c.one_file.ensures.value } in
    λ tells words before now' out out_now source input options front said end' r quiet h ends. ends_refused tells words before now' out out_now source input options front r laws quiet said end' h ends

pub returns-clause-fits : goal.returns-clause-fits
returns-clause-fits c =
    let laws : Laws = record { lexed = c.one_reading.ensures; parsed = c.one_program.ensures; located = c.one_reading_in.ensures; texts = c.one_text.ensures; filed = c.one_file.ensures.value } in
    λ tells words before now' out out_now source input options front said end' r quiet g fits ends. local_fits tells words before now' out out_now source input options front r laws quiet said end' g fits ends

pub returns-clause-one : goal.returns-clause-one
returns-clause-one c =
    let laws : Laws = record { lexed = c.one_reading.ensures; parsed = c.one_program.ensures; located = c.one_reading_in.ensures; texts = c.one_text.ensures; filed = c.one_file.ensures.value } in
    one_result laws

pub returns-clause-none : goal.returns-clause-none
returns-clause-none c =
    let laws : Laws = record { lexed = c.one_reading.ensures; parsed = c.one_program.ensures; located = c.one_reading_in.ensures; texts = c.one_text.ensures; filed = c.one_file.ensures.value } in
    no_result laws

pub returns-clause-reason : goal.returns-clause-reason
returns-clause-reason c =
    let laws : Laws = record { lexed = c.one_reading.ensures; parsed = c.one_program.ensures; located = c.one_reading_in.ensures; texts = c.one_text.ensures; filed = c.one_file.ensures.value } in
    one_reason laws
