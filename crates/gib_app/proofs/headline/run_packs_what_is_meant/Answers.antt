use Rattle.gib_app.proofs.OneProgram.{Laws}
use Rattle.gib_app.proofs.Headlines.{pack_done, pack_packed, pack_image, pack_long, pack_long_image, pack_unwritten, pack_valueless, pack_full, pack_ends_done, pack_ends_long, pack_ends_valueless, pack_fits}
use Rattle.gib_app.proofs.Results.{file_text, long_text, one_packed, short_or_long}
use Rattle.gib_app.proofs.headline.run_packs_what_is_meant.Goals as goal

pub returns-clause-done : goal.returns-clause-done
returns-clause-done c = pack_done

pub returns-clause-packed : goal.returns-clause-packed
returns-clause-packed c = pack_packed

pub returns-clause-image : goal.returns-clause-image
returns-clause-image c = pack_image

pub returns-clause-long : goal.returns-clause-long
returns-clause-long c = pack_long

pub returns-clause-long_image : goal.returns-clause-long_image
returns-clause-long_image c = pack_long_image

pub returns-clause-unwritten : goal.returns-clause-unwritten
returns-clause-unwritten c = pack_unwritten

pub returns-clause-valueless : goal.returns-clause-valueless
returns-clause-valueless c = pack_valueless

pub returns-clause-full : goal.returns-clause-full
returns-clause-full c = pack_full

pub returns-clause-text : goal.returns-clause-text
returns-clause-text c = file_text

pub returns-clause-long_text : goal.returns-clause-long_text
returns-clause-long_text c = long_text

pub returns-clause-ends_done : goal.returns-clause-ends_done
returns-clause-ends_done c =
    let laws : Laws = record { lexed = c.one_reading.ensures; parsed = c.one_program.ensures; located = c.one_reading_in.ensures; texts = c.one_text.ensures; filed = c.one_file.ensures.value } in pack_ends_done laws

pub returns-clause-ends_long : goal.returns-clause-ends_long
returns-clause-ends_long c =
    let laws : Laws = record { lexed = c.one_reading.ensures; parsed = c.one_program.ensures; located = c.one_reading_in.ensures; texts = c.one_text.ensures; filed = c.one_file.ensures.value } in pack_ends_long laws

pub returns-clause-ends_valueless : goal.returns-clause-ends_valueless
returns-clause-ends_valueless c =
    let laws : Laws = record { lexed = c.one_reading.ensures; parsed = c.one_program.ensures; located = c.one_reading_in.ensures; texts = c.one_text.ensures; filed = c.one_file.ensures.value } in pack_ends_valueless laws

pub returns-clause-fits : goal.returns-clause-fits
returns-clause-fits c =
    let laws : Laws = record { lexed = c.one_reading.ensures; parsed = c.one_program.ensures; located = c.one_reading_in.ensures; texts = c.one_text.ensures; filed = c.one_file.ensures.value } in pack_fits laws

pub returns-clause-one : goal.returns-clause-one
returns-clause-one c =
    let laws : Laws = record { lexed = c.one_reading.ensures; parsed = c.one_program.ensures; located = c.one_reading_in.ensures; texts = c.one_text.ensures; filed = c.one_file.ensures.value } in one_packed laws c.one_file.ensures.second

pub returns-clause-short : goal.returns-clause-short
returns-clause-short c =
    let laws : Laws = record { lexed = c.one_reading.ensures; parsed = c.one_program.ensures; located = c.one_reading_in.ensures; texts = c.one_text.ensures; filed = c.one_file.ensures.value } in short_or_long laws
