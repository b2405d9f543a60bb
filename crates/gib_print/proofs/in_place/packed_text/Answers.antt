use Rattle.std.proofs.Common.{◌∙◌, ap}
use Rattle.gib_print.specs.InPlace.{cells_of}
use Rattle.gib_print.proofs.InPlaceLemmas.{laid_packed}
use Rattle.gib_print.proofs.in_place.packed_text.Goals as goal

pub text_in-requires-clause-cells : goal.text_in-requires-clause-cells
text_in-requires-clause-cells c = c.in-Some.ensures ∙ ap cells_of c.payload.ensures.bytes

pub text_in-requires-clause-layouts : goal.text_in-requires-clause-layouts
text_in-requires-clause-layouts c = laid_packed c.in_ok-layouts.layouts c.args.survey.now.table (c.in_ok-layouts.ensures.table ∙ c.types.ensures) c.in_ok-layouts.ensures.listed
