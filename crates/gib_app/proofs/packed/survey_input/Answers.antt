use Rattle.std.proofs.Common.{◌∙◌, sym, subst₂}
use Rattle.gib_types.specs.declared.table.Ty.{Ty}
use Rattle.gib_types.specs.Table.{Table}
use Rattle.gib_file.specs.Framed.{File}
use Rattle.gib_app.specs.Stops.{IsPackedStop}
use Rattle.gib_app.proofs.packed.survey_input.Goals as goal

pub returns-in-Ok-clause-file : goal.returns-in-Ok-clause-file
returns-in-Ok-clause-file c = λ v q.
    subst₂ (λ (t : Table) (y : Ty). File t c.args.names.now.long y v c.args.bytes.now) c.types-types.ensures c.input_type-ty.ensures (c.in-Ok.ensures.file v q)

pub returns-in-Err-clause-refused : goal.returns-in-Err-clause-refused
returns-in-Err-clause-refused c =
    subst₂ (λ (t : Table) (y : Ty). IsPackedStop t c.args.names.now.long y c.args.bytes.now c.in-Err.stop) c.types-types.ensures c.input_type-ty.ensures c.in-Err.ensures.refused
