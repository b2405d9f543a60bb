use Rattle.std.proofs.Common.{sym, subst}
use Rattle.gib_file.specs.Packed.{Packed}
use Rattle.gib_file.specs.Surveyed.{Surveyed}
use Rattle.gib_app.specs.declared.stop.Stop.{Stop}
use Rattle.gib_app.specs.Stops.{IsPackedStop}
use Rattle.gib_app.proofs.Refusals.{header_stops, types_stop, payload_stops}
use Rattle.gib_app.proofs.packed.survey_typed.Goals as goal

pub returns-in-Err-clause-refused : goal.returns-in-Err-clause-refused
returns-in-Err-clause-refused c =
    let table = c.args.types.now in
    let names = c.args.names.now.long in
    let P : Stop → Type 0 = IsPackedStop table names c.args.ty c.args.bytes.now in
    subst P (sym c.of_packed.ensures)
    (header_stops c.refused_header.ensures c.refused_description.ensures c.refused_file.ensures table names c.args.ty c.args.bytes.now c.in-Err.fault ((c.read_header.ensures.refused c.in-Err.fault).0 c.in-Err.is))

pub returns-in-Err-agree-clause-refused : goal.returns-in-Err-agree-clause-refused
returns-in-Err-agree-clause-refused c =
    let table = c.args.types.now in
    let names = c.args.names.now.long in
    let content = c.in-Ok.payload in
    let P : Stop → Type 0 = IsPackedStop table names c.args.ty c.args.bytes.now in
    subst P (sym c.of_schema.ensures)
    (types_stop c.refused_header.ensures c.refused_description.ensures c.refused_file.ensures table names c.args.ty c.args.bytes.now content c.in-Err-agree.fault ((c.read_header.ensures.passed content).0 c.in-Ok.is)
    c.in-Err-agree.ensures.fault)

pub returns-in-Ok-survey-clause-file : goal.returns-in-Ok-survey-clause-file
returns-in-Ok-survey-clause-file c = λ v q.
    let content = c.in-Ok.payload in
    let S : Surveyed → Type 0 = λ s. Packed s.table s.ty v s.bytes in
    (c.file_is_content.ensures c.args.types.now c.args.names.now.long c.args.ty v content c.args.bytes.now ((c.read_header.ensures.passed content).0 c.in-Ok.is)).1 (c.in-Ok-agree.ensures.agrees, subst S c.in-Ok-survey.ensures.same q)

pub returns-in-Err-survey-clause-refused : goal.returns-in-Err-survey-clause-refused
returns-in-Err-survey-clause-refused c =
    let table = c.args.types.now in
    let names = c.args.names.now.long in
    let content = c.in-Ok.payload in
    let P : Stop → Type 0 = IsPackedStop table names c.args.ty c.args.bytes.now in
    subst P (sym c.of_payload.ensures)
    (payload_stops c.refused_header.ensures c.refused_description.ensures c.refused_file.ensures table names c.args.ty c.args.bytes.now content c.in-Err-survey.fault ((c.read_header.ensures.passed content).0 c.in-Ok.is)
    c.in-Ok-agree.ensures.agrees c.in-Err-survey.ensures.exact)
