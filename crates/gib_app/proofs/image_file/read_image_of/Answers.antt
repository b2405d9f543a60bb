use Rattle.std.proofs.Common.{◌≡◌, ◌∙◌, Err, Ok, ap, subst, sym}
use Rattle.gib_types.specs.declared.table.Ty.{Ty}
use Rattle.gib_types.specs.Layout.{LaidOut}
use Rattle.gib_print.specs.ImageReading.{ReadsTo}
use Rattle.gib_code.specs.Program.{CodeTree}
use Rattle.gib_syntax.specs.Parts.{program_of}
use Rattle.gib_app.specs.declared.stop.Stop.{Stop}
use Rattle.gib_app.specs.Cores.{layouts_asked}
use Rattle.gib_app.specs.Stops.{IsShowStop}
use Rattle.gib_app.proofs.Signs.{image_stops}
use Rattle.gib_app.proofs.image_file.read_image_of.Goals as goal

pub returns-clause-stop : goal.returns-clause-stop
returns-clause-stop c = λ names.
    let p = program_of c.args.typed.now in
    let owed = layouts_asked c.args.options p in
    let bytes = c.args.bytes.now in
    let fault = c.in-Err-read_image.fault in
    let laid : c.layouts-layouts.result.now ≡ owed = c.layouts-layouts.ensures ∙ ap (λ (x : CodeTree). x.laid) c.code.ensures.value ∙ c.in-Ok.ensures.laid in
    let L : LaidOut → Type 0 = λ l. ReadsTo l c.output_type.result bytes (Err fault) in
    let T : Ty → Type 0 = λ t. ReadsTo owed t bytes (Err fault) in
    let read = subst T c.output_type.ensures (subst L laid c.in-Err-read_image.ensures.reads) in
    let S : Stop → Type 0 = IsShowStop p names owed bytes in
    subst S (sym c.of_image.ensures) (image_stops c.a_value_is_not_refused.ensures p names owed bytes c.requires.sign c.requires.short fault read)

pub returns-in-Ok-read_image-clause-read : goal.returns-in-Ok-read_image-clause-read
returns-in-Ok-read_image-clause-read c =
    let p = program_of c.args.typed.now in
    let laid : c.layouts-layouts.result.now ≡ layouts_asked c.args.options p = c.layouts-layouts.ensures ∙ ap (λ (x : CodeTree). x.laid) c.code.ensures.value ∙ c.in-Ok.ensures.laid in
    let L : LaidOut → Type 0 = λ l. ReadsTo l c.output_type.result c.args.bytes.now (Ok c.in-Ok-read_image.value) in
    let T : Ty → Type 0 = λ t. ReadsTo (layouts_asked c.args.options p) t c.args.bytes.now (Ok c.in-Ok-read_image.value) in
    subst T c.output_type.ensures (subst L laid c.in-Ok-read_image.ensures.reads)
