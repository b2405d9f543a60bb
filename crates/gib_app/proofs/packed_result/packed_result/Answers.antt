use Rattle.std.proofs.Common.{◌∙◌, ◌<◌, ℕ, List, length, IfOk, IsErrOf, ap, subst}
use Rattle.gib_types.specs.Layout.{LaidOut}
use Rattle.gib_file.specs.Framed.{File2}
use Rattle.gib_packed.specs.Stands.{Stands}
use Rattle.gib_code.specs.Program.{CodeTree}
use Rattle.gib_compact.specs.declared.fault.CompactFault.TheVariants.{Long}
use Rattle.gib_app.specs.MachineRun.{cells_of}
use Rattle.gib_app.proofs.packed_result.packed_result.Goals as goal

pub returns-clause-file : goal.returns-clause-file
returns-clause-file g c = λ v.
    let value = c.args.value in
    let e = c.layouts-layouts.ensures ∙ ap (λ (x : CodeTree). x.laid) c.code.ensures.value in
    let P : LaidOut → Type 0 = λ l. Stands l (cells_of value.ran.memory) value.ran.root c.args.ty v → IfOk c.compact-file.result.0 (λ file. File2 l.table value.names.long c.args.ty v file.items) in
    subst P e (c.compact-file.ensures.file v)

pub returns-clause-long : goal.returns-clause-long
returns-clause-long g c = λ v bytes.
    let value = c.args.value in
    let e = c.layouts-layouts.ensures ∙ ap (λ (x : CodeTree). x.laid) c.code.ensures.value in
    let P : LaidOut → Type 0 = λ l. Stands l (cells_of value.ran.memory) value.ran.root c.args.ty v → IsErrOf c.compact-file.result.0 Long → File2 l.table value.names.long c.args.ty v bytes → 16777216 < length bytes in
    subst P e (c.compact-file.ensures.long v bytes)
