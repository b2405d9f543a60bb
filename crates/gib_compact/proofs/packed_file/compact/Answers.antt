use Rattle.std.proofs.Common.{◌≡◌, length, ap, subst, arith, length-append}
use Rattle.gib_types.specs.Table.{Table}
use Rattle.gib_file.specs.Packed.{packed}
use Rattle.gib_file.specs.Describing.{Describes}
use Rattle.gib_compact.proofs.packed_file.compact.Goals as goal

pub returns-clause-long : goal.returns-clause-long
returns-clause-long g c = λ v bytes st e f.
    let table : Table = c.args.layouts.now.table in
    let names = c.args.names.now.long in
    let given = f.1 in
    let here : Describes table names c.args.ty c.in-Ok.description.items = subst (λ (t : Table). Describes t names c.args.ty c.in-Ok.description.items) c.types.ensures c.in-Ok.ensures in
    let same : c.in-Ok.description.items ≡ given.0 = c.one_description.ensures.one table names c.args.ty c.in-Ok.description.items given.0 here given.1 in
    let long = c.compact_as.ensures.long c.args.ty v st e in
    omega (arith, long, ap length c.deref.ensures.value, ap length same, ap length given.2.1, length-append given.0 (packed v))
