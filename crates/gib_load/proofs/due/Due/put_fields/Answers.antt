use Rattle.std.proofs.Common.{◌+◌, ◌-◌, length, length-append, ap, arith}
use Rattle.gib_load.specs.Gaps.{gaps_from}
use Rattle.gib_load.proofs.Noting.{gaps_length}
use Rattle.gib_load.proofs.due.Due.put_fields.Goals as goal

pub put-requires : goal.put-requires
put-requires c =
    let old = c.args.self.now.gaps in
    let n = c.args.packed - c.fields.i in
    let all = ap length c.fields.invariant.gaps in
    let both = length-append (gaps_from c.args.stores c.args.base c.fields.i n) old in
    let many = gaps_length c.args.stores c.args.base c.fields.i n in
    let room = c.requires.room c.fields.invariant.was in
    let within = c.fields.invariant.within in
    let same = c.fields.invariant.room in
    let some = c.fields-test.true in
    omega (arith, all, both, many, room, within, same, some)
