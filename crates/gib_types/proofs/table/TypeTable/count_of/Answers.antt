use Rattle.std.proofs.Common.{arith}
use Rattle.gib_types.proofs.Indexes.{count_read}
use Rattle.gib_types.proofs.table.TypeTable.count_of.Goals as goal

pub overflow_sub-result : goal.overflow_sub-result
overflow_sub-result c =
    let r = count_read _ c.self.inside.firsts.items c.self.inside.places _ c.args.ty.0 _ _ c.self.view_is c.self.invariant c.requires c.index.ensures c.index-2.ensures in omega arith

pub returns : goal.returns
returns c =
    let r = count_read _ c.self.inside.firsts.items c.self.inside.places _ c.args.ty.0 _ _ c.self.view_is c.self.invariant c.requires c.index.ensures c.index-2.ensures in omega arith
