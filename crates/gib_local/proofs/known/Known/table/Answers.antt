use Rattle.std.proofs.Common.{◌∙◌, sym, subst}
use Rattle.gib_types.specs.Table.{IsTable}
use Rattle.gib_local.proofs.Sourcing.{table_is}
use Rattle.gib_local.proofs.known.Known.table.Goals as goal

pub make_table-requires : goal.make_table-requires
make_table-requires c =
    subst IsTable (sym (table_is c.self.inside.text c.args.self.now c.self.inside.types c.datas.result.now c.self.view_is c.self.invariant.types_are c.datas.ensures)) c.requires

pub returns : goal.returns
returns c = c.in_ok-table.ensures.table ∙ table_is c.self.inside.text c.args.self.now c.self.inside.types c.datas.result.now c.self.view_is c.self.invariant.types_are c.datas.ensures
