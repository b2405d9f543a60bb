use Rattle.std.proofs.Common.{ap, ◌∙◌, map}
use Rattle.gib_check.specs.Views.{function_name}
use Rattle.gib_check.specs.Functions.{head_in}
use Rattle.gib_check.proofs.Making.{made_table, declared_is}
use Rattle.gib_check.proofs.declared.list_all.Goals as goal

pub make_table-requires : goal.make_table-requires
make_table-requires c = made_table c.args.program.now c.args.types.now c.data_decls.result.now c.data_decls.ensures c.requires.types c.requires.table

pub returns : goal.returns
returns c =
    declared_is c.args.program.now c.args.types.now c.data_decls.result.now c.in_ok-table.table c.in_ok-table.constructors c.in_ok-functions.functions c.in_ok-heads.heads.items c.data_decls.ensures c.requires.types c.in_ok-table.ensures.table c.in_ok-table.ensures.names
    (c.in_ok-functions.ensures ∙ ap (map function_name) c.functions-2.ensures.value)
    (c.in_ok-heads.ensures ∙ ap (map (head_in c.args.types.now)) c.functions.ensures.value)
