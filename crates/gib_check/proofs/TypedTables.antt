-- A typed program has a table.
use Rattle.std.specs.List.{AllByRecursion}
use Rattle.gib_types.specs.Table.{IsTable}
use Rattle.gib_syntax.specs.Tree.{ProgramTree}
use Rattle.gib_syntax.specs.Fine.{HasConstructor}
use Rattle.gib_syntax.specs.Declarations.{table_of_program}
use Rattle.gib_syntax.specs.Typing.{IsTypedProgram}
use Rattle.gib_check.proofs.RowRules.{table_is}

pub typed_table : (p : ProgramTree) → IsTypedProgram p → AllByRecursion HasConstructor p.datas → IsTable (table_of_program p)
typed_table p typed h = table_is p (record { types_differ = typed.types_differ; constructors_differ = typed.constructors_differ; few = typed.few_constructors; fields = typed.fields }) h
