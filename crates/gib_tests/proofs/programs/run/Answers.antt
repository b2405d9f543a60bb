use Rattle.std.proofs.Common.{sym, subst}
use Rattle.gib_types.specs.Table.{Table}
use Rattle.gib_types.specs.Tree.{HasType}
use Rattle.gib_value.specs.Text.{AreHeld}
use Rattle.gib_plain.specs.declared.Outcome.{Outcome as Answer}
use Rattle.gib_plain.specs.Told.{told}
use Rattle.gib_syntax.specs.Parts.{program_of}
use Rattle.gib_syntax.specs.Declarations.{table_of_program, output_type}
use Rattle.gib_syntax.specs.Meaning.{Outcome, OutcomeHas}
use Rattle.gib_tests.proofs.programs.run.Goals as goal

pub write_text-requires-clause-typed : goal.write_text-requires-clause-typed
write_text-requires-clause-typed c =
    let p = program_of c.args.compiled.now.typed in
    let has = c.results_are_typed.ensures p c.args.depth c.args.value c.requires.ready.fine c.program-program.ensures.typed c.requires.typed in
    let P : Outcome → Type 0 = OutcomeHas (table_of_program p) (output_type p) in
    let N : Answer → Type 0 = λ answer. OutcomeHas (table_of_program p) (output_type p) (told answer) in
    let given = subst N c.in-Ok-Gives.field-0-is (subst P (sym c.in-Ok-Gives.ensures) has) in
    let Q : Table → Type 0 = λ t. HasType t c.in-Ok-Gives.result (output_type p) in
    (output_type p, subst Q (sym c.types-types.ensures) given)

pub write_text-requires-clause-names : goal.write_text-requires-clause-names
write_text-requires-clause-names c =
    let H : Table → Type 0 = λ table. AreHeld table c.args.compiled.now.names.short in
    subst H (sym c.types-types.ensures) c.requires.ready.held
