use Rattle.std.proofs.Common.{sym, subst}
use Rattle.gib_plain.specs.declared.Outcome.{Outcome as Answer}
use Rattle.gib_plain.specs.Told.{told}
use Rattle.gib_syntax.specs.Parts.{program_of}
use Rattle.gib_syntax.specs.Declarations.{table_of_program, output_type}
use Rattle.gib_syntax.specs.Meaning.{Outcome, OutcomeHas}
use Rattle.gib_app.proofs.jobs.plain.evaluate.Goals as goal

pub value_line-requires-clause-typed : goal.value_line-requires-clause-typed
value_line-requires-clause-typed c =
    let p = program_of c.args.compiled.now.typed in
    let has = c.results_are_typed.ensures p c.args.depth c.args.value c.requires.ready.fine c.program-program.ensures.typed c.requires.typed in
    let P : Outcome → Type 0 = OutcomeHas (table_of_program p) (output_type p) in
    let N : Answer → Type 0 = λ answer. OutcomeHas (table_of_program p) (output_type p) (told answer) in
    let given = subst N c.in-Ok-Gives.field-0-is (subst P (sym c.in-Ok-Gives.ensures) has) in
    (output_type p, given)
