use Rattle.std.proofs.Common.{◌≡◌, ◌≤◌, ◌∙◌, Err, length, ap, sym, subst, arith}
use Rattle.gib_base.specs.Lexed.{Lexed}
use Rattle.gib_syntax.specs.GenericTree.{GenericProgramTree}
use Rattle.gib_syntax.specs.GenericParts.{GenericParts, generic_program_of}
use Rattle.gib_syntax.specs.GenericTyping.{IsTypedGeneric}
use Rattle.gib_syntax.specs.Spelling.{Derives}
use Rattle.gib_app.specs.declared.stop.Stop.{Stop}
use Rattle.gib_app.specs.PassFaults.{parse_stop}
use Rattle.gib_app.specs.SourceFaults.{HasTokens}
use Rattle.gib_app.specs.Stops.{IsCompileStop}
use Rattle.gib_app.proofs.SourceLaws.{parse_refused, check_refused}
use Rattle.gib_app.proofs.Compiling.{spells, memory_stops}
use Rattle.gib_app.proofs.compile.typed.Goals as goal

pub returns-in-Err-clause-refused : goal.returns-in-Err-clause-refused
returns-in-Err-clause-refused c =
    let source = c.args.source.now in
    let l = c.args.tokens.now in
    let short : length source ≤ 1048576 = omega (arith, c.requires.lexed.len, c.tokens-known.ensures.whole.short) in
    let tokens : HasTokens source l = record { is_lexed = c.requires.lexed; short = short; few_names = c.tokens-known.ensures.whole.few } in
    let P : Stop → Type 0 = IsCompileStop source in
    subst P (sym c.of_parsing.ensures)
    (parse_refused c.one_reading.ensures c.one_blame.ensures.not_blamed c.one_blame.ensures.not_nested source l c.in-Err.fault tokens (λ place e. c.in-Err.ensures.at place (ap Err e)) (λ place e. c.in-Err.ensures.nested place (ap Err e)))

pub returns-in-Err-clause-only : goal.returns-in-Err-clause-only
returns-in-Err-clause-only c = λ l g is typed.
    let same = c.one_reading.ensures c.args.source.now l c.args.tokens.now is.is_lexed c.requires.lexed in
    let D : Lexed → Type 0 = λ x. Derives x.tokens g in
    c.of_parsing.ensures ∙ ap parse_stop (c.in-Err.ensures.accepted g (subst D same is.derived) is.shallow)

pub returns-in-Ok-check-clause-only : goal.returns-in-Ok-check-clause-only
returns-in-Ok-check-clause-only c = λ l g is typed.
    let own = spells c.args.source.now c.args.tokens.now (generic_program_of c.in-Ok.program) c.requires.lexed c.tokens-known.ensures.whole c.in-Ok.ensures.found c.in-Ok.ensures.placed c.in-Ok.ensures.levels in
    ap generic_program_of c.in-Ok-check.ensures.same ∙ (c.one_text.ensures c.args.source.now c.args.tokens.now l (generic_program_of c.in-Ok.program) g own is).1

pub returns-in-Err-check-clause-refused : goal.returns-in-Err-check-clause-refused
returns-in-Err-check-clause-refused c =
    let own = spells c.args.source.now c.args.tokens.now (generic_program_of c.in-Ok.program) c.requires.lexed c.tokens-known.ensures.whole c.in-Ok.ensures.found c.in-Ok.ensures.placed c.in-Ok.ensures.levels in
    let P : Stop → Type 0 = IsCompileStop c.args.source.now in
    subst P (sym c.of_checking.ensures)
    (check_refused c.one_text.ensures c.faults_are_exact.ensures.none c.args.source.now c.args.tokens.now (generic_program_of c.in-Ok.program) own c.in-Err-check.fault c.in-Err-check.ensures.exact)

pub returns-in-Err-check-clause-only : goal.returns-in-Err-check-clause-only
returns-in-Err-check-clause-only c = λ l g is typed.
    let own = spells c.args.source.now c.args.tokens.now (generic_program_of c.in-Ok.program) c.requires.lexed c.tokens-known.ensures.whole c.in-Ok.ensures.found c.in-Ok.ensures.placed c.in-Ok.ensures.levels in
    let same = (c.one_text.ensures c.args.source.now c.args.tokens.now l (generic_program_of c.in-Ok.program) g own is).1 in
    c.of_checking.ensures ∙ memory_stops c.in-Err-check.fault (c.in-Err-check.ensures.only (subst IsTypedGeneric (sym same) typed))
