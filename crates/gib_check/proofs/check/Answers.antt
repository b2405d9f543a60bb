use Rattle.std.proofs.Common.{◌≡◌, sym, subst}
use Rattle.gib_syntax.specs.GenericParts.{GenericParts, generic_program_of}
use Rattle.gib_syntax.specs.GenericTyping.{IsTypedGeneric}
use Rattle.gib_check.specs.declared.fault.TypeFault.{TypeFault}
use Rattle.gib_check.specs.Answers.{IsFaultOf}
use Rattle.gib_check.specs.FirstFault.{check_program}
use Rattle.gib_check.proofs.Programs.{program_typed, refused_first, refused_memory, broken_no_answer, broken_told}
use Rattle.gib_check.proofs.check.Goals as goal

abbrev passes : GenericParts → Type 0
passes parts = check_program (generic_program_of parts) ≡ Rattle.std.proofs.Common.Ok (tt {0})

abbrev is_typed : GenericParts → Type 0
is_typed parts = IsTypedGeneric (generic_program_of parts)

pub new-requires : goal.new-requires
new-requires c = subst is_typed (sym c.into_program.ensures) (program_typed (generic_program_of c.in-Ok.named) c.in-Ok-check_rules.ensures)

pub returns-in-Ok-check_rules-clause-typed : goal.returns-in-Ok-check_rules-clause-typed
returns-in-Ok-check_rules-clause-typed c = subst is_typed c.in-Ok.ensures (program_typed (generic_program_of c.in-Ok.named) c.in-Ok-check_rules.ensures)

pub returns-in-Ok-check_rules-clause-told : goal.returns-in-Ok-check_rules-clause-told
returns-in-Ok-check_rules-clause-told c = λ fault e. broken_no_answer (generic_program_of c.args.program) fault (subst passes c.in-Ok.ensures c.in-Ok-check_rules.ensures) e

abbrev refused : TypeFault → GenericParts → Type 0
refused fault parts = IsFaultOf fault (check_program (generic_program_of parts))

pub returns-in-Err-clause-only : goal.returns-in-Err-clause-only
returns-in-Err-clause-only c = refused_memory (generic_program_of c.args.program) c.in-Err.fault (subst (refused c.in-Err.fault) c.in-Ok.ensures c.in-Err.ensures)

pub returns-in-Err-clause-exact : goal.returns-in-Err-clause-exact
returns-in-Err-clause-exact c = refused_first (generic_program_of c.args.program) c.in-Err.fault (subst (refused c.in-Err.fault) c.in-Ok.ensures c.in-Err.ensures)

pub returns-in-Err-clause-told : goal.returns-in-Err-clause-told
returns-in-Err-clause-told c = λ fault e. broken_told (generic_program_of c.args.program) fault c.in-Err.fault (subst (refused c.in-Err.fault) c.in-Ok.ensures c.in-Err.ensures) e
