use Rattle.std.proofs.Common.{ap, ◌∙◌}
use Rattle.gib_syntax.specs.Parts.{Parts, program_of}
use Rattle.gib_syntax.specs.Declarations.{table_of_program, constructor_named}
use Rattle.gib_check.proofs.ArmNames.{named_within}
use Rattle.gib_check.proofs.typed.Typed.constructor.Goals as goal

pub returns-in-Some-clause-within : goal.returns-in-Some-clause-within
returns-in-Some-clause-within c = named_within (table_of_program (program_of c.args.self.now)) c.args.name.0 c.in-Some.con c.number.result (c.number.ensures ∙ ap (λ (p : Parts). constructor_named (table_of_program (program_of p)) c.args.name.0) c.self.view_is) c.in-Some.is
