use Rattle.std.proofs.Common.{sym, ap, ◌∙◌, subst}
use Rattle.gib_syntax.specs.GenericParts.{generic_program_of}
use Rattle.gib_syntax.specs.Parts.{program_of}
use Rattle.gib_syntax.specs.Typing.{IsTypedProgram}
use Rattle.gib_mono.proofs.Ending.{plain_typed}
use Rattle.gib_mono.proofs.program_copy.copy_plain.Goals as goal

pub of-requires : goal.of-requires
of-requires c =
    subst IsTypedProgram (sym c.in_ok-program.ensures)
    (plain_typed (generic_program_of c.args.program) c.requires.below.0 c.requires.below.1 c.requires.typed c.main-inside.ensures.inside.constructors c.requires.plain)

pub returns : goal.returns
returns c = (ap program_of c.in_ok-typed.ensures ∙ c.in_ok-program.ensures, c.in_ok-copies.ensures)
