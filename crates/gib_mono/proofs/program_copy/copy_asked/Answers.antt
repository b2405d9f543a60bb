use Rattle.std.proofs.Common.{ap, ◌∙◌}
use Rattle.gib_syntax.specs.Parts.{program_of}
use Rattle.gib_mono.proofs.program_copy.copy_asked.Goals as goal

pub of-requires : goal.of-requires
of-requires c = c.in_ok-program.ensures.0

pub returns : goal.returns
returns c =
    let all = c.in_ok-program.ensures.1 in
    (all.0, all.1, ap program_of c.in_ok-typed.ensures ∙ all.2, all.3)
