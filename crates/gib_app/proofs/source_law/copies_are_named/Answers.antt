use Rattle.gib_app.proofs.CopiesNamed.{program_named, program_input, program_output, next_files}
use Rattle.gib_app.proofs.source_law.copies_are_named.Goals as goal

pub returns : goal.returns
returns c = record { names = program_named; input = program_input; output = program_output; next = next_files }
