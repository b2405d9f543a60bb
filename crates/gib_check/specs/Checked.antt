-- What a checked program is.
use Rattle.std.specs.Prelude.{◌≡◌, List, length}
use Rattle.gib_syntax.specs.Arena.{tree_of}
use Rattle.gib_syntax.specs.Parts.{Parts, program_of}
use Rattle.gib_syntax.specs.Typing.{IsTypedProgram, globals_of}
use Rattle.gib_check.specs.declared.node_facts.NodeFacts.{NodeFacts}
use Rattle.gib_check.specs.NodeFacts.{AreFacts}

-- The program is typed, and these facts are known of its expressions.
pub record IsChecked (parts : Parts) (facts : List NodeFacts) : Type 0 where
  pub typed : IsTypedProgram (program_of parts)
  pub known : AreFacts (globals_of (program_of parts)) (tree_of parts.exprs) facts
  pub all : length facts ≡ length parts.exprs
