-- Whether a code forks at all.
use Rattle.std.specs.Prelude.{Bool, false, ◌||◌, List, [], ◌∷◌, Some, is_some}
use Rattle.gib_code.specs.Instruction.{Instruction}
use Rattle.gib_machine.specs.Sides.{fork_of}

-- A fork stands among these instructions.
abbrev pub has_fork : List Instruction → Bool
has_fork [] = false
has_fork (i ∷ is) = is_some (fork_of (Some i)) || has_fork is
