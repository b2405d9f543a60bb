-- What the count of terms leaves, as the code goes over them.
use Rattle.std.specs.Prelude.{◌≡◌, ℕ, ◌+◌, if◌then◌else◌, List, Option, Some, None}
use Rattle.gib_types.specs.declared.operator.Operator.{Operator}
use Rattle.gib_syntax.specs.declared.tree.TypeName.{TypeName}
use Rattle.gib_syntax.specs.Declarations.{type_of_name}
use Rattle.gib_types.specs.Operators.{operator_type}
use Rattle.gib_core.specs.Rules.{same_type}
use Rattle.gib_local.specs.declared.counting.Tally.{Tally}
use Rattle.gib_local.specs.Building.{Program, program}
use Rattle.gib_local.specs.Counting.{terms, unlike, unlike_in, or_later}
use Rattle.gib_local_parse.specs.TextParts.{TextParts, text_of}
use Rattle.gib_local_parse.specs.Tree.{Line, FunctionText}

-- What the bodies of a text may name.
abbrev pub program_in : TextParts → Program
program_in parts = program (text_of parts)

-- An operation whose written type is not its own is found at its number.
abbrev pub unlike_type : Program → Operator → TypeName → ℕ → Option ℕ
unlike_type p f w n = if same_type (operator_type f) (type_of_name p.table.types w) then None else Some n

-- So many terms were counted, and this was found among them.
pub record Adds (old new : Tally) (n : ℕ) (found : Option ℕ) : Type 0 where
  pub terms : new.terms ≡ old.terms + n
  pub unlike : new.unlike ≡ or_later old.unlike found

-- The terms of a line were counted.
abbrev pub Goes : Program → Line → Tally → Tally → Type 0
Goes p t old new = Adds old new (terms p t) (unlike p t old.terms)

-- The terms of bodies were counted: what is found with any body behind them is found from here.
pub record GoesOver (p : Program) (fs : List FunctionText) (old new : Tally) : Type 0 where
  pub by : (main : Line) → or_later old.unlike (unlike_in p fs main old.terms) ≡ or_later new.unlike (unlike p main new.terms)
