-- What a LoCal text is, the core that it makes, and why it is refused.
use Rattle.std.specs.Prelude.{◌≡◌, ◌≤◌, ℕ, List, [], ◌∷◌, length, Option, Some, None, Result, Ok, Err}
use Rattle.gib_base.specs.declared.token.Dialect.TheVariants.{Located}
use Rattle.gib_base.specs.declared.token.Token.{Token}
use Rattle.gib_base.specs.Lexed.{Lexed, IsLexedIn}
use Rattle.gib_syntax.specs.Spelling.{Places, places_of}
use Rattle.gib_reads.specs.Readers.{Read}
use Rattle.gib_reads.specs.Readers as reading
use Rattle.gib_check.specs.declared.fault.Fault.{Fault}
use Rattle.gib_check.specs.Faults.{Checked}
use Rattle.gib_core.specs.Tree.{CoreTree}
use Rattle.gib_core.specs.Marking.{mark_core}
use Rattle.gib_core.specs.Rules.{Broken}
use Rattle.gib_local_parse.specs.Tree.{LocalTree}
use Rattle.gib_local_parse.specs.Texts.{spell_text, whole_text}
use Rattle.gib_local_parse.specs.PlacedTexts.{TextAt}
use Rattle.gib_local.specs.Naming.{check_text}
use Rattle.gib_local.specs.Building.{Placed, build_core}
use Rattle.gib_local.specs.Counting.{broken_text}

-- The bytes, at most 1,048,576 with at most 65,535 names, are a text of the grammar in 200 levels, whose names, counts and limits are in order, and that asks for each place
-- that is due; it makes this core.
pub record Local (bytes : List ℕ) (core : CoreTree) : Type 0 where
  pub lexed : Lexed
  pub is_lexed : IsLexedIn Located bytes lexed
  pub short : length bytes ≤ 1048576
  pub few_names : length lexed.names ≤ 65535
  pub tree : LocalTree
  pub spelled : spell_text tree [] ≡ lexed.tokens
  pub placed : TextAt (places_of lexed.spans) tree []
  pub named : check_text tree ≡ Ok tt
  pub made : build_core tree ≡ Ok core

-- Why tokens are refused: no text is read; a rule of names, counts and limits is broken; at this byte another place is due;
-- this build rule is broken at this term.
pub data Refusal : Type 0 where
  Unread : reading.Fault → Refusal
  Misnamed : Fault → Refusal
  Misplaced : ℕ → Refusal
  Breaks : ℕ → ℕ → Refusal

-- A core of a text by its first broken rule; else its pars that may run at the same time are marked.
abbrev pub judged : CoreTree → Broken → Result CoreTree Refusal
judged core None = Ok (mark_core core)
judged core (Some broken) = Err (Breaks broken.0 broken.1)

-- What is answered to the core of a text, or to a place that is not the one due.
abbrev pub placed : LocalTree → Placed CoreTree → Result CoreTree Refusal
placed t (Ok core) = judged core (broken_text t core)
placed t (Err place) = Err (Misplaced place)

-- What is answered to a text whose names were looked up.
abbrev pub named : LocalTree → Checked (Unit {0}) → Result CoreTree Refusal
named t (Ok x) = placed t (build_core t)
named t (Err fault) = Err (Misnamed fault)

-- What is answered to tokens that were read as a text, or were not.
abbrev pub read : Read LocalTree → Result CoreTree Refusal
read (Ok x) = named x.0 (check_text x.0)
read (Err fault) = Err (Unread fault)

-- What is answered to tokens: the first fault, in this order.
abbrev pub answer : Places → List Token → Result CoreTree Refusal
answer at ws = read (whole_text at ws)
